-- Reading items one after the other, as a loop does.
use Rattle.std.proofs.Common.{◌≡◌, ◌≢◌, ℕ, suc, ◌+◌, ◌-◌, ◌<◌, List, [], ◌∷◌, ◌++◌, length}
use Rattle.std.proofs.Common.{Option, Some, None, Result, Ok, Err, refl, sym, ap, subst, ◌∙◌}
use Rattle.std.proofs.Common.{append_assoc, arith}
use Rattle.std.proofs.lemmas.List.{append-nil}
use Rattle.wap_base.specs.Outcome.{◌>>=◌, Meets}
use Rattle.wap_grammar.specs.declared.fault.ParseFault.{ParseFault}
use Rattle.wap_grammar.specs.declared.fault.ParseFault.TheVariants as faults
use Rattle.wap_grammar.specs.declared.lexeme.Lexeme.{Lexeme}
use Rattle.wap_grammar.specs.reading.TokenReading.{Reading, Next, told, one_more, run_at, items_at}

-- what was read before, and what is still read
abbrev pub with_front : {A : Type 0} → List A → Reading (List A) → Reading (List A)
with_front front read = told (λ items. front ++ items) read

-- how far the loop has come: so many turns of so many are done
abbrev pub Continues : {A : Type 0} → Next A → ℕ → ℕ → List A → List Lexeme → Reading (List A) →
    Type 0
Continues next turns done front rest whole =
    with_front front (run_at next (turns - done) rest) ≡ whole

regrouped : {A : Type 0} (front : List A) (item : A) (read : Reading (List A)) →
    with_front front (told (λ items. item ∷ items) read) ≡ with_front (front ++ item ∷ []) read
regrouped {A = A} front item (Ok x) =
    ap (λ (items : List A). Ok (items, x.1)) (sym (append_assoc front (item ∷ []) x.0))
regrouped front item (Err f) = refl

module _ {A : Type 0} (next : Next A) (turns done : ℕ) (front : List A) (rest : List Lexeme)
    (whole : Reading (List A)) where
  turn : done < turns → Continues next turns done front rest whole →
      with_front front (next rest >>= one_more (run_at next (turns - (done + 1)))) ≡ whole
  turn more so_far =
      let left : turns - done ≡ suc (turns - (done + 1)) = omega arith in
      ap (λ (n : ℕ). with_front front (run_at next n rest)) (sym left) ∙ so_far

  pub another : (item : A) (behind : List Lexeme) → done < turns →
      next rest ≡ Ok (Some item, behind) → Continues next turns done front rest whole →
      Continues next turns (done + 1) (front ++ item ∷ []) behind whole
  another item behind more first so_far =
      sym (regrouped front item (run_at next (turns - (done + 1)) behind))
      ∙ ap (λ (r : Reading (Option A)). with_front front
      (r >>= one_more (run_at next (turns - (done + 1))))) (sym first)
      ∙ turn more so_far

  pub no_other : (behind : List Lexeme) → done < turns → next rest ≡ Ok (None, behind) →
      Continues next turns done front rest whole → whole ≡ Ok (front, behind)
  no_other behind more first so_far =
      sym (turn more so_far)
      ∙ ap (λ (r : Reading (Option A)). with_front front
      (r >>= one_more (run_at next (turns - (done + 1))))) first
      ∙ ap (λ (items : List A). Ok (items, behind)) (append-nil front)

  pub at_fault : (fault : ParseFault) → done < turns → next rest ≡ Err fault →
      Continues next turns done front rest whole → whole ≡ Err fault
  at_fault fault more first so_far =
      sym (turn more so_far)
      ∙ ap (λ (r : Reading (Option A)). with_front front
      (r >>= one_more (run_at next (turns - (done + 1))))) first

nothing_before : {A : Type 0} (read : Reading (List A)) → with_front [] read ≡ read
nothing_before (Ok x) = refl
nothing_before (Err f) = refl

-- a loop begins with no item, or with one
pub begins : {A : Type 0} (next : Next A) (front : List A) (lexemes : List Lexeme) → front ≡ [] →
    Continues next (length lexemes) 0 front lexemes (items_at next lexemes)
unfolding items_at
begins {A = A} next front lexemes none =
    let all : length lexemes - 0 ≡ length lexemes = omega arith in
    ap (λ (items : List A). with_front items (run_at next (length lexemes - 0) lexemes)) none
    ∙ nothing_before (run_at next (length lexemes - 0) lexemes)
    ∙ ap (λ (n : ℕ). run_at next n lexemes) all

one_before : {A : Type 0} (item : A) (read : Reading (List A)) →
    with_front (item ∷ []) read ≡ told (λ items. item ∷ items) read
one_before item (Ok x) = refl
one_before item (Err f) = refl

pub begins_with : {A : Type 0} (next : Next A) (item : A) (front : List A) (lexemes : List Lexeme) →
    front ≡ item ∷ [] →
    Continues next (length lexemes) 0 front lexemes
    (told (λ items. item ∷ items) (items_at next lexemes))
unfolding items_at
begins_with {A = A} next item front lexemes one =
    let all : length lexemes - 0 ≡ length lexemes = omega arith in
    ap (λ (items : List A). with_front items (run_at next (length lexemes - 0) lexemes)) one
    ∙ one_before item (run_at next (length lexemes - 0) lexemes)
    ∙ ap (λ (n : ℕ). told (λ items. item ∷ items) (run_at next n lexemes)) all

-- a loop that is left at a fault, unless memory ran out
pub at_exit : {X Y : Type 0} (view : X → Y) (result : Result X ParseFault) (fault : ParseFault)
    (whole : Result Y ParseFault) → result ≡ Err fault →
    (fault ≢ faults.NoMemory → whole ≡ Err fault) → Meets faults.NoMemory view result whole
at_exit {X = X} view result fault whole is fails =
    subst (λ (r : Result X ParseFault). Meets faults.NoMemory view r whole) (sym is) fails
