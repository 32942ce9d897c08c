-- Reading so many things one after the other, as a loop does.
use Rattle.std.proofs.Common.{◌≡◌, ◌≢◌, ℕ, suc, ◌+◌, ◌-◌, ◌<◌, List, [], ◌∷◌, ◌++◌, Result, Ok}
use Rattle.std.proofs.Common.{Err, sym, ap, subst, ◌∙◌, arith}
use Rattle.std.specs.Prelude.{IsErrAnd}
use Rattle.std.proofs.lemmas.Result.{err_from_is_err_and}
use Rattle.wap_base.specs.Outcome.{◌>>=◌, Meets}
use Rattle.wap_base.specs.formats.ByteReading.{Reader, many}

-- what comes of reading
abbrev Read : Type 0 → Type 0 → Type 0
Read E A = Result (A × List ℕ) E

-- how far the loop has come: so many turns of so many are done
abbrev pub Continues : {E A : Type 0} → (List A → Reader E A) → ℕ → ℕ → ℕ → List A → List ℕ
    → Read E (List A) → Type 0
Continues read end turns done before bytes whole =
    many read (turns - done) before end bytes ≡ whole

module _ {E A : Type 0} (read : List A → Reader E A) (end turns done : ℕ) (before : List A)
    (bytes : List ℕ) (whole : Read E (List A)) where
  -- what is read after a thing
  abbrev rest_of : A × List ℕ → Read E (List A)
  rest_of x = many read (turns - (done + 1)) (before ++ x.0 ∷ []) end x.1

  -- one turn
  turn : done < turns → Continues read end turns done before bytes whole
      → (read before end bytes >>= rest_of) ≡ whole
  turn more so_far =
      let left : turns - done ≡ suc (turns - (done + 1)) = omega arith in
      ap (λ (n : ℕ). many read n before end bytes) (sym left) ∙ so_far

  -- a thing more was read
  pub one_more : (x : A) (rest : List ℕ) → done < turns → read before end bytes ≡ Ok (x, rest)
      → Continues read end turns done before bytes whole
      → Continues read end turns (done + 1) (before ++ x ∷ []) rest whole
  one_more x rest more first so_far =
      ap (λ (r : Read E A). r >>= rest_of) (sym first) ∙ turn more so_far

  -- the loop is left where the next thing is refused, unless memory ran out
  pub left_at : {X : Type 0} (want : E) (view : X → List A × List ℕ) (result : Result X E)
      (fault : E) → IsErrAnd result (λ given. given ≡ fault) → done < turns
      → (fault ≢ want → read before end bytes ≡ Err fault)
      → Continues read end turns done before bytes whole → Meets want view result whole
  left_at {X} want view result fault left more refused so_far =
      let given = err_from_is_err_and result left in
      subst (λ (r : Result X E). Meets want view r whole) (sym (given.1 ∙ ap Err given.2))
      (λ other.
      sym (turn more so_far) ∙ ap (λ (r : Read E A). r >>= rest_of) (refused other))
