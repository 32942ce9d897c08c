-- Items that are gathered as they are read give what their list gives.
use Rattle.std.proofs.Common.{◌≡◌, ℕ, zero, suc, ◌+◌, ◌-◌, ◌<◌, Bool, true, List, ◌∷◌}
use Rattle.std.proofs.Common.{Option, Some, None, Ok, Err, refl, sym, ap, ◌∙◌, arith}
use Rattle.wap_base.specs.Outcome.{◌>>=◌}
use Rattle.wap_wbxml.specs.declared.fault.DocFault.{DocFault}
use Rattle.wap_wbxml.specs.reading.ByteReading.{Reading, Next, told, chained, run_at}
use Rattle.wap_wbxml.specs.reading.Gathering.{read_as, gathered, with_next, gone_on, gather_at}

-- a reading that is made into something in two ways that agree
pub same_as : {A B S : Type 0} (make other : A → B) → ((x : A) → make x ≡ other x)
    → (read : Reading (A × S)) → read_as make read ≡ read_as other read
same_as {B = B} make other same (Ok x) = ap (λ (y : B). Ok ((y, x.0.1), x.1)) (same x.0.0)
same_as make other same (Err fault) = refl

-- an item before those that are read after it
item_first : {A B S : Type 0} (add : B → A → B) (known : B) (item : A) (read : Reading (List A × S))
    → read_as (gathered add (add known item)) read
    ≡ read_as (gathered add known) (told (λ others. (item ∷ others.0, others.1)) read)
item_first add known item (Ok x) = refl
item_first add known item (Err fault) = refl

module _ {A B S : Type 0} (add : B → A → B) (next : Next A S)
    (spent : S → List ℕ → Reading (List A × S)) where
  -- the next item, where those after it are gathered so
  next_gathered : (left : ℕ) (known : B)
      → ((known : B) (state : S) (bytes : List ℕ)
      → gather_at add next spent left known state bytes
      ≡ read_as (gathered add known) (run_at next spent left state bytes))
      → (read : Reading (Option A × S))
      → (read_as (with_next add known) read >>= gone_on (gather_at add next spent left))
      ≡ read_as (gathered add known) (read >>= chained (run_at next spent left))
  next_gathered left known others (Ok ((None, state), bytes)) = refl
  next_gathered left known others (Ok ((Some item, state), bytes)) =
      others (add known item) state bytes
      ∙ item_first add known item (run_at next spent left state bytes)
  next_gathered left known others (Err fault) = refl

  -- all items give what their list gives
  all_gathered : (left : ℕ) (known : B) (state : S) (bytes : List ℕ)
      → gather_at add next spent left known state bytes
      ≡ read_as (gathered add known) (run_at next spent left state bytes)
  all_gathered zero known state bytes = refl
  all_gathered (suc left) known state bytes =
      next_gathered left known (all_gathered left) (next state bytes)

  -- a loop begins with what no items give, where what all give is known
  pub begins : (make : List A → B) (known : B)
      → ((items : List A) → gathered add known items ≡ make items)
      → (turns : ℕ) (state : S) (bytes : List ℕ)
      → gather_at add next spent (turns - 0) known state bytes
      ≡ read_as make (run_at next spent turns state bytes)
  begins make known gives turns state bytes =
      let all : turns - 0 ≡ turns = omega arith in
      ap (λ (n : ℕ). gather_at add next spent n known state bytes) all
      ∙ all_gathered turns known state bytes
      ∙ same_as (gathered add known) make gives (run_at next spent turns state bytes)

  module _ (turns done : ℕ) (known : B) (state : S) (bytes : List ℕ) (whole : Reading (B × S)) where
    -- the next turn
    turn : done < turns → gather_at add next spent (turns - done) known state bytes ≡ whole
        → (read_as (with_next add known) (next state bytes)
        >>= gone_on (gather_at add next spent (turns - (done + 1))))
        ≡ whole
    turn more so_far =
        let left : turns - done ≡ suc (turns - (done + 1)) = omega arith in
        ap (λ (n : ℕ). gather_at add next spent n known state bytes) (sym left) ∙ so_far

    -- one turn more
    pub one_more : (after : B) (state_after : S) (rest : List ℕ) → done < turns
        → read_as (with_next add known) (next state bytes)
        ≡ Ok (((true, after), state_after), rest)
        → gather_at add next spent (turns - done) known state bytes ≡ whole
        → gather_at add next spent (turns - (done + 1)) after state_after rest ≡ whole
    one_more after state_after rest more first so_far =
        ap (λ (r : Reading ((Bool × B) × S)).
        r >>= gone_on (gather_at add next spent (turns - (done + 1)))) (sym first)
        ∙ turn more so_far

    -- an item is refused
    pub stopped : (fault : DocFault) → done < turns
        → read_as (with_next add known) (next state bytes) ≡ Err fault
        → gather_at add next spent (turns - done) known state bytes ≡ whole → whole ≡ Err fault
    stopped fault more first so_far =
        sym (turn more so_far) ∙ ap (λ (r : Reading ((Bool × B) × S)).
        r >>= gone_on (gather_at add next spent (turns - (done + 1)))) first
