-- Frames that wait don't matter to what else runs come to.
use Rattle.std.proofs.Common.{◌≡◌, ℕ, zero, suc, ◌+◌, Bool, true, false, eqb, cond, List, [], ◌∷◌}
use Rattle.std.proofs.Common.{length, refl, sym, ap, ◌∙◌}
use Rattle.std.proofs.Math.Path.{fun_ext}
use Rattle.wap_value.specs.declared.value.Value.{Value}
use Rattle.wap_value.specs.declared.value.Value.TheVariants.{Str}
use Rattle.wap_execution.specs.Frames.{Function, Frame, code_of}
use Rattle.wap_execution.specs.Effects.{Called, Effect, onward, back, calls, effect_at}
use Rattle.wap_execution.specs.Outcomes.{Outcome, value, exit, fatal, waits, stuck, Ended}
use Rattle.wap_execution.specs.Running.{ended, returned_by, returned, Onward, at_place, Calls, Ways}
use Rattle.wap_execution.specs.Running.{followed_by, forward_by, looping_by, goes}
use Rattle.wap_execution.specs.laws.Forgetting.{forgotten_by, forgotten, ForgetsFrames}

module _ {S : Type 0} where
  -- a call is over with what it gives
  then_by : (Value → ℕ → S → Ended S) → Outcome → ℕ → S → Ended S
  then_by next (value v) turns state = next v turns state
  then_by next outcome turns state = forgotten_by outcome turns state

  abbrev then : (Value → ℕ → S → Ended S) → Ended S → Ended S
  then next first = then_by next first.outcome first.turns first.state

  -- what frames make of a call, by what the call comes to without the frames that wait
  forgets_by : (frames : List Frame) (next : Value → ℕ → S → Ended S) (outcome : Outcome)
      (turns : ℕ) (state : S)
      → forgotten (returned_by frames next outcome turns state)
      ≡ then (λ v t s. forgotten (next v t s)) (forgotten_by outcome turns state)
  unfolding then_by
  forgets_by frames next (value v) turns state = refl
  forgets_by frames next (exit v) turns state = refl
  forgets_by frames next (fatal why) turns state = refl
  forgets_by frames next (waits dialog inner) turns state = refl
  forgets_by frames next stuck turns state = refl

  -- both come to the same without the frames that wait
  abbrev Same : (ℕ → S → Ended S) → (ℕ → S → Ended S) → Type 0
  Same one other = (turns : ℕ) (state : S)
      → forgotten (one turns state) ≡ forgotten (other turns state)

  abbrev SameOnward : Onward S → Onward S → Type 0
  SameOnward one other = (place : ℕ) (variables operands : List Value)
      → Same (one place variables operands) (other place variables operands)

  -- calls that come to the same without the frames that wait leave frames with the same
  same_returned : (frames : List Frame) (one other : Value → ℕ → S → Ended S)
      → ((v : Value) → Same (one v) (other v)) → (first second : Ended S)
      → forgotten first ≡ forgotten second
      → forgotten (returned frames one first) ≡ forgotten (returned frames other second)
  same_returned frames one other same first second is =
      forgets_by frames one first.outcome first.turns first.state
      ∙ ap (λ (next : Value → ℕ → S → Ended S). then next (forgotten first))
      (fun_ext (λ v. fun_ext (λ t. fun_ext (λ s. same v t s))))
      ∙ ap (λ (c : Ended S). then (λ v t s. forgotten (other v t s)) c) is
      ∙ sym (forgets_by frames other second.outcome second.turns second.state)

  module _ (ways : Ways S) (other : Calls S)
      (same : (callee : Called) (arguments : List Value)
      → Same (ways.call callee arguments) (other callee arguments))
      (function : Function) where
    -- effects come to the same where calls do
    followed_same : (on again on' again' : Onward S) → SameOnward on on' → SameOnward again again'
        → (effect : Effect)
        → Same (followed_by ways.call function on again effect)
        (followed_by other function on' again' effect)
    followed_same on again on' again' ons agains (onward place variables operands) turns state =
        ons place variables operands turns state
    followed_same on again on' again' ons agains (back place variables operands) zero state = refl
    followed_same on again on' again' ons agains (back place variables operands) (suc turns)
        state = agains place variables operands turns state
    followed_same on again on' again' ons agains
        (calls callee arguments place variables operands) zero state = refl
    followed_same on again on' again' ons agains
        (calls callee arguments place variables operands) (suc turns) state =
        same_returned (at_place function place variables operands ∷ [])
        (λ v. on place variables (v ∷ operands)) (λ v. on' place variables (v ∷ operands))
        (λ v. ons place variables (v ∷ operands)) (ways.call callee arguments turns state)
        (other callee arguments turns state) (same callee arguments turns state)
    followed_same on again on' again' ons agains _ turns state = refl

    -- so do frames that go on further on
    forward_same : (again again' : Onward S) → SameOnward again again' → (left : ℕ)
        → SameOnward (forward_by ways function again left)
        (forward_by (record ways { call = other }) function again' left)
    unfolding forward_by
    forward_same again again' agains zero place variables operands turns state =
        elim (eqb place (length (code_of function))) as (λ (b : Bool).
        forgotten (cond b (ended (value (Str [])) turns state) (ended stuck turns state))
        ≡ forgotten
        (cond b (ended (value (Str [])) turns state) (ended stuck turns state))) [
          | true ↦ refl
          | false ↦ refl
        ]
    forward_same again again' agains (suc left) place variables operands turns state =
        let effect = effect_at ways.string (at_place function place variables operands) in
        let on = forward_by ways function again left in
        let on' = forward_by (record ways { call = other }) function again' left in
        elim (eqb (place + suc left) (length (code_of function))) as (λ (b : Bool).
        forgotten (cond b (followed_by ways.call function on again effect turns (ways.tick state))
        (on place variables operands turns state))
        ≡ forgotten (cond b (followed_by other function on' again' effect turns (ways.tick state))
        (on' place variables operands turns state))) [
          | true ↦
              followed_same on again on' again' (forward_same again again' agains left) agains
              effect turns (ways.tick state)
          | false ↦ forward_same again again' agains left place variables operands turns state
        ]

    -- so do frames that go back
    looping_same : (jumps : ℕ)
        → SameOnward (looping_by ways function jumps)
        (looping_by (record ways { call = other }) function jumps)
    unfolding looping_by
    looping_same zero place variables operands turns state = refl
    looping_same (suc jumps) place variables operands turns state =
        forward_same (looping_by ways function jumps)
        (looping_by (record ways { call = other }) function jumps) (looping_same jumps)
        (length (code_of function)) place variables operands turns state

  -- so do frames
  goes_same : (ways : Ways S) (other : Calls S)
      → ((callee : Called) (arguments : List Value)
      → Same (ways.call callee arguments) (other callee arguments)) → (frame : Frame)
      → Same (goes ways frame) (goes (record ways { call = other }) frame)
  unfolding goes
  goes_same ways other same frame turns state =
      looping_same ways other same frame.function (suc turns) frame.place
      frame.variables frame.operands turns state

-- of all states
pub agrees : (S : Type 0) → ForgetsFrames S
agrees S = record { forgets = goes_same }
