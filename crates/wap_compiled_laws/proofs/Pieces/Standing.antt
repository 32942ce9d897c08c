-- A frame that goes on at a place comes to what the instruction there comes to, without the frames
-- that wait.
use Rattle.std.proofs.Common.{◌≡◌, ℕ, zero, suc, ◌-◌, ◌<◌, ◌≤◌, List, [], ◌∷◌, length, refl, ap}
use Rattle.std.proofs.Common.{arith}
use Rattle.wap_value.specs.declared.value.Value.{Value}
use Rattle.wap_value.specs.declared.value.Value.TheVariants.{Str}
use Rattle.wap_execution.specs.Frames.{Function, Frame, code_of}
use Rattle.wap_execution.specs.Effects.{Effect, onward, back, calls, returns, ends}
use Rattle.wap_execution.specs.Effects.{stuck as nowhere, effect_at}
use Rattle.wap_execution.specs.Outcomes.{Outcome, value, fatal, stuck, Ended}
use Rattle.wap_execution.specs.Running.{ended, returned_by, Onward, Ways, at_place, followed_by}
use Rattle.wap_execution.specs.Running.{forward_by, looping_by, Calls}
use Rattle.wap_execution.proofs.LawsLemmas.PlaceLaws.{IsBehind, leads_behind}
use Rattle.wap_meaning.specs.Functions.{plain_ways}
use Rattle.wap_meaning.specs.SourceParts.{turn, came_by, calling, done}
use Rattle.wap_execution.specs.laws.Forgetting.{forgotten}
use Rattle.wap_meaning.specs.Keeping.{GiveNoTurns}
use Rattle.wap_execution.proofs.LawsLemmas.Going.{going, goes_end, here, on_there, again_there}
use Rattle.std.proofs.lemmas.Grind.{common_steps}

-- a call is over with what it gives, and the frames that wait are forgotten
returned_forgotten : {S : Type 0} (frames : List Frame) (next : Value → ℕ → S → Ended S)
    (then : List Value → Value → ℕ → S → Ended S) {variables : List Value} {turns : ℕ}
    → ((v : Value) (left : ℕ) (state : S) → left ≤ turns
    → forgotten (next v left state) ≡ then variables v left state)
    → (outcome : Outcome) {left : ℕ} (state : S) → left ≤ turns
    → forgotten (returned_by frames next outcome left state)
    ≡ done (came_by outcome variables left state)
    (λ v variables left state. then variables v left state)
returned_forgotten frames next then h3 outcome state h6 = grind (arith, common_steps)

module _ {S : Type 0} (string : ℕ) (call : Calls S) (falls : GiveNoTurns call)
    (function : Function) where
  -- its run
  abbrev ways : Ways S
  ways = plain_ways string call

  -- what a frame comes to that goes on at a place
  abbrev pub at : Onward S
  at place variables operands turns state =
      forgotten (going ways function falls place variables operands turns state)

  -- what an effect comes to
  abbrev pub settled : Effect → ℕ → S → Ended S
  settled (onward later variables operands) turns state = at later variables operands turns state
  settled (back earlier variables operands) turns state =
      done (turn variables turns state)
      (λ _ variables turns state. at earlier variables operands turns state)
  settled (calls callee arguments later variables operands) turns state =
      done (calling call callee arguments variables turns state)
      (λ v variables turns state. at later variables (v ∷ operands) turns state)
  settled (returns v) turns state = ended (value v) turns state
  settled (ends why) turns state = ended (fatal why) turns state
  settled nowhere turns state = ended stuck turns state

  -- at the end the function gives ""
  pub at_end : {place : ℕ} (variables operands : List Value) {turns : ℕ} {state : S}
      → place ≡ length (code_of function)
      → at place variables operands turns state ≡ ended (value (Str [])) turns state
  at_end {place} variables operands {turns} {state} is =
      ap forgotten (goes_end ways function falls place variables operands turns state is)

  -- what follows an instruction is settled by its effect
  followed_settled : {place : ℕ} (variables operands : List Value) (turns : ℕ) (state : S)
      (within : place < length (code_of function)) (effect : Effect)
      → IsBehind place effect
      → forgotten (followed_by call function
      (forward_by ways function (looping_by ways function turns)
      (length (code_of function) - place - 1))
      (looping_by ways function turns) effect turns state)
      ≡ settled effect turns state
  followed_settled {place} variables operands turns state within (onward later vs os) behind =
      ap forgotten (on_there ways function falls place variables operands turns state within
      later turns vs os state (omega arith) behind)
  followed_settled variables operands zero state within (back earlier vs os) behind = refl
  followed_settled {place} variables operands (suc left) state within (back earlier vs os) behind =
      ap forgotten (again_there ways function falls place variables operands (suc left) state within
      earlier left vs os state (omega arith))
  followed_settled variables operands zero state within (calls callee arguments later vs os)
      behind = refl
  followed_settled {place} variables operands (suc left) state within
      (calls callee arguments later vs os) behind =
      let end = call callee arguments left state in
      returned_forgotten (at_place function later vs os ∷ [])
      (λ v. forward_by ways function (looping_by ways function (suc left))
      (length (code_of function) - place - 1) later vs (v ∷ os))
      (λ variables v fewer state. at later variables (v ∷ os) fewer state)
      (λ v fewer state less. ap forgotten
      (on_there ways function falls place variables operands (suc left) state within later fewer vs
      (v ∷ os) state (omega arith) behind)) end.outcome end.state
      (falls callee arguments left state)
  followed_settled variables operands turns state within (returns v) behind = refl
  followed_settled variables operands turns state within (ends why) behind = refl
  followed_settled variables operands turns state within nowhere behind = refl

  -- before the end the instruction decides
  pub at_here : {place : ℕ} (variables operands : List Value) (turns : ℕ) (state : S)
      {effect : Effect} → place < length (code_of function)
      → effect_at string (at_place function place variables operands) ≡ effect
      → at place variables operands turns state ≡ settled effect turns state
  at_here {place} variables operands turns state within is =
      grind (arith, common_steps, here, ways, followed_settled, leads_behind, settled)
