-- A run that is counted is the run itself with a count beside it.
use Rattle.std.proofs.Common.{◌≡◌, ℕ, zero, suc, ◌+◌, ◌-◌, Bool, true, false, eqb, leb, cond}
use Rattle.std.proofs.Common.{List, [], ◌∷◌, length, Option, Some, None, refl, ap, ◌∙◌}
use Rattle.wap_base.specs.declared.limits.Limits.{Limits}
use Rattle.wap_base.specs.declared.limits.TheConstants.{MOST_DEPTH}
use Rattle.wap_value.specs.declared.value.Value.{Value}
use Rattle.wap_value.specs.declared.value.Value.TheVariants.{Str}
use Rattle.wap_unit.specs.declared.unit.Unit.{Unit as CodeUnit}
use Rattle.wap_unit.specs.declared.unit.Code.{Code}
use Rattle.wap_execution.specs.declared.fatal.Fatal.TheVariants.{Depth}
use Rattle.wap_execution.specs.declared.found.Found.{Found}
use Rattle.wap_execution.specs.declared.found.Found.TheVariants.{Callee, Not}
use Rattle.wap_execution.specs.declared.library.HostOut.{HostOut}
use Rattle.wap_execution.specs.declared.library.HostOut.TheVariants as answer
use Rattle.wap_execution.specs.Frames.{Function, Frame, code_at, code_of, begun, pushed}
use Rattle.wap_execution.specs.Effects.{Called, local, library, external, Effect, onward, back}
use Rattle.wap_execution.specs.Effects.{calls, effect_at}
use Rattle.wap_execution.specs.Outcomes.{Outcome, value, fatal, waits}
use Rattle.wap_execution.specs.Outcomes.{stuck, Ended, Hosting, Setting}
use Rattle.wap_execution.specs.Running.{ended, returned_by, returned, Enter, Onward, library_gave}
use Rattle.wap_execution.specs.Running.{entered, called, at_place, run_by, began, enter, run}
use Rattle.wap_execution.specs.Running.{resumed, finished, forward_by, looping_by, goes}
use Rattle.wap_execution.specs.laws.Settings.{uncounted, Counted, counting}
use Rattle.wap_execution.specs.laws.Dialogs.{answered_by, continued, alone, with_count}
use Rattle.wap_execution.specs.laws.Counts.{without_count, AgreesUncounted}
use Rattle.wap_execution.proofs.LawsLemmas.FrameRuns.{followed, forward, looping}

module _ {S : Type 0} (limits : Limits) (host : Hosting S) where
  abbrev State : Type 0
  State = Counted S

  abbrev with : Setting State
  with = counting limits host

  abbrev without : Setting S
  without = uncounted limits host

  -- both come to the same
  abbrev Same : (ℕ → State → Ended State) → (ℕ → S → Ended S) → Type 0
  Same one other =
      (turns : ℕ) (counted : State)
      → without_count (one turns counted) ≡ other turns counted.state

  abbrev SameEnter : Enter State → Enter S → Type 0
  SameEnter one other =
      (function : Function) (arguments : List Value)
      → Same (one function arguments) (other function arguments)

  abbrev SameOnward : Onward State → Onward S → Type 0
  SameOnward one other =
      (place : ℕ) (variables operands : List Value)
      → Same (one place variables operands) (other place variables operands)

  module _ (frames : List Frame) (one : Value → ℕ → State → Ended State)
      (other : Value → ℕ → S → Ended S) (same : (v : Value) → Same (one v) (other v)) where
    returned_by_same : (outcome : Outcome)
        → Same (returned_by frames one outcome) (returned_by frames other outcome)
    returned_by_same (value v) turns counted = same v turns counted
    returned_by_same _ turns counted = refl

    returned_same : (end : Ended State) (end' : Ended S) → without_count end ≡ end'
        → without_count (returned frames one end) ≡ returned frames other end'
    returned_same end end' is =
        returned_by_same end.outcome end.turns end.state
        ∙ ap (λ (e : Ended S). returned frames other e) is

  -- ---- calls

  library_same : (gave : HostOut) → Same (library_gave gave) (library_gave gave)
  library_same (answer.Value v) turns counted = refl
  library_same (answer.Exit v) turns counted = refl
  library_same (answer.Fatal why) turns counted = refl
  library_same (answer.Asks dialog) turns counted = refl

  module _ (working : ℕ) (into : Enter State) (into' : Enter S) (intos : SameEnter into into')
      (function : Function) where
    entered_same : (arguments : List Value) (found : Found CodeUnit)
        → Same (entered into function.base arguments found)
        (entered into' function.base arguments found)
    entered_same arguments (Callee unit base index) turns counted =
        intos (record { unit = unit; base = base; referer = Some function.base; index = index })
        arguments turns counted
    entered_same arguments (Not why) turns counted = refl

    called_same : (callee : Called) (arguments : List Value)
        → Same (called with working into function callee arguments)
        (called without working into' function callee arguments)
    called_same (local index) arguments turns counted =
        elim (leb limits.depth working) as (λ (b : Bool).
        without_count (cond b (ended (fatal Depth) turns counted)
        (into (record function { index = index }) arguments turns counted))
        ≡ cond b (ended (fatal Depth) turns counted.state)
        (into' (record function { index = index }) arguments turns counted.state)) [
          | true ↦ refl
          | false ↦ intos (record function { index = index }) arguments turns counted
        ]
    called_same (library number index) arguments turns counted =
        let gave =
        host.library counted.state function.base function.referer number index arguments in
        library_same gave.0 turns (record counted { state = gave.1 })
    called_same (external url name) arguments turns counted =
        let found =
        host.external counted.state function.base url name (length arguments) working in
        entered_same arguments found.0 turns (record counted { state = found.1 })

    -- ---- one frame

    followed_same : (on again : Onward State) (on' again' : Onward S) → SameOnward on on'
        → SameOnward again again' → (effect : Effect)
        → Same (followed with working into function on again effect)
        (followed without working into' function on' again' effect)
    followed_same on again on' again' ons agains (onward place variables operands) turns counted =
        ons place variables operands turns counted
    followed_same on again on' again' ons agains (back place variables operands) zero counted = refl
    followed_same on again on' again' ons agains (back place variables operands) (suc turns)
        counted = agains place variables operands turns counted
    followed_same on again on' again' ons agains (calls callee arguments place variables operands)
        zero counted = refl
    followed_same on again on' again' ons agains (calls callee arguments place variables operands)
        (suc turns) counted =
        returned_same (at_place function place variables operands ∷ [])
        (λ v. on place variables (v ∷ operands)) (λ v. on' place variables (v ∷ operands))
        (λ v turns counted. ons place variables (v ∷ operands) turns counted)
        (called with working into function callee arguments turns counted)
        (called without working into' function callee arguments turns counted.state)
        (called_same callee arguments turns counted)
    followed_same on again on' again' ons agains _ turns counted = refl

    forward_same : (again : Onward State) (again' : Onward S) → SameOnward again again'
        → (left : ℕ)
        → SameOnward (forward with working into function again left)
        (forward without working into' function again' left)
    unfolding forward_by
    forward_same again again' agains zero place variables operands turns counted =
        elim (eqb place (length (code_of function))) as (λ (b : Bool). without_count
        (cond b (ended (value (Str [])) turns counted) (ended stuck turns counted))
        ≡ cond b (ended (value (Str [])) turns counted.state)
        (ended stuck turns counted.state)) [
          | true ↦ refl
          | false ↦ refl
        ]
    forward_same again again' agains (suc left) place variables operands turns counted =
        let effect = effect_at limits.string (at_place function place variables operands) in
        let on = forward with working into function again left in
        let on' = forward without working into' function again' left in
        elim (eqb (place + suc left) (length (code_of function))) as (λ (b : Bool). without_count
        (cond b (followed with working into function on again effect turns
        (with.tick function counted))
        (on place variables operands turns counted))
        ≡ cond b (followed without working into' function on' again' effect turns counted.state)
        (on' place variables operands turns counted.state)) [
          | true ↦
              followed_same on again on' again' (forward_same again again' agains left) agains
              effect turns (with.tick function counted)
          | false ↦
              forward_same again again' agains left place variables operands turns counted
        ]

    looping_same : (jumps : ℕ)
        → SameOnward (looping with working into function jumps)
        (looping without working into' function jumps)
    unfolding looping_by
    looping_same zero place variables operands turns counted = refl
    looping_same (suc jumps) place variables operands turns counted =
        forward_same (looping with working into function jumps)
        (looping without working into' function jumps) (looping_same jumps)
        (length (code_of function)) place variables operands turns counted

  run_by_same : (working : ℕ) (into : Enter State) (into' : Enter S) → SameEnter into into'
      → (frame : Frame) → Same (run_by with working into frame) (run_by without working into' frame)
  unfolding goes
  run_by_same working into into' intos frame turns counted =
      looping_same working into into' intos frame.function
      (suc turns) frame.place frame.variables frame.operands turns counted

  began_same : (working : ℕ) (into : Enter State) (into' : Enter S) → SameEnter into into'
      → (function : Function) (code : Option Code) (arguments : List Value)
      → Same (began with working into function code arguments)
      (began without working into' function code arguments)
  began_same working into into' intos function None arguments turns counted = refl
  began_same working into into' intos function (Some code) arguments turns counted =
      elim (eqb (length arguments) code.args) as (λ (b : Bool).
      without_count (cond b
      (run_by with working into (begun function code arguments) turns counted)
      (ended stuck turns counted))
      ≡ cond b (run_by without working into' (begun function code arguments) turns counted.state)
      (ended stuck turns counted.state)) [
        | true ↦ run_by_same working into into' intos (begun function code arguments) turns counted
        | false ↦ refl
      ]

  -- ---- all frames

  enter_same : (more : ℕ) → SameEnter (enter with more) (enter without more)
  unfolding enter
  enter_same zero function arguments turns counted = refl
  enter_same (suc more) function arguments turns counted =
      began_same (MOST_DEPTH - more) (enter with more) (enter without more) (enter_same more)
      function (code_at function) arguments turns counted

  run_same : (frame : Frame) (outer : List Frame)
      → Same (run with frame outer) (run without frame outer)
  run_same frame outer turns counted =
      let more = MOST_DEPTH - length (frame ∷ outer) in
      run_by_same (length (frame ∷ outer)) (enter with more) (enter without more) (enter_same more)
      frame turns counted

  resumed_same : (frames : List Frame) (v : Value)
      → Same (resumed with frames v) (resumed without frames v)
  unfolding resumed
  resumed_same [] v turns counted = refl
  resumed_same (frame ∷ outer) v turns counted =
      returned_same outer (resumed with outer) (resumed without outer) (resumed_same outer)
      (run with (pushed v frame) outer turns counted)
      (run without (pushed v frame) outer turns counted.state)
      (run_same (pushed v frame) outer turns counted)

  finished_same : (frames : List Frame) → Same (finished with frames) (finished without frames)
  unfolding finished
  finished_same [] turns counted = refl
  finished_same (frame ∷ outer) turns counted =
      returned_same outer (resumed with outer) (resumed without outer) (resumed_same outer)
      (run with frame outer turns counted) (run without frame outer turns counted.state)
      (run_same frame outer turns counted)

  -- ---- after dialogs

  answered_same : (v : Value) (state : S) (end : Ended State) (outcome : Outcome)
      → without_count (answered_by with with_count v state end outcome)
      ≡ answered_by without alone v state (without_count end) outcome
  answered_same v state end (waits dialog frames) =
      resumed_same frames v end.turns (with_count state end.state)
  answered_same v state end _ = refl

  continued_same : (answers : List (Value × S)) (end : Ended State)
      → without_count (continued with with_count answers end)
      ≡ continued without alone answers (without_count end)
  continued_same [] end = refl
  continued_same (one ∷ more) end =
      continued_same more (answered_by with with_count one.0 one.1 end end.outcome)
      ∙ ap (λ (e : Ended S). continued without alone more e)
      (answered_same one.0 one.1 end end.outcome)

  pub agrees : AgreesUncounted limits host
  agrees = record {
    finishing =
        λ frames turns counted answers.
        continued_same answers (finished with frames turns counted)
        ∙ ap (λ (e : Ended S). continued without alone answers e)
        (finished_same frames turns counted);
    resuming =
        λ frames v turns counted answers.
        continued_same answers (resumed with frames v turns counted)
        ∙ ap (λ (e : Ended S). continued without alone answers e)
        (resumed_same frames v turns counted);
  }
