-- What runs by the definitions leave: turns only fall, and states stay kin.
use Rattle.std.proofs.Common.{ℕ, zero, suc, ◌+◌, ◌-◌, ◌≤◌, Bool, true, false, eqb, leb, cond, List}
use Rattle.std.proofs.Common.{[], ◌∷◌, length, Option, Some, None, arith}
use Rattle.wap_base.specs.declared.limits.TheConstants.{MOST_DEPTH}
use Rattle.wap_value.specs.declared.value.Value.{Value}
use Rattle.wap_value.specs.declared.value.Value.TheVariants.{Str}
use Rattle.wap_url.specs.declared.url.Url.{Url}
use Rattle.wap_unit.specs.declared.unit.Unit.{Unit as CodeUnit}
use Rattle.wap_unit.specs.declared.unit.Code.{Code}
use Rattle.wap_execution.specs.declared.fatal.Fatal.TheVariants.{Budget, Depth}
use Rattle.wap_execution.specs.declared.found.Found.{Found}
use Rattle.wap_execution.specs.declared.found.Found.TheVariants.{Callee, Not}
use Rattle.wap_execution.specs.declared.library.HostOut.{HostOut}
use Rattle.wap_execution.specs.declared.library.HostOut.TheVariants as answer
use Rattle.wap_execution.specs.Frames.{Function, Frame, code_at, code_of, begun, pushed}
use Rattle.wap_execution.specs.Effects.{Called, local, library, external, Effect, onward, back}
use Rattle.wap_execution.specs.Effects.{calls, returns, ends, stuck as nowhere, effect_at}
use Rattle.wap_execution.specs.Outcomes.{Outcome, value, fatal, stuck, Ended, Setting}
use Rattle.wap_execution.specs.Running.{ended, returned_by, Enter, Onward, library_gave, entered}
use Rattle.wap_execution.specs.Running.{called, at_place, run_by, began, enter, run, resumed}
use Rattle.wap_execution.specs.Running.{finished, forward_by, looping_by, goes}
use Rattle.wap_execution.proofs.LawsLemmas.FrameRuns.{followed, forward, looping}
use Rattle.wap_execution.proofs.LawsLemmas.Going.{TurnsFall}

-- ---- turns only fall, and a state's kin are kept

-- a relation that the host and the tick keep
pub record Keeps {S : Type 0} (setting : Setting S) (Kin : S → S → Type 0) : Type 0 where
  pub same : (state : S) → Kin state state
  pub chained : (one two three : S) → Kin one two → Kin two three → Kin one three
  pub ticks : (function : Function) (state : S) → Kin state (setting.tick function state)
  pub external : (state : S) (caller : Url) (url name : List ℕ) (count working : ℕ)
      → Kin state (setting.host.external state caller url name count working).1
  pub library : (state : S) (base : Url) (referer : Option Url) (number index : ℕ)
      (arguments : List Value)
      → Kin state (setting.host.library state base referer number index arguments).1

pub record Follows {S : Type 0} (Kin : S → S → Type 0) (turns : ℕ) (state : S)
    (end : Ended S) : Type 0 where
  pub turns_fall : end.turns ≤ turns
  pub kin : Kin state end.state

abbrev pub EnterFollows : {S : Type 0} (Kin : S → S → Type 0) → Enter S → Type 0
EnterFollows {S} Kin into =
    (function : Function) (arguments : List Value) (turns : ℕ) (state : S)
    → Follows Kin turns state (into function arguments turns state)

abbrev pub OnwardFollows : {S : Type 0} (Kin : S → S → Type 0) → Onward S → Type 0
OnwardFollows {S} Kin on =
    (place : ℕ) (variables operands : List Value) (turns : ℕ) (state : S)
    → Follows Kin turns state (on place variables operands turns state)

module _ {S : Type 0} (setting : Setting S) (Kin : S → S → Type 0) (keeps : Keeps setting Kin) where
  stays : (outcome : Outcome) (turns : ℕ) (state : S)
      → Follows Kin turns state (ended outcome turns state)
  stays outcome turns state = record { turns_fall = omega arith; kin = keeps.same state }

  after_all : (turns left : ℕ) (state later : S) (end : Ended S) → left ≤ turns → Kin state later
      → Follows Kin left later end → Follows Kin turns state end
  after_all turns left state later end fewer kin follows = record {
    turns_fall = let falls = follows.turns_fall in omega arith;
    kin = keeps.chained state later end.state kin follows.kin;
  }

  pub returned_follows : (frames : List Frame) (next : Value → ℕ → S → Ended S)
      → ((v : Value) (turns : ℕ) (state : S) → Follows Kin turns state (next v turns state))
      → (turns : ℕ) (state : S) (outcome : Outcome) (left : ℕ) (later : S) → left ≤ turns
      → Kin state later → Follows Kin turns state (returned_by frames next outcome left later)
  returned_follows frames next nexts turns state (value v) left later fewer kin =
      after_all turns left state later (next v left later) fewer kin (nexts v left later)
  returned_follows frames next nexts turns state _ left later fewer kin =
      record { turns_fall = fewer; kin = kin }

  pub library_follows : (gave : HostOut) (turns : ℕ) (state later : S) → Kin state later
      → Follows Kin turns state (library_gave gave turns later)
  library_follows (answer.Value v) turns state later kin =
      record { turns_fall = omega arith; kin = kin }
  library_follows (answer.Exit v) turns state later kin =
      record { turns_fall = omega arith; kin = kin }
  library_follows (answer.Fatal why) turns state later kin =
      record { turns_fall = omega arith; kin = kin }
  library_follows (answer.Asks dialog) turns state later kin =
      record { turns_fall = omega arith; kin = kin }

  pub entered_follows : (into : Enter S) → EnterFollows Kin into → (caller : Url)
      (arguments : List Value) (found : Found CodeUnit) (turns : ℕ) (state later : S)
      → Kin state later
      → Follows Kin turns state (entered into caller arguments found turns later)
  entered_follows into intos caller arguments (Callee unit base index) turns state later kin =
      let function : Function =
      record { unit = unit; base = base; referer = Some caller; index = index } in
      after_all turns turns state later (into function arguments turns later) (omega arith) kin
      (intos function arguments turns later)
  entered_follows into intos caller arguments (Not why) turns state later kin =
      record { turns_fall = omega arith; kin = kin }

  pub called_follows : (working : ℕ) (into : Enter S) → EnterFollows Kin into
      → (function : Function) (callee : Called) (arguments : List Value) (turns : ℕ) (state : S)
      → Follows Kin turns state (called setting working into function callee arguments turns state)
  called_follows working into intos function (local index) arguments turns state =
      elim (leb setting.limits.depth working) as (λ (b : Bool).
      Follows Kin turns state (cond b (ended (fatal Depth) turns state)
      (into (record function { index = index }) arguments turns state))) [
        | true ↦ stays (fatal Depth) turns state
        | false ↦ intos (record function { index = index }) arguments turns state
      ]
  called_follows working into intos function (library number index) arguments turns state =
      let gave = setting.host.library state function.base function.referer number index arguments in
      library_follows gave.0 turns state gave.1
      (keeps.library state function.base function.referer number index arguments)
  called_follows working into intos function (external url name) arguments turns state =
      let found = setting.host.external state function.base url name (length arguments) working in
      entered_follows into intos function.base arguments found.0 turns state found.1
      (keeps.external state function.base url name (length arguments) working)

  module _ (working : ℕ) (into : Enter S) (intos : EnterFollows Kin into)
      (function : Function) where
    pub followed_follows : (on again : Onward S) → OnwardFollows Kin on → OnwardFollows Kin again
        → (effect : Effect) (turns : ℕ) (state : S)
        → Follows Kin turns state
        (followed setting working into function on again effect turns state)
    followed_follows on again ons agains (onward place variables operands) turns state =
        ons place variables operands turns state
    followed_follows on again ons agains (back place variables operands) zero state =
        stays (fatal Budget) 0 state
    followed_follows on again ons agains (back place variables operands) (suc left) state =
        after_all (suc left) left state state (again place variables operands left state)
        (omega arith) (keeps.same state) (agains place variables operands left state)
    followed_follows on again ons agains (calls callee arguments place variables operands) zero
        state = stays (fatal Budget) 0 state
    followed_follows on again ons agains (calls callee arguments place variables operands)
        (suc left) state =
        let call = called setting working into function callee arguments left state in
        let follows = called_follows working into intos function callee arguments left state in
        returned_follows (at_place function place variables operands ∷ [])
        (λ v. on place variables (v ∷ operands))
        (λ v turns state. ons place variables (v ∷ operands) turns state)
        (suc left) state call.outcome call.turns call.state
        (let falls = follows.turns_fall in omega arith) follows.kin
    followed_follows on again ons agains (returns v) turns state = stays (value v) turns state
    followed_follows on again ons agains (ends why) turns state = stays (fatal why) turns state
    followed_follows on again ons agains nowhere turns state = stays stuck turns state

    pub forward_follows : (again : Onward S) → OnwardFollows Kin again → (left : ℕ)
        → OnwardFollows Kin (forward setting working into function again left)
    unfolding forward_by
    forward_follows again agains zero place variables operands turns state =
        elim (eqb place (length (code_of function))) as (λ (b : Bool). Follows Kin turns state
        (cond b (ended (value (Str [])) turns state) (ended stuck turns state))) [
          | true ↦ stays (value (Str [])) turns state
          | false ↦ stays stuck turns state
        ]
    forward_follows again agains (suc left) place variables operands turns state =
        let effect = effect_at setting.limits.string (at_place function place variables operands) in
        elim (eqb (place + suc left) (length (code_of function))) as (λ (b : Bool).
        Follows Kin turns state (cond b
        (followed setting working into function
        (forward setting working into function again left) again effect turns
        (setting.tick function state))
        (forward setting working into function again left place variables operands turns state))) [
          | true ↦
              after_all turns turns state (setting.tick function state)
              (followed setting working into function
              (forward setting working into function again left) again effect turns
              (setting.tick function state))
              (omega arith) (keeps.ticks function state)
              (followed_follows (forward setting working into function again left) again
              (forward_follows again agains left) agains effect turns (setting.tick function state))
          | false ↦ forward_follows again agains left place variables operands turns state
        ]

    pub looping_follows : (jumps : ℕ)
        → OnwardFollows Kin (looping setting working into function jumps)
    unfolding looping_by
    looping_follows zero place variables operands turns state = stays (fatal Budget) turns state
    looping_follows (suc jumps) place variables operands turns state =
        forward_follows (looping setting working into function jumps) (looping_follows jumps)
        (length (code_of function)) place variables operands turns state

  pub run_by_follows : (working : ℕ) (into : Enter S) → EnterFollows Kin into
      → (frame : Frame) (turns : ℕ) (state : S)
      → Follows Kin turns state (run_by setting working into frame turns state)
  unfolding goes
  run_by_follows working into intos frame turns state =
      looping_follows working into intos frame.function
      (suc turns) frame.place frame.variables frame.operands turns state

  began_follows : (working : ℕ) (into : Enter S) → EnterFollows Kin into
      → (function : Function) (code : Option Code) (arguments : List Value) (turns : ℕ) (state : S)
      → Follows Kin turns state (began setting working into function code arguments turns state)
  began_follows working into intos function None arguments turns state = stays stuck turns state
  began_follows working into intos function (Some code) arguments turns state =
      elim (eqb (length arguments) code.args) as (λ (b : Bool). Follows Kin turns state (cond b
      (run_by setting working into (begun function code arguments) turns state)
      (ended stuck turns state))) [
        | true ↦ run_by_follows working into intos (begun function code arguments) turns state
        | false ↦ stays stuck turns state
      ]

  pub enter_follows : (more : ℕ) → EnterFollows Kin (enter setting more)
  unfolding enter
  enter_follows zero function arguments turns state = stays (fatal Depth) turns state
  enter_follows (suc more) function arguments turns state =
      began_follows (MOST_DEPTH - more) (enter setting more) (enter_follows more) function
      (code_at function) arguments turns state

  pub run_follows : (frame : Frame) (outer : List Frame) (turns : ℕ) (state : S)
      → Follows Kin turns state (run setting frame outer turns state)
  run_follows frame outer turns state =
      run_by_follows (length (frame ∷ outer)) (enter setting (MOST_DEPTH - length (frame ∷ outer)))
      (enter_follows (MOST_DEPTH - length (frame ∷ outer))) frame turns state

  pub resumed_follows : (frames : List Frame) (v : Value) (turns : ℕ) (state : S)
      → Follows Kin turns state (resumed setting frames v turns state)
  unfolding resumed
  resumed_follows [] v turns state = stays (value v) turns state
  resumed_follows (frame ∷ outer) v turns state =
      let end = run setting (pushed v frame) outer turns state in
      let follows = run_follows (pushed v frame) outer turns state in
      returned_follows outer (resumed setting outer) (resumed_follows outer)
      turns state end.outcome end.turns end.state follows.turns_fall follows.kin

  pub finished_follows : (frames : List Frame) (turns : ℕ) (state : S)
      → Follows Kin turns state (finished setting frames turns state)
  unfolding finished
  finished_follows [] turns state = stays stuck turns state
  finished_follows (frame ∷ outer) turns state =
      let end = run setting frame outer turns state in
      let follows = run_follows frame outer turns state in
      returned_follows outer (resumed setting outer) (resumed_follows outer)
      turns state end.outcome end.turns end.state follows.turns_fall follows.kin

-- only turns count
abbrev pub Any : {S : Type 0} → S → S → Type 0
Any one two = Unit {0}

pub any_keeps : {S : Type 0} (setting : Setting S) → Keeps setting Any
any_keeps setting = record {
  same = λ state. tt;
  chained = λ one two three some other. tt;
  ticks = λ function state. tt;
  external = λ state caller url name count working. tt;
  library = λ state base referer number index arguments. tt;
}

-- no call gives turns back
pub calls_fall : {S : Type 0} (setting : Setting S) (working more : ℕ) (function : Function)
    → TurnsFall (called setting working (enter setting more) function)
calls_fall setting working more function callee arguments turns state =
    let follows = called_follows setting Any (any_keeps setting) working (enter setting more)
    (enter_follows setting Any (any_keeps setting) more) function callee arguments turns state in
    follows.turns_fall
