-- Runs in two hosts side by side: they come to the same in kin states, unless both are lost.
use Rattle.std.proofs.Common.{inl, inr, ℕ, zero, suc, ◌+◌, ◌-◌, Bool, true, false, eqb, leb, cond}
use Rattle.std.proofs.Common.{List, [], ◌∷◌, ◌++◌, length, Option, Some, None, refl, subst, arith}
use Rattle.wap_base.specs.declared.limits.Limits.{Limits}
use Rattle.wap_base.specs.declared.limits.TheConstants.{MOST_DEPTH}
use Rattle.wap_value.specs.declared.value.Value.{Value}
use Rattle.wap_value.specs.declared.value.Value.TheVariants.{Str}
use Rattle.wap_url.specs.declared.url.Url.{Url}
use Rattle.wap_unit.specs.declared.unit.Unit.{Unit as CodeUnit}
use Rattle.wap_unit.specs.declared.unit.Code.{Code}
use Rattle.wap_execution.specs.declared.fatal.Fatal.TheVariants.{Budget, Depth}
use Rattle.wap_execution.specs.declared.found.Found.{Found}
use Rattle.wap_execution.specs.declared.found.Found.TheVariants.{Callee, Not}
use Rattle.wap_execution.specs.declared.library.HostOut.{HostOut}
use Rattle.wap_execution.specs.declared.library.HostOut.TheVariants as answer
use Rattle.wap_execution.specs.Frames.{Function, Frame, code_at, code_of, begun, pushed}
use Rattle.wap_execution.specs.Effects.{Called, local, library, external, Effect, onward, back}
use Rattle.wap_execution.specs.Effects.{calls, returns, ends, stuck as nowhere, effect_at}
use Rattle.wap_execution.specs.Outcomes.{Outcome, value, exit, fatal, waits}
use Rattle.wap_execution.specs.Outcomes.{stuck, Ended, Hosting, Setting}
use Rattle.wap_execution.specs.Running.{ended, returned_by, returned, Enter, Onward, library_gave}
use Rattle.wap_execution.specs.Running.{entered, called, at_place, forward_by, looping_by, goes}
use Rattle.wap_execution.specs.Running.{run_by, began, enter, run, resumed, finished}
use Rattle.wap_execution.specs.laws.Settings.{uncounted}
use Rattle.wap_execution.specs.laws.Simulation.{Stays, Both, AreAlike, ComeToSame, RunAlike}
use Rattle.wap_execution.proofs.LawsLemmas.FrameRuns.{followed, forward, looping}
use Rattle.wap_execution.proofs.LawsLemmas.RunLaws.{Keeps, Follows, EnterFollows, OnwardFollows}
use Rattle.wap_execution.proofs.LawsLemmas.RunLaws.{returned_follows, library_follows}
use Rattle.wap_execution.proofs.LawsLemmas.RunLaws.{entered_follows, forward_follows}
use Rattle.wap_execution.proofs.LawsLemmas.RunLaws.{looping_follows, enter_follows, resumed_follows}

-- ---- what is lost stays so

module _ {S : Type 0} (limits : Limits) (host : Hosting S) (Lost : S → Type 0)
    (stays : Stays host Lost) where
  -- the host, with nothing counted
  abbrev set : Setting S
  set = uncounted limits host

  -- no call takes the fact back
  abbrev Holds : S → S → Type 0
  Holds before after = Lost before → Lost after

  -- calls of the host keep it
  keeps : Keeps set Holds
  keeps = record {
    same = λ s lost. lost;
    chained = λ one two three some more lost. more (some lost);
    ticks = λ function s lost. lost;
    external = λ s caller url name count working lost.
        stays.external s caller url name count working lost;
    library = λ s base referer number index arguments lost.
        stays.library s base referer number index arguments lost;
  }

  -- so does a run
  abbrev Loses : (ℕ → S → Ended S) → Type 0
  Loses one = (turns : ℕ) (s : S) → Follows Holds turns s (one turns s)

  abbrev EnterLoses : Enter S → Type 0
  EnterLoses into = EnterFollows Holds into

  abbrev OnwardLoses : Onward S → Type 0
  OnwardLoses on = OnwardFollows Holds on

  -- it stays so after a call whose end it was so of
  returned_loses : (frames : List Frame) (next : Value → ℕ → S → Ended S)
      → ((v : Value) → Loses (next v)) → (outcome : Outcome) (turns : ℕ) (s : S) → Lost s
      → Lost (returned_by frames next outcome turns s).state
  returned_loses frames next nexts outcome turns s lost =
      (returned_follows set Holds keeps frames next nexts turns s outcome turns s (omega arith)
      (λ l. l)).kin lost

  -- and after a call of a library
  gave_loses : (gave : HostOut) (turns : ℕ) (s : S) → Lost s
      → Lost (library_gave gave turns s).state
  gave_loses gave turns s lost =
      (library_follows set Holds keeps gave turns s s (λ l. l)).kin lost

  -- and after a call of another unit
  entered_loses : (into : Enter S) → EnterLoses into → (caller : Url) (arguments : List Value)
      (found : Found CodeUnit) (turns : ℕ) (s : S) → Lost s
      → Lost (entered into caller arguments found turns s).state
  entered_loses into intos caller arguments found turns s lost =
      (entered_follows set Holds keeps into intos caller arguments found turns s s (λ l. l)).kin
      lost

  -- and where a frame goes on
  forward_loses : (working : ℕ) (into : Enter S) → EnterLoses into → (function : Function)
      (again : Onward S) → OnwardLoses again → (left : ℕ)
      → OnwardLoses (forward set working into function again left)
  forward_loses = forward_follows set Holds keeps

  looping_loses : (working : ℕ) (into : Enter S) → EnterLoses into → (function : Function)
      (jumps : ℕ) → OnwardLoses (looping set working into function jumps)
  looping_loses = looping_follows set Holds keeps

  -- and where a function is entered
  enter_loses : (more : ℕ) → EnterLoses (enter set more)
  enter_loses = enter_follows set Holds keeps

  -- and where frames go on with a value
  resumed_loses : (frames : List Frame) (v : Value) → Loses (resumed set frames v)
  resumed_loses = resumed_follows set Holds keeps

-- ---- side by side

module _ {S T : Type 0} (Kin : S → T → Type 0) (Lost : S → Type 0) (Lost' : T → Type 0)
    (limits : Limits) (host : Hosting S) (host' : Hosting T)
    (alike : AreAlike Kin Lost Lost' host host') where
  abbrev one : Setting S
  one = uncounted limits host

  abbrev two : Setting T
  two = uncounted limits host'

  -- two ends are the same, or both are lost
  abbrev Same : Ended S → Ended T → Type 0
  Same a b = ComeToSame Kin Lost Lost' a b

  -- from kin states they come to the same
  abbrev Alike : (ℕ → S → Ended S) → (ℕ → T → Ended T) → Type 0
  Alike a b = (turns : ℕ) (s : S) (t : T) → Kin s t → Same (a turns s) (b turns t)

  abbrev AlikeEnter : Enter S → Enter T → Type 0
  AlikeEnter a b =
      (function : Function) (arguments : List Value)
      → Alike (a function arguments) (b function arguments)

  abbrev AlikeOnward : Onward S → Onward T → Type 0
  AlikeOnward a b =
      (place : ℕ) (variables operands : List Value)
      → Alike (a place variables operands) (b place variables operands)

  abbrev Loses1 : (ℕ → S → Ended S) → Type 0
  Loses1 a = Loses limits host Lost alike.stays a

  abbrev Loses2 : (ℕ → T → Ended T) → Type 0
  Loses2 b = Loses limits host' Lost' alike.stays' b

  -- an end of both in kin states
  kin : (outcome : Outcome) → Alike (ended outcome) (ended outcome)
  kin outcome turns s t k = inl (record { outcome = refl; turns = refl; state = k })

  module _ (frames : List Frame) (next : Value → ℕ → S → Ended S) (next' : Value → ℕ → T → Ended T)
      (nexts : (v : Value) → Alike (next v) (next' v))
      (loses : (v : Value) → Loses1 (next v)) (loses' : (v : Value) → Loses2 (next' v)) where
    -- frames go on alike from kin states
    returned_kin : (outcome : Outcome)
        → Alike (returned_by frames next outcome) (returned_by frames next' outcome)
    returned_kin (value v) turns s t k = nexts v turns s t k
    returned_kin (waits dialog inner) turns s t k = kin (waits dialog (inner ++ frames)) turns s t k
    returned_kin outcome turns s t k = kin outcome turns s t k

    -- frames go on alike with ends that are the same
    returned_alike : (a : Ended S) (b : Ended T) → Same a b
        → Same (returned frames next a) (returned frames next' b)
    returned_alike a b (inl same) =
        subst (λ (o : Outcome).
        Same (returned frames next a) (returned_by frames next' o b.turns b.state)) same.outcome
        (subst (λ (n : ℕ).
        Same (returned frames next a) (returned_by frames next' a.outcome n b.state)) same.turns
        (returned_kin a.outcome a.turns a.state b.state same.state))
    returned_alike a b (inr lost) = inr (
      returned_loses limits host Lost alike.stays frames next loses a.outcome a.turns a.state
          lost.0,
      returned_loses limits host' Lost' alike.stays' frames next' loses' b.outcome b.turns b.state
          lost.1,
    )

  -- a library that answers the same comes to the same
  gave_kin : (gave : HostOut) → Alike (library_gave gave) (library_gave gave)
  gave_kin (answer.Value v) turns s t k = kin (value v) turns s t k
  gave_kin (answer.Exit v) turns s t k = kin (exit v) turns s t k
  gave_kin (answer.Fatal why) turns s t k = kin (fatal why) turns s t k
  gave_kin (answer.Asks dialog) turns s t k = kin (waits dialog []) turns s t k

  -- libraries that both answer come to the same
  gave_alike : (a : HostOut × S) (b : HostOut × T) (turns : ℕ) → Both Kin Lost Lost' a b
      → Same (library_gave a.0 turns a.1) (library_gave b.0 turns b.1)
  gave_alike a b turns (inl same) =
      subst (λ (o : HostOut). Same (library_gave a.0 turns a.1) (library_gave o turns b.1)) same.0
      (gave_kin a.0 turns a.1 b.1 same.1)
  gave_alike a b turns (inr lost) = inr (
    gave_loses limits host Lost alike.stays a.0 turns a.1 lost.0,
    gave_loses limits host' Lost' alike.stays' b.0 turns b.1 lost.1,
  )

  module _ (working : ℕ) (into : Enter S) (into' : Enter T) (intos : AlikeEnter into into')
      (loses : EnterLoses limits host Lost alike.stays into)
      (loses' : EnterLoses limits host' Lost' alike.stays' into') (function : Function) where
    -- a function that both find comes to the same
    entered_kin : (arguments : List Value) (found : Found CodeUnit)
        → Alike (entered into function.base arguments found)
        (entered into' function.base arguments found)
    entered_kin arguments (Callee unit base index) turns s t k =
        intos (record { unit = unit; base = base; referer = Some function.base; index = index })
        arguments turns s t k
    entered_kin arguments (Not why) turns s t k = kin (fatal why) turns s t k

    -- functions that are found come to the same
    entered_alike : (arguments : List Value) (a : Found CodeUnit × S) (b : Found CodeUnit × T)
        (turns : ℕ) → Both Kin Lost Lost' a b
        → Same (entered into function.base arguments a.0 turns a.1)
        (entered into' function.base arguments b.0 turns b.1)
    entered_alike arguments a b turns (inl same) =
        subst (λ (f : Found CodeUnit). Same (entered into function.base arguments a.0 turns a.1)
        (entered into' function.base arguments f turns b.1)) same.0
        (entered_kin arguments a.0 turns a.1 b.1 same.1)
    entered_alike arguments a b turns (inr lost) = inr (
      entered_loses limits host Lost alike.stays into loses function.base arguments a.0 turns a.1
          lost.0,
      entered_loses limits host' Lost' alike.stays' into' loses' function.base arguments b.0
          turns b.1 lost.1,
    )

    -- calls come to the same
    called_alike : (callee : Called) (arguments : List Value)
        → Alike (called one working into function callee arguments)
        (called two working into' function callee arguments)
    called_alike (local index) arguments turns s t k =
        elim (leb limits.depth working) as (λ (b : Bool).
        Same (cond b (ended (fatal Depth) turns s)
        (into (record function { index = index }) arguments turns s))
        (cond b (ended (fatal Depth) turns t)
        (into' (record function { index = index }) arguments turns t))) [
          | true ↦ kin (fatal Depth) turns s t k
          | false ↦ intos (record function { index = index }) arguments turns s t k
        ]
    called_alike (library number index) arguments turns s t k =
        gave_alike (host.library s function.base function.referer number index arguments)
        (host'.library t function.base function.referer number index arguments) turns
        (alike.library s t function.base function.referer number index arguments k)
    called_alike (external url name) arguments turns s t k =
        entered_alike arguments
        (host.external s function.base url name (length arguments) working)
        (host'.external t function.base url name (length arguments) working) turns
        (alike.external s t function.base url name (length arguments) working k)

    module _ (on again : Onward S) (on' again' : Onward T) (ons : AlikeOnward on on')
        (agains : AlikeOnward again again')
        (on_loses : OnwardLoses limits host Lost alike.stays on)
        (on_loses' : OnwardLoses limits host' Lost' alike.stays' on') where
      -- effects come to the same
      followed_alike : (effect : Effect)
          → Alike (followed one working into function on again effect)
          (followed two working into' function on' again' effect)
      followed_alike (onward place variables operands) turns s t k =
          ons place variables operands turns s t k
      followed_alike (back place variables operands) zero s t k = kin (fatal Budget) 0 s t k
      followed_alike (back place variables operands) (suc turns) s t k =
          agains place variables operands turns s t k
      followed_alike (calls callee arguments place variables operands) zero s t k =
          kin (fatal Budget) 0 s t k
      followed_alike (calls callee arguments place variables operands) (suc turns) s t k =
          returned_alike (at_place function place variables operands ∷ [])
          (λ v. on place variables (v ∷ operands)) (λ v. on' place variables (v ∷ operands))
          (λ v. ons place variables (v ∷ operands)) (λ v. on_loses place variables (v ∷ operands))
          (λ v. on_loses' place variables (v ∷ operands))
          (called one working into function callee arguments turns s)
          (called two working into' function callee arguments turns t)
          (called_alike callee arguments turns s t k)
      followed_alike (returns v) turns s t k = kin (value v) turns s t k
      followed_alike (ends why) turns s t k = kin (fatal why) turns s t k
      followed_alike nowhere turns s t k = kin stuck turns s t k

    -- so do frames that go on further on
    forward_alike : (again : Onward S) (again' : Onward T) → AlikeOnward again again'
        → OnwardLoses limits host Lost alike.stays again
        → OnwardLoses limits host' Lost' alike.stays' again' → (left : ℕ)
        → AlikeOnward (forward one working into function again left)
        (forward two working into' function again' left)
    unfolding forward_by
    forward_alike again again' agains lose lose' zero place variables operands turns s t k =
        elim (eqb place (length (code_of function))) as (λ (b : Bool).
        Same (cond b (ended (value (Str [])) turns s) (ended stuck turns s))
        (cond b (ended (value (Str [])) turns t) (ended stuck turns t))) [
          | true ↦ kin (value (Str [])) turns s t k
          | false ↦ kin stuck turns s t k
        ]
    forward_alike again again' agains lose lose' (suc left) place variables operands turns s t k =
        let effect = effect_at limits.string (at_place function place variables operands) in
        let on = forward one working into function again left in
        let on' = forward two working into' function again' left in
        elim (eqb (place + suc left) (length (code_of function))) as (λ (b : Bool).
        Same (cond b (followed one working into function on again effect turns s)
        (on place variables operands turns s))
        (cond b (followed two working into' function on' again' effect turns t)
        (on' place variables operands turns t))) [
          | true ↦
              followed_alike on again on' again'
              (forward_alike again again' agains lose lose' left) agains
              (forward_loses limits host Lost alike.stays working into loses function again lose
              left)
              (forward_loses limits host' Lost' alike.stays' working into' loses' function again'
              lose' left) effect turns s t k
          | false ↦
              forward_alike again again' agains lose lose' left place variables operands turns s t k
        ]

    -- so do frames that go back
    looping_alike : (jumps : ℕ)
        → AlikeOnward (looping one working into function jumps)
        (looping two working into' function jumps)
    unfolding looping_by
    looping_alike zero place variables operands turns s t k = kin (fatal Budget) turns s t k
    looping_alike (suc jumps) place variables operands turns s t k =
        forward_alike (looping one working into function jumps)
        (looping two working into' function jumps) (looping_alike jumps)
        (looping_loses limits host Lost alike.stays working into loses function jumps)
        (looping_loses limits host' Lost' alike.stays' working into' loses' function jumps)
        (length (code_of function)) place variables operands turns s t k

  -- so do frames
  run_by_alike : (working : ℕ) (into : Enter S) (into' : Enter T) → AlikeEnter into into'
      → EnterLoses limits host Lost alike.stays into
      → EnterLoses limits host' Lost' alike.stays' into' → (frame : Frame)
      → Alike (run_by one working into frame) (run_by two working into' frame)
  unfolding goes
  run_by_alike working into into' intos loses loses' frame turns s t k =
      looping_alike working into into' intos loses loses' frame.function
      (suc turns) frame.place frame.variables frame.operands turns s t k

  -- so do functions at their beginning
  began_alike : (working : ℕ) (into : Enter S) (into' : Enter T) → AlikeEnter into into'
      → EnterLoses limits host Lost alike.stays into
      → EnterLoses limits host' Lost' alike.stays' into' → (function : Function)
      (code : Option Code) (arguments : List Value)
      → Alike (began one working into function code arguments)
      (began two working into' function code arguments)
  began_alike working into into' intos loses loses' function None arguments turns s t k =
      kin stuck turns s t k
  began_alike working into into' intos loses loses' function (Some code) arguments turns s t k =
      let frame = begun function code arguments in
      elim (eqb (length arguments) code.args) as (λ (b : Bool).
      Same (cond b (run_by one working into frame turns s) (ended stuck turns s))
      (cond b (run_by two working into' frame turns t) (ended stuck turns t))) [
        | true ↦ run_by_alike working into into' intos loses loses' frame turns s t k
        | false ↦ kin stuck turns s t k
      ]

  -- so do functions that are entered
  enter_alike : (more : ℕ) → AlikeEnter (enter one more) (enter two more)
  unfolding enter
  enter_alike zero function arguments turns s t k = kin (fatal Depth) turns s t k
  enter_alike (suc more) function arguments turns s t k =
      began_alike (MOST_DEPTH - more) (enter one more) (enter two more) (enter_alike more)
      (enter_loses limits host Lost alike.stays more)
      (enter_loses limits host' Lost' alike.stays' more) function (code_at function) arguments
      turns s t k

  -- so does the innermost frame
  run_alike : (frame : Frame) (outer : List Frame)
      → Alike (run one frame outer) (run two frame outer)
  run_alike frame outer turns s t k =
      let more = MOST_DEPTH - length (frame ∷ outer) in
      run_by_alike (length (frame ∷ outer)) (enter one more) (enter two more) (enter_alike more)
      (enter_loses limits host Lost alike.stays more)
      (enter_loses limits host' Lost' alike.stays' more) frame turns s t k

  -- so do frames that go on with a value
  resumed_alike : (frames : List Frame) (v : Value)
      → Alike (resumed one frames v) (resumed two frames v)
  unfolding resumed
  resumed_alike [] v turns s t k = kin (value v) turns s t k
  resumed_alike (frame ∷ outer) v turns s t k =
      returned_alike outer (resumed one outer) (resumed two outer) (resumed_alike outer)
      (resumed_loses limits host Lost alike.stays outer)
      (resumed_loses limits host' Lost' alike.stays' outer)
      (run one (pushed v frame) outer turns s) (run two (pushed v frame) outer turns t)
      (run_alike (pushed v frame) outer turns s t k)

  -- so do frames that go on
  finished_alike : (frames : List Frame) → Alike (finished one frames) (finished two frames)
  unfolding finished
  finished_alike [] turns s t k = kin stuck turns s t k
  finished_alike (frame ∷ outer) turns s t k =
      returned_alike outer (resumed one outer) (resumed two outer) (resumed_alike outer)
      (resumed_loses limits host Lost alike.stays outer)
      (resumed_loses limits host' Lost' alike.stays' outer)
      (run one frame outer turns s) (run two frame outer turns t)
      (run_alike frame outer turns s t k)

  -- all runs of both hosts come to the same
  pub agrees : RunAlike Kin Lost Lost' limits host host'
  agrees = record {
    entering = enter_alike;
    resuming = resumed_alike;
    finishing = finished_alike;
  }
