-- Dialogs that are answered in the state of a host come to the same as answers from outside.
use Rattle.std.proofs.Common.{◌≡◌, ℕ, zero, suc, ◌+◌, ◌-◌, ◌<◌, ◌≤◌, Bool, true, false}
use Rattle.std.proofs.Common.{eqb, leb, cond, List, [], ◌∷◌, length, Option, Some, None}
use Rattle.std.proofs.Common.{refl, sym, ap, subst, ◌∙◌, inl, inr, arith}
use Rattle.std.specs.Prelude.{⊤}
use Rattle.std.proofs.lemmas.Bool.Decides.{eqb_tells}
use Rattle.wap_base.specs.declared.limits.Limits.{Limits}
use Rattle.wap_base.specs.declared.limits.TheConstants.{MOST_DEPTH}
use Rattle.wap_value.specs.declared.value.Value.{Value}
use Rattle.wap_value.specs.declared.value.Value.TheVariants.{Str}
use Rattle.wap_url.specs.declared.url.Url.{Url}
use Rattle.wap_unit.specs.declared.unit.Unit.{Unit as CodeUnit}
use Rattle.wap_unit.specs.declared.unit.Code.{Code}
use Rattle.wap_execution.specs.declared.fatal.Fatal.TheVariants.{Budget, Depth}
use Rattle.wap_execution.specs.declared.found.Found.{Found}
use Rattle.wap_execution.specs.declared.found.Found.TheVariants.{Callee, Not}
use Rattle.wap_execution.specs.declared.library.HostOut.{HostOut}
use Rattle.wap_execution.specs.declared.library.HostOut.TheVariants as answer
use Rattle.wap_execution.specs.Frames.{Function, Frame, code_at, code_of, begun, pushed}
use Rattle.wap_execution.specs.Effects.{Called, local, library, external, Effect, onward, back}
use Rattle.wap_execution.specs.Effects.{calls, returns, ends, stuck as nowhere, effect_at}
use Rattle.wap_execution.specs.Outcomes.{Outcome, value, exit, fatal, waits}
use Rattle.wap_execution.specs.Outcomes.{stuck, Ended, Hosting, Setting}
use Rattle.wap_execution.specs.Running.{ended, returned, Onward, library_gave, entered, called}
use Rattle.wap_execution.specs.Running.{at_place, began, enter, run, resumed, finished, forward_by}
use Rattle.wap_execution.specs.Running.{looping_by, goes}
use Rattle.wap_execution.specs.laws.Settings.{uncounted}
use Rattle.wap_execution.specs.laws.Keyed.{Answering, answered_in, keyed, gone_on, answered_each}
use Rattle.wap_execution.specs.laws.Keyed.{AgreesKeyed, unrolled_by, GoesOnKeyed}
use Rattle.wap_execution.proofs.LawsLemmas.FrameRuns.{followed, forward, looping}
use Rattle.wap_execution.proofs.LawsLemmas.RunLaws.{Any, any_keeps, resumed_follows}
use Rattle.wap_execution.proofs.LawsLemmas.RunLaws.{finished_follows}
use Rattle.wap_execution.proofs.LawsLemmas.PlaceLaws.{IsBehind, leads_behind}
use Rattle.wap_execution.proofs.LawsLemmas.FrameLaws.{inner, call_whole, enters}

-- nothing waits
abbrev IsOver : Outcome → Type 0
IsOver (waits dialog frames) = ⊥
IsOver _ = ⊤

module _ {S : Type 0} (limits : Limits) (host : Hosting S) (answering : Answering S) where
  abbrev set : Setting S
  set = uncounted limits host

  abbrev set' : Setting S
  set' = uncounted limits (keyed answering host)

  abbrev each : ℕ → Ended S → Ended S
  each = answered_each set answering

  -- what nothing waits for stays
  stays : (more : ℕ) (outcome : Outcome) (turns : ℕ) (state : S) → IsOver outcome
      → ended outcome turns state ≡ each more (ended outcome turns state)
  stays zero outcome turns state over = refl
  stays (suc more) (value v) turns state over = refl
  stays (suc more) (exit v) turns state over = refl
  stays (suc more) (fatal why) turns state over = refl
  stays (suc more) (waits dialog frames) turns state over = absurd over
  stays (suc more) stuck turns state over = refl

  -- both come to the same with fewer than so many turns
  abbrev Alike : ℕ → (ℕ → S → Ended S) → (ℕ → S → Ended S) → Type 0
  Alike most one other =
      (more turns : ℕ) (state : S) → turns < most → turns ≤ more
      → one turns state ≡ each more (other turns state)

  abbrev AlikeFrames : ℕ → List Frame → Type 0
  AlikeFrames most frames = (v : Value) → Alike most (resumed set' frames v) (resumed set frames v)

  abbrev AlikeRuns : ℕ → Type 0
  AlikeRuns most = (outer : List Frame) → AlikeFrames most outer → (frame : Frame)
      → Alike most
      (λ turns state. returned outer (resumed set' outer) (run set' frame outer turns state))
      (λ turns state. returned outer (resumed set outer) (run set frame outer turns state))

  module _ (most : ℕ) (runs : AlikeRuns most) where
    one_more : (frame : Frame) (outer : List Frame) → AlikeFrames (suc most) outer
        → AlikeFrames most (frame ∷ outer)
    unfolding resumed
    one_more frame outer alike v more turns state few enough =
        runs outer (λ v more turns state few enough. alike v more turns state (omega arith) enough)
        (pushed v frame) more turns state few enough

    module _ (frames : List Frame) (alike : AlikeFrames most frames) (more turns : ℕ)
        (few : turns < most) (enough : suc turns ≤ more) where
      abbrev Same : S → (S → Ended S) → (S → Ended S) → Type 0
      Same state one other =
          returned frames (resumed set' frames) (one state)
          ≡ each more (returned frames (resumed set frames) (other state))

      enter_alike : (function : Function) (arguments : List Value) (state : S)
          → Same state (inner set' (length frames) function arguments turns)
          (inner set (length frames) function arguments turns)
      unfolding finished enter
      enter_alike function arguments state =
          by (MOST_DEPTH - length frames) refl (code_at function) refl
        where
          at : (depth : ℕ) → MOST_DEPTH - length frames ≡ depth → Same state
              (enter set' depth function arguments turns) (enter set depth function arguments turns)
              → Same state (inner set' (length frames) function arguments turns)
              (inner set (length frames) function arguments turns)
          at depth is same =
              subst (λ (d : ℕ). Same state (enter set' d function arguments turns)
              (enter set d function arguments turns)) (sym is) same

          by : (depth : ℕ) → MOST_DEPTH - length frames ≡ depth → (code : Option Code)
              → code_at function ≡ code
              → Same state (inner set' (length frames) function arguments turns)
              (inner set (length frames) function arguments turns)
          by zero is code found = at zero is (stays more (fatal Depth) turns state tt)
          by (suc less) is None found = at (suc less) is
              (subst (λ (c : Option Code).
              Same state (began set' (MOST_DEPTH - less) (enter set' less) function c arguments
              turns) (began set (MOST_DEPTH - less) (enter set less) function c arguments turns))
              (sym found) (stays more stuck turns state tt))
          by (suc less) is (Some code) found =
              elim (eqb_tells (length arguments) code.args) [
                | inl many ↦
                    enters set' frames function code arguments turns state (omega arith) found
                    many.1
                    ∙ runs frames alike (begun function code arguments) more turns state few
                    (omega arith)
                    ∙ ap (λ (end : Ended S). each more end)
                    (sym (enters set frames function code arguments turns state (omega arith)
                    found many.1))
                | inr other ↦ at (suc less) is
                    (subst (λ (c : Option Code).
                    Same state (began set' (MOST_DEPTH - less) (enter set' less) function c
                    arguments turns)
                    (began set (MOST_DEPTH - less) (enter set less) function c arguments turns))
                    (sym found) (rw (other.0) (stays more stuck turns state tt)))
              ]

      -- what the state answers
      answer_alike : (gave : HostOut) (less : ℕ) (state : S) → turns ≤ less
          → returned frames (resumed set' frames) (library_gave gave turns state)
          ≡ gone_on set (each less) frames gave turns state
      answer_alike (answer.Value v) less state fits = alike v less turns state few fits
      answer_alike _ less state fits = refl

      asked_alike : (dialog : _) (state : S)
          → returned frames (resumed set' frames)
          (library_gave (answering state dialog).0 turns (answering state dialog).1)
          ≡ each more (ended (waits dialog frames) turns state)
      asked_alike dialog state = by more enough
        where
          by : (m : ℕ) → suc turns ≤ m
              → returned frames (resumed set' frames)
              (library_gave (answering state dialog).0 turns (answering state dialog).1)
              ≡ each m (ended (waits dialog frames) turns state)
          by zero fits = absurd (omega arith)
          by (suc m) fits =
              answer_alike (answering state dialog).0 m (answering state dialog).1 (omega arith)

      library_alike : (gave : HostOut) (state : S)
          → returned frames (resumed set' frames) (library_gave (answered_in answering gave state).0
          turns (answered_in answering gave state).1)
          ≡ each more (returned frames (resumed set frames) (library_gave gave turns state))
      library_alike (answer.Value v) state = alike v more turns state few (omega arith)
      library_alike (answer.Exit v) state = stays more (exit v) turns state tt
      library_alike (answer.Fatal why) state = stays more (fatal why) turns state tt
      library_alike (answer.Asks dialog) state = asked_alike dialog state

      entered_alike : (caller : Url) (arguments : List Value) (found : Found CodeUnit) (state : S)
          → Same state (entered (inner set' (length frames)) caller arguments found turns)
          (entered (inner set (length frames)) caller arguments found turns)
      entered_alike caller arguments (Callee unit base index) state =
          enter_alike (record { unit = unit; base = base; referer = Some caller; index = index })
          arguments state
      entered_alike caller arguments (Not why) state = stays more (fatal why) turns state tt

      called_alike : (function : Function) (callee : Called) (arguments : List Value) (state : S)
          → Same state
          (called set' (length frames) (inner set' (length frames)) function callee arguments turns)
          (called set (length frames) (inner set (length frames)) function callee arguments turns)
      called_alike function (local index) arguments state =
          elim (leb limits.depth (length frames)) as (λ (b : Bool). Same state
          (λ state.
          cond b (ended (fatal Depth) turns state)
          (inner set' (length frames) (record function { index = index }) arguments turns state))
          (λ state. cond b (ended (fatal Depth) turns state)
          (inner set (length frames) (record function { index = index }) arguments turns state))) [
            | true ↦ stays more (fatal Depth) turns state tt
            | false ↦ enter_alike (record function { index = index }) arguments state
          ]
      called_alike function (library number index) arguments state =
          let gave = host.library state function.base function.referer number index arguments in
          library_alike gave.0 gave.1
      called_alike function (external url name) arguments state =
          let found =
          host.external state function.base url name (length arguments) (length frames) in
          entered_alike function.base arguments found.0 found.1

    -- ---- a frame goes on

    module _ (outer : List Frame) (alike : AlikeFrames (suc most) outer) (function : Function) where
      abbrev working : ℕ
      working = suc (length outer)

      abbrev again : Setting S → ℕ → Onward S
      again setting jumps = looping setting working (inner setting working) function jumps

      abbrev on : Setting S → ℕ → ℕ → Onward S
      on setting jumps rest =
          forward setting working (inner setting working) function (again setting jumps) rest

      abbrev AlikeOn : ℕ → Onward S → Onward S → Type 0
      AlikeOn jumps one other =
          (place : ℕ) (variables operands : List Value) (more turns : ℕ) (state : S)
          → turns < suc most → turns < jumps → turns ≤ more
          → returned outer (resumed set' outer) (one place variables operands turns state) ≡ each
          more (returned outer (resumed set outer) (other place variables operands turns state))

      followed_alike : (jumps rest : ℕ) → AlikeOn jumps (again set' jumps) (again set jumps)
          → AlikeOn (suc jumps) (on set' jumps rest) (on set jumps rest)
          → (at : ℕ) (effect : Effect) → IsBehind at effect
          → at + suc rest ≡ length (code_of function)
          → (more turns : ℕ) (state : S) → turns < suc most → turns ≤ jumps → turns ≤ more
          → returned outer (resumed set' outer) (followed set' working (inner set' working) function
          (on set' jumps rest) (again set' jumps) effect turns state)
          ≡ each more (returned outer (resumed set outer) (followed set working
          (inner set working) function (on set jumps rest) (again set jumps) effect turns state))
      followed_alike jumps rest agains ons at (onward place variables operands) behind here more
          turns state few fits enough =
          ons place variables operands more turns state few (omega arith) enough
      followed_alike jumps rest agains ons at (back place variables operands) behind here more zero
          state few fits enough = stays more (fatal Budget) 0 state tt
      followed_alike jumps rest agains ons at (back place variables operands) behind here more
          (suc turns) state few fits enough =
          agains place variables operands more turns state (omega arith) (omega arith) (omega arith)
      followed_alike jumps rest agains ons at (calls callee arguments place variables operands)
          behind here more zero state few fits enough = stays more (fatal Budget) 0 state tt
      followed_alike jumps rest agains ons at (calls callee arguments place variables operands)
          behind here more (suc turns) state few fits enough =
          let further : at < place = behind in
          let new = at_place function place variables operands in
          call_whole set' function outer jumps rest place turns callee arguments variables operands
          state (omega arith) (omega arith)
          ∙ called_alike (new ∷ outer) (one_more new outer alike) more turns
          (omega arith) enough function callee arguments state
          ∙ ap (λ (end : Ended S). each more end) (sym (call_whole set function outer jumps rest
          place turns callee arguments variables operands state (omega arith) (omega arith)))
      followed_alike jumps rest agains ons at (returns v) behind here more turns state few fits
          enough = alike v more turns state few enough
      followed_alike jumps rest agains ons at (ends why) behind here more turns state few fits
          enough = stays more (fatal why) turns state tt
      followed_alike jumps rest agains ons at nowhere behind here more turns state few fits enough =
          stays more stuck turns state tt

      forward_alike : (jumps : ℕ) → AlikeOn jumps (again set' jumps) (again set jumps) → (rest : ℕ)
          → AlikeOn (suc jumps) (on set' jumps rest) (on set jumps rest)
      unfolding forward_by
      forward_alike jumps agains zero place variables operands more turns state few fits enough =
          elim (eqb place (length (code_of function))) as (λ (b : Bool).
          returned outer (resumed set' outer) (cond b (ended (value (Str [])) turns state)
          (ended stuck turns state)) ≡ each more (returned outer (resumed set outer)
          (cond b (ended (value (Str [])) turns state) (ended stuck turns state)))) [
            | true ↦ alike (Str []) more turns state few enough
            | false ↦ stays more stuck turns state tt
          ]
      forward_alike jumps agains (suc rest) place variables operands more turns state
          few fits enough =
          let frame = at_place function place variables operands in
          elim (eqb_tells (place + suc rest) (length (code_of function))) [
            | inl here ↦
                rw (here.0) (followed_alike jumps rest agains
                (forward_alike jumps agains rest) place (effect_at limits.string frame)
                (leads_behind limits.string frame) here.1 more turns state few (omega arith) enough)
            | inr before ↦
                rw (before.0) (forward_alike jumps agains rest place variables operands more turns
                state few fits enough)
          ]

      looping_alike : (jumps : ℕ) → AlikeOn jumps (again set' jumps) (again set jumps)
      unfolding looping_by
      looping_alike zero place variables operands more turns state few fits enough =
          absurd (omega arith)
      looping_alike (suc jumps) place variables operands more turns state few fits enough =
          forward_alike jumps (looping_alike jumps)
          (length (code_of function)) place variables operands more turns state few fits enough

  runs_alike : (most : ℕ) → AlikeRuns most
  unfolding goes
  runs_alike zero outer alike frame more turns state few enough = absurd (omega arith)
  runs_alike (suc most) outer alike frame more turns state few enough =
      looping_alike most (runs_alike most) outer alike frame.function (suc turns)
      frame.place frame.variables frame.operands more turns state few (omega arith) enough

  frames_alike : (most : ℕ) (frames : List Frame) → AlikeFrames most frames
  unfolding resumed
  frames_alike most [] v more turns state few enough = stays more (value v) turns state tt
  frames_alike most (frame ∷ outer) v more turns state few enough =
      runs_alike most outer (frames_alike most outer) (pushed v frame) more turns state few enough

  finished_alike : (frames : List Frame) (turns : ℕ) (state : S)
      → finished set' frames turns state ≡ each turns (finished set frames turns state)
  unfolding finished
  finished_alike [] turns state = stays turns stuck turns state tt
  finished_alike (frame ∷ outer) turns state =
      runs_alike (suc turns) outer (frames_alike (suc turns) outer) frame turns turns state
      (omega arith) (omega arith)

  pub agrees : AgreesKeyed limits host answering
  agrees = record {
    finishing = finished_alike;
    resuming =
        λ frames v turns state.
        frames_alike (suc turns) frames v turns turns state (omega arith) (omega arith);
  }

  -- ---- one dialog

  got_unrolls : (frames : List Frame) (gave : HostOut) (less turns : ℕ) (state : S)
      → turns ≤ less
      → gone_on set (each less) frames gave turns state
      ≡ gone_on set' (λ end. end) frames gave turns state
  got_unrolls frames (answer.Value v) less turns state enough =
      sym (frames_alike (suc turns) frames v less turns state (omega arith) enough)
  got_unrolls frames _ less turns state enough = refl

  unrolls_by : (outcome : Outcome) (less turns : ℕ) (state : S) → turns ≤ less
      → each (suc less) (ended outcome turns state)
      ≡ unrolled_by set' answering outcome turns state
  unrolls_by (waits dialog frames) less turns state enough =
      let gave = answering state dialog in
      got_unrolls frames gave.0 less turns gave.1 enough
  unrolls_by _ less turns state enough = refl

  finishes : (frames : List Frame) (more turns : ℕ) (state : S) → turns ≤ more
      → finished set' frames turns state ≡ each more (finished set frames turns state)
  unfolding finished
  finishes [] more turns state enough = stays more stuck turns state tt
  finishes (frame ∷ outer) more turns state enough =
      runs_alike (suc turns) outer (frames_alike (suc turns) outer) frame more turns state
      (omega arith) enough

  pub goes_on : GoesOnKeyed limits host answering
  goes_on = record {
    finishing =
        λ frames turns state.
        let end = finished set frames turns state in
        finishes frames (suc turns) turns state (omega arith)
        ∙ unrolls_by end.outcome turns end.turns end.state
        (finished_follows set Any (any_keeps set) frames turns state).turns_fall;
    resuming =
        λ frames v turns state.
        let end = resumed set frames v turns state in
        frames_alike (suc turns) frames v (suc turns) turns state (omega arith) (omega arith)
        ∙ unrolls_by end.outcome turns end.turns end.state
        (resumed_follows set Any (any_keeps set) frames v turns state).turns_fall;
  }
