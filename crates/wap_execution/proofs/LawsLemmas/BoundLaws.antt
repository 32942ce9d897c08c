-- Runs do few instructions between turns.
use Rattle.std.proofs.Common.{◌≡◌, ℕ, zero, suc, ◌+◌, ◌-◌, ◌*◌, ◌≤◌, Bool, true, false, eqb}
use Rattle.std.proofs.Common.{leb, cond, List, [], ◌∷◌, ◌++◌, length, Option, Some, None}
use Rattle.std.proofs.Common.{refl, sym, subst, zero-add, inl, inr, arith}
use Rattle.std.proofs.lemmas.Bool.Decides.{eqb_tells}
use Rattle.wap_base.specs.declared.limits.Limits.{Limits}
use Rattle.wap_base.specs.declared.limits.TheConstants.{MOST_DEPTH}
use Rattle.wap_value.specs.declared.value.Value.{Value}
use Rattle.wap_value.specs.declared.value.Value.TheVariants.{Str}
use Rattle.wap_unit.specs.declared.unit.Unit.{Unit as CodeUnit}
use Rattle.wap_unit.specs.declared.unit.Code.{Code}
use Rattle.wap_execution.specs.declared.fatal.Fatal.TheVariants.{Budget, Depth}
use Rattle.wap_execution.specs.declared.found.Found.{Found}
use Rattle.wap_execution.specs.declared.found.Found.TheVariants.{Callee, Not}
use Rattle.wap_execution.specs.declared.library.HostOut.{HostOut}
use Rattle.wap_execution.specs.declared.library.HostOut.TheVariants as answer
use Rattle.wap_execution.specs.Frames.{Function, Frame, code_at, code_of, begun, pushed}
use Rattle.wap_execution.specs.Effects.{Called, local, library, external, Effect, onward, back}
use Rattle.wap_execution.specs.Effects.{calls, returns, ends, stuck as nowhere, effect_at}
use Rattle.wap_execution.specs.Outcomes.{Outcome, value, exit, fatal, waits}
use Rattle.wap_execution.specs.Outcomes.{stuck, Ended, Hosting, Setting}
use Rattle.wap_execution.specs.Running.{ended, returned_by, Enter, Onward, library_gave, entered}
use Rattle.wap_execution.specs.Running.{called, at_place, run_by, began, enter, run, resumed}
use Rattle.wap_execution.specs.Running.{finished, forward_by, looping_by, goes}
use Rattle.wap_execution.specs.laws.Settings.{Counted, counting}
use Rattle.wap_execution.specs.laws.Dialogs.{answered_by, continued, with_count}
use Rattle.wap_execution.specs.laws.Bounds.{started, most_instructions}
use Rattle.wap_execution.proofs.LawsLemmas.FrameRuns.{followed, forward, looping}
use Rattle.wap_execution.proofs.LawsLemmas.GrowthLaws.{Grows, grows_keeps, continued_grows}
use Rattle.wap_execution.proofs.LawsLemmas.RunLaws.{Keeps, Follows, EnterFollows, OnwardFollows}
use Rattle.wap_execution.proofs.LawsLemmas.RunLaws.{followed_follows, forward_follows}
use Rattle.wap_execution.proofs.LawsLemmas.RunLaws.{looping_follows, enter_follows, resumed_follows}
use Rattle.wap_execution.proofs.LawsLemmas.RunLaws.{finished_follows}

-- what a turn pays for
abbrev each : ℕ → ℕ
each longest = longest + longest

-- what frames may still do before turns
abbrev room : ℕ → List Frame → ℕ
room longest [] = 0
room longest (frame ∷ frames) = longest + room longest frames

abbrev left_over : ℕ → Outcome → ℕ
left_over longest (waits dialog frames) = room longest frames
left_over longest _ = 0

-- with so many turns, and so many instructions done or paid for before
record Spent {S : Type 0} (longest turns before : ℕ) (end : Ended (Counted S)) : Type 0 where
  fewer : end.turns ≤ turns
  few : end.state.instructions + left_over longest end.outcome + end.turns * each longest
      ≤ before + turns * each longest

-- where no longer code has done an instruction by the end
abbrev Spends : {S : Type 0} → ℕ → ℕ → ℕ → Ended (Counted S) → Type 0
Spends longest turns before end = end.state.longest ≤ longest → Spent longest turns before end

room_joined : (longest : ℕ) (some more : List Frame)
    → room longest (some ++ more) ≡ room longest some + room longest more
room_joined longest [] more = sym (zero-add (room longest more))
room_joined longest (frame ∷ some) more = let rest = room_joined longest some more in omega arith

room_is : (longest : ℕ) (frames : List Frame) → room longest frames ≡ length frames * longest
room_is longest [] = omega arith
room_is longest (frame ∷ frames) = let rest = room_is longest frames in omega arith

module _ {S : Type 0} (limits : Limits) (host : Hosting S) (longest : ℕ) where
  abbrev State : Type 0
  State = Counted S

  abbrev setting : Setting State
  setting = counting limits host

  keeps : Keeps setting Grows
  keeps = grows_keeps limits host

  abbrev EnterSpends : Enter State → Type 0
  EnterSpends into =
      (function : Function) (arguments : List Value) (turns : ℕ) (counted : State)
      → Spends longest turns (counted.instructions + longest)
      (into function arguments turns counted)

  abbrev OnwardSpends : ℕ → Onward State → Type 0
  OnwardSpends left on =
      (place : ℕ) (variables operands : List Value) (turns : ℕ) (counted : State)
      → Spends longest turns (counted.instructions + left)
      (on place variables operands turns counted)

  later : (turns left before spent : ℕ) (end : Ended State) → left ≤ turns
      → spent + left * each longest ≤ before + turns * each longest → Spent longest left spent end
      → Spent longest turns before end
  later turns left before spent end fewer paid spends = record {
    fewer = let falls = spends.fewer in omega arith;
    few = let few = spends.few in omega arith;
  }

  still : (outcome : Outcome) (turns : ℕ) (counted : State) (more : ℕ)
      → left_over longest outcome ≡ 0
      → Spends longest turns (counted.instructions + more) (ended outcome turns counted)
  still outcome turns counted more none =
      λ within. record { fewer = omega arith; few = omega arith }

  module _ (frames : List Frame)
      (next : Value → ℕ → State → Ended State) (rest most : ℕ)
      (nexts : (v : Value) (turns : ℕ) (counted : State)
      → Spends longest turns (counted.instructions + rest) (next v turns counted))
      (grow : (v : Value) (turns : ℕ) (counted : State)
      → Follows Grows turns counted (next v turns counted))
      (few : rest ≤ most) (covers : room longest frames ≤ most)
      (turns before inner spent : ℕ) (fewer : inner ≤ turns)
      (paid : spent + inner * each longest + most ≤ before + turns * each longest) where
    -- what a call is paid for, and what goes on after it
    returned_spends : (outcome : Outcome) (left : ℕ) (counted : State)
        → Spends longest inner spent (ended outcome left counted)
        → Spends longest turns before (returned_by frames next outcome left counted)
    returned_spends (value v) left counted spends = λ within.
        let grown = (grow v left counted).kin in
        let call = spends (omega arith) in
        let falls = call.fewer in
        let done = call.few in
        later turns left before (counted.instructions + rest) (next v left counted)
        (omega arith) (omega arith) (nexts v left counted within)
    returned_spends (exit v) left counted spends = λ within.
        later turns inner before spent (ended (exit v) left counted) fewer (omega arith)
        (spends within)
    returned_spends (fatal why) left counted spends = λ within.
        later turns inner before spent (ended (fatal why) left counted) fewer (omega arith)
        (spends within)
    returned_spends (waits dialog waiting) left counted spends = λ within. record {
      fewer = let falls = (spends within).fewer in omega arith;
      few =
          let done = (spends within).few in
          let joined = room_joined longest waiting frames in omega arith;
    }
    returned_spends stuck left counted spends = λ within.
        later turns inner before spent (ended stuck left counted) fewer (omega arith)
        (spends within)

  -- ---- calls

  library_spends : (gave : HostOut) (turns : ℕ) (counted : State)
      → Spends longest turns (counted.instructions + longest) (library_gave gave turns counted)
  library_spends (answer.Value v) turns counted = still (value v) turns counted longest refl
  library_spends (answer.Exit v) turns counted = still (exit v) turns counted longest refl
  library_spends (answer.Fatal why) turns counted = still (fatal why) turns counted longest refl
  library_spends (answer.Asks dialog) turns counted =
      still (waits dialog []) turns counted longest refl

  module _ (working : ℕ) (into : Enter State) (intos : EnterSpends into)
      (grow : EnterFollows Grows into) (function : Function) where
    entered_spends : (arguments : List Value) (found : Found CodeUnit) (turns : ℕ) (counted : State)
        → Spends longest turns (counted.instructions + longest)
        (entered into function.base arguments found turns counted)
    entered_spends arguments (Callee unit base index) turns counted =
        intos (record { unit = unit; base = base; referer = Some function.base; index = index })
        arguments turns counted
    entered_spends arguments (Not why) turns counted =
        still (fatal why) turns counted longest refl

    called_spends : (callee : Called) (arguments : List Value) (turns : ℕ) (counted : State)
        → Spends longest turns (counted.instructions + longest)
        (called setting working into function callee arguments turns counted)
    called_spends (local index) arguments turns counted =
        elim (leb limits.depth working) as (λ (b : Bool).
        Spends longest turns (counted.instructions + longest) (cond b
        (ended (fatal Depth) turns counted)
        (into (record function { index = index }) arguments turns counted))) [
          | true ↦ still (fatal Depth) turns counted longest refl
          | false ↦ intos (record function { index = index }) arguments turns counted
        ]
    called_spends (library number index) arguments turns counted =
        let gave =
        host.library counted.state function.base function.referer number index arguments in
        library_spends gave.0 turns (record counted { state = gave.1 })
    called_spends (external url name) arguments turns counted =
        let found =
        host.external counted.state function.base url name (length arguments) working in
        entered_spends arguments found.0 turns (record counted { state = found.1 })

    -- ---- one frame

    followed_spends : (left : ℕ) (on again : Onward State) → OnwardSpends left on
        → OnwardFollows Grows on → OnwardSpends longest again → left ≤ longest
        → (effect : Effect) (turns : ℕ) (counted : State)
        → Spends longest turns (counted.instructions + left)
        (followed setting working into function on again effect turns counted)
    followed_spends left on again ons on_grow agains few (onward place variables operands) turns
        counted = ons place variables operands turns counted
    followed_spends left on again ons on_grow agains few (back place variables operands) zero
        counted = still (fatal Budget) 0 counted left refl
    followed_spends left on again ons on_grow agains few (back place variables operands) (suc turns)
        counted = λ within.
        later (suc turns) turns (counted.instructions + left) (counted.instructions + longest)
        (again place variables operands turns counted) (omega arith) (omega arith)
        (agains place variables operands turns counted within)
    followed_spends left on again ons on_grow agains few
        (calls callee arguments place variables operands) zero counted =
        still (fatal Budget) 0 counted left refl
    followed_spends left on again ons on_grow agains few
        (calls callee arguments place variables operands) (suc turns) counted =
        let call = called setting working into function callee arguments turns counted in
        returned_spends (at_place function place variables operands ∷ [])
        (λ v. on place variables (v ∷ operands)) left longest
        (λ v turns counted. ons place variables (v ∷ operands) turns counted)
        (λ v turns counted. on_grow place variables (v ∷ operands) turns counted)
        few (omega arith) (suc turns) (counted.instructions + left)
        turns (counted.instructions + longest) (omega arith) (omega arith)
        call.outcome call.turns call.state (called_spends callee arguments turns counted)
    followed_spends left on again ons on_grow agains few (returns v) turns counted =
        still (value v) turns counted left refl
    followed_spends left on again ons on_grow agains few (ends why) turns counted =
        still (fatal why) turns counted left refl
    followed_spends left on again ons on_grow agains few nowhere turns counted =
        still stuck turns counted left refl

    -- so many bytes are left; where an instruction was done, the code is no longer than the longest
    forward_spends : (again : Onward State) → OnwardSpends longest again
        → OnwardFollows Grows again → (left most : ℕ)
        → ((bytes : ℕ) → bytes ≤ left → bytes ≤ longest → bytes ≤ most)
        → OnwardSpends most (forward setting working into function again left)
    unfolding forward_by
    forward_spends again agains again_grow zero most fits place variables operands turns counted =
        elim (eqb place (length (code_of function))) as (λ (b : Bool). Spends longest turns
        (counted.instructions + most)
        (cond b (ended (value (Str [])) turns counted) (ended stuck turns counted))) [
          | true ↦ still (value (Str [])) turns counted most refl
          | false ↦ still stuck turns counted most refl
        ]
    forward_spends again agains again_grow (suc left) most fits place variables operands turns
        counted =
        let effect = effect_at limits.string (at_place function place variables operands) in
        let on = forward setting working into function again left in
        let ons = forward_spends again agains again_grow left left (λ bytes fewer short. fewer) in
        let on_grow =
        forward_follows setting Grows keeps working into grow function again again_grow left in
        let ticked = setting.tick function counted in
        let after = followed setting working into function on again effect turns ticked in
        elim (eqb_tells (place + suc left) (length (code_of function))) [
          | inl here ↦ rw (here.0) (λ within.
              let grown = (followed_follows setting Grows keeps working into grow function on again
              on_grow again_grow effect turns ticked).kin in
              let same = here.1 in
              let short : suc left ≤ longest = omega arith in
              let room : suc left ≤ most = fits (suc left) (omega arith) short in
              later turns turns (counted.instructions + most) (counted.instructions + 1 + left)
              after (omega arith) (omega arith)
              (followed_spends left on again ons on_grow agains (omega arith) effect turns ticked
              within))
          | inr apart ↦ rw (apart.0)
              (forward_spends again agains again_grow left most
              (λ bytes fewer short. fits bytes (omega arith) short)
              place variables operands turns counted)
        ]

    looping_spends : (jumps : ℕ)
        → OnwardSpends longest (looping setting working into function jumps)
    unfolding looping_by
    looping_spends zero place variables operands turns counted =
        still (fatal Budget) turns counted longest refl
    looping_spends (suc jumps) place variables operands turns counted =
        forward_spends (looping setting working into function jumps) (looping_spends jumps)
        (looping_follows setting Grows keeps working into grow function jumps)
        (length (code_of function)) longest (λ bytes fewer short. short)
        place variables operands turns counted

  run_by_spends : (working : ℕ) (into : Enter State) → EnterSpends into → EnterFollows Grows into
      → (frame : Frame) (turns : ℕ) (counted : State)
      → Spends longest turns (counted.instructions + longest)
      (run_by setting working into frame turns counted)
  unfolding goes
  run_by_spends working into intos grow frame turns counted =
      looping_spends working into intos grow frame.function
      (suc turns) frame.place frame.variables frame.operands turns counted

  -- ---- all frames

  began_spends : (working : ℕ) (into : Enter State) → EnterSpends into → EnterFollows Grows into
      → (function : Function) (code : Option Code) (arguments : List Value) (turns : ℕ)
      (counted : State)
      → Spends longest turns (counted.instructions + longest)
      (began setting working into function code arguments turns counted)
  began_spends working into intos grow function None arguments turns counted =
      still stuck turns counted longest refl
  began_spends working into intos grow function (Some code) arguments turns counted =
      elim (eqb (length arguments) code.args) as (λ (b : Bool).
      Spends longest turns (counted.instructions + longest) (cond b
      (run_by setting working into (begun function code arguments) turns counted)
      (ended stuck turns counted))) [
        | true ↦
            run_by_spends working into intos grow (begun function code arguments) turns counted
        | false ↦ still stuck turns counted longest refl
      ]

  enter_spends : (more : ℕ) → EnterSpends (enter setting more)
  unfolding enter
  enter_spends zero function arguments turns counted =
      still (fatal Depth) turns counted longest refl
  enter_spends (suc more) function arguments turns counted =
      began_spends (MOST_DEPTH - more) (enter setting more) (enter_spends more)
      (enter_follows setting Grows keeps more) function (code_at function)
      arguments turns counted

  run_spends : (frame : Frame) (outer : List Frame) (turns : ℕ) (counted : State)
      → Spends longest turns (counted.instructions + longest)
      (run setting frame outer turns counted)
  run_spends frame outer turns counted =
      let more = MOST_DEPTH - length (frame ∷ outer) in
      run_by_spends (length (frame ∷ outer)) (enter setting more) (enter_spends more)
      (enter_follows setting Grows keeps more) frame turns counted

  abbrev ResumedSpends : List Frame → Type 0
  ResumedSpends frames =
      (v : Value) (turns : ℕ) (counted : State)
      → Spends longest turns (counted.instructions + room longest frames)
      (resumed setting frames v turns counted)

  -- the innermost frame, and then the others with its value
  outward_spends : (frame : Frame) (outer : List Frame) (turns : ℕ) (counted : State)
      → ResumedSpends outer
      → let end = run setting frame outer turns counted in
      Spends longest turns (counted.instructions + room longest (frame ∷ outer))
      (returned_by outer (resumed setting outer) end.outcome end.turns end.state)
  outward_spends frame outer turns counted resumes =
      let end = run setting frame outer turns counted in
      returned_spends outer (resumed setting outer)
      (room longest outer) (room longest outer) resumes
      (resumed_follows setting Grows keeps outer) (omega arith) (omega arith)
      turns (counted.instructions + room longest (frame ∷ outer))
      turns (counted.instructions + longest) (omega arith) (omega arith)
      end.outcome end.turns end.state (run_spends frame outer turns counted)

  resumed_spends : (frames : List Frame) → ResumedSpends frames
  unfolding resumed
  resumed_spends [] v turns counted = still (value v) turns counted 0 refl
  resumed_spends (frame ∷ outer) v turns counted =
      outward_spends (pushed v frame) outer turns counted (resumed_spends outer)

  finished_spends : (frames : List Frame) (turns : ℕ) (counted : State)
      → Spends longest turns (counted.instructions + room longest frames)
      (finished setting frames turns counted)
  unfolding finished
  finished_spends [] turns counted = still stuck turns counted 0 refl
  finished_spends (frame ∷ outer) turns counted =
      outward_spends frame outer turns counted (resumed_spends outer)

  -- ---- after dialogs

  answered_spends : (turns before : ℕ) (v : Value) (state : S) (end : Ended State)
      (outcome : Outcome) → end.outcome ≡ outcome → Spends longest turns before end
      → Spends longest turns before (answered_by setting with_count v state end outcome)
  answered_spends turns before v state end (waits dialog frames) is spends = λ within.
      let counted = with_count state end.state in
      let grown = (resumed_follows setting Grows keeps frames v end.turns counted).kin in
      let spent = spends (omega arith) in
      let paid : end.state.instructions + room longest frames + end.turns * each longest
      ≤ before + turns * each longest =
      subst (λ (o : Outcome). end.state.instructions + left_over longest o
      + end.turns * each longest ≤ before + turns * each longest) is spent.few in
      later turns end.turns before (end.state.instructions + room longest frames)
      (resumed setting frames v end.turns counted) spent.fewer paid
      (resumed_spends frames v end.turns counted within)
  answered_spends turns before v state end _ is spends = spends

  continued_spends : (turns before : ℕ) (answers : List (Value × S)) (end : Ended State)
      → Spends longest turns before end
      → Spends longest turns before (continued setting with_count answers end)
  continued_spends turns before [] end spends = spends
  continued_spends turns before (one ∷ more) end spends =
      continued_spends turns before more
      (answered_by setting with_count one.0 one.1 end end.outcome)
      (answered_spends turns before one.0 one.1 end end.outcome refl spends)

-- ---- all of it

-- what was not spent on turns is little
few_for : (working longest took turns left count over : ℕ) → turns ≡ took + left
    → count + over + left * each longest ≤ working * longest + turns * each longest
    → count ≤ most_instructions working took longest
few_for working longest took turns left count over all paid =
    let each_turn = subst (λ (n : ℕ).
    count + over + left * each longest ≤ working * longest + n * each longest) all paid in
    omega arith

module _ {S : Type 0} (limits : Limits) (host : Hosting S) (frames : List Frame) (turns : ℕ)
    (state : S) (answers : List (Value × S)) where
  abbrev first : Ended (Counted S)
  first = finished (counting limits host) frames turns (started state)

  abbrev last : Ended (Counted S)
  last = continued (counting limits host) with_count answers first

  spent : Spent last.state.longest turns (room last.state.longest frames) last
  spent =
      let longest = last.state.longest in
      let begins = (finished_follows (counting limits host) Grows (grows_keeps limits host)
      frames turns (started state)).kin in
      let goes_on = continued_grows limits host answers first in
      continued_spends limits host longest turns (room longest frames) answers first
      (subst (λ (n : ℕ). Spends longest turns n first) (zero-add (room longest frames))
      (finished_spends limits host longest frames turns (started state)))
      (omega arith)

  pub bounded : last.state.instructions
      ≤ most_instructions (length frames) (turns - last.turns) last.state.longest
  bounded =
      let longest = last.state.longest in
      let few = subst (λ (n : ℕ). last.state.instructions + left_over longest last.outcome
      + last.turns * each longest ≤ n + turns * each longest) (room_is longest frames) spent.few in
      let fewer = spent.fewer in
      few_for (length frames) longest (turns - last.turns) turns last.turns
      last.state.instructions (left_over longest last.outcome) (omega arith) few
