-- What frames come to, one instruction at a time.
use Rattle.std.proofs.Common.{◌≡◌, ℕ, zero, suc, ◌+◌, ◌-◌, ◌<◌, ◌≤◌, List, [], ◌∷◌, length}
use Rattle.std.proofs.Common.{Option, Some, refl, sym, ap, ◌∙◌, arith, append_assoc, Bool, cond}
use Rattle.std.proofs.lemmas.Bool.{eq-eqb}
use Rattle.wap_base.specs.declared.limits.TheConstants.{MOST_DEPTH}
use Rattle.wap_value.specs.declared.value.Value.{Value}
use Rattle.wap_value.specs.declared.value.Value.TheVariants.{Str}
use Rattle.wap_unit.specs.declared.unit.Code.{Code}
use Rattle.wap_execution.specs.declared.fatal.Fatal.{Fatal}
use Rattle.wap_execution.specs.declared.fatal.Fatal.TheVariants.{Budget}
use Rattle.wap_execution.specs.Frames.{Function, Frame, code_at, code_of, begun, pushed}
use Rattle.wap_execution.specs.Effects.{Called, Effect, onward, back, calls}
use Rattle.wap_execution.specs.Effects.{returns, ends, effect_at}
use Rattle.wap_execution.specs.Outcomes.{Outcome, value, fatal, waits, stuck, Ended, Setting}
use Rattle.wap_execution.specs.Running.{ended, returned_by, returned, Enter, Onward, called, Ways}
use Rattle.wap_execution.specs.Running.{ways_of, forward_by, at_place, run_by, began, enter, run}
use Rattle.wap_execution.specs.Running.{resumed, finished, looping_by, goes}
use Rattle.wap_execution.proofs.LawsLemmas.FrameRuns.{followed, forward, looping}
use Rattle.wap_execution.specs.laws.Instructions.{settled}
use Rattle.wap_execution.proofs.LawsLemmas.Going.{TurnsFall, forward_here, forward_end}
use Rattle.wap_execution.proofs.LawsLemmas.Going.{forward_past, forward_any, looping_same}
use Rattle.wap_execution.proofs.LawsLemmas.PlaceLaws.{IsBehind, leads_behind}
use Rattle.wap_execution.proofs.LawsLemmas.RunLaws.{calls_fall}

module _ {S : Type 0} (setting : Setting S) where
  -- what a function comes to that is entered from the innermost of so many frames
  abbrev pub inner : ℕ → Enter S
  inner working = enter setting (MOST_DEPTH - working)

  -- what a frame makes of a call, and the frames outside it of that, is what all make of the call
  at_frames : (outer : List Frame) (new : Frame) (next : Value → ℕ → S → Ended S) (left : ℕ)
      → ((v : Value) (fewer : ℕ) (later : S) → fewer ≤ left
      → next v fewer later ≡ run setting (pushed v new) outer fewer later)
      → (outcome : Outcome) (fewer : ℕ) (later : S) → fewer ≤ left
      → returned outer (resumed setting outer) (returned_by (new ∷ []) next outcome fewer later)
      ≡ returned_by (new ∷ outer) (resumed setting (new ∷ outer)) outcome fewer later
  unfolding resumed
  at_frames outer new next left nexts (value v) fewer later less =
      ap (λ (end : Ended S). returned outer (resumed setting outer) end) (nexts v fewer later less)
  at_frames outer new next left nexts (waits dialog inside) fewer later less =
      ap (λ (all : List Frame). ended (waits dialog all) fewer later)
      (append_assoc inside (new ∷ []) outer)
  at_frames outer new next left nexts _ fewer later less = refl

  module _ (function : Function) (outer : List Frame) where
    abbrev within : ℕ
    within = suc (length outer)

    -- its run
    abbrev ways : Ways S
    ways = ways_of setting within (inner within) function

    falls : TurnsFall ways.call
    falls = calls_fall setting within (MOST_DEPTH - within) function

    -- so many bytes and jumps are enough to go on at a place
    on_enough : (jumps rest place : ℕ) (variables operands : List Value) (turns : ℕ) (state : S)
        → turns ≤ jumps → length (code_of function) ≤ place + rest
        → forward setting within (inner within) function (looping setting within
        (inner within) function jumps) rest place variables operands turns state
        ≡ run setting (at_place function place variables operands) outer turns state
    unfolding goes looping_by
    on_enough jumps rest place variables operands turns state few covers =
        forward_any ways function (looping_by ways function jumps) rest
        (length (code_of function)) place variables operands turns state covers (omega arith)
        ∙ looping_same ways function falls (suc jumps)
        (suc turns) place variables operands turns state (omega arith) (omega arith)

    -- a call, and what the frames make of what it comes to
    pub call_whole : (jumps rest place left : ℕ) (callee : Called)
        (arguments variables operands : List Value) (state : S) → left ≤ jumps
        → length (code_of function) ≤ place + rest
        → returned outer (resumed setting outer) (followed setting within (inner within) function
        (forward setting within (inner within) function
        (looping setting within (inner within) function jumps) rest)
        (looping setting within (inner within) function jumps)
        (calls callee arguments place variables operands) (suc left) state)
        ≡ returned (at_place function place variables operands ∷ outer)
        (resumed setting (at_place function place variables operands ∷ outer))
        (called setting within (inner within) function callee arguments left state)
    call_whole jumps rest place left callee arguments variables operands state few covers =
        let new = at_place function place variables operands in
        let call = ways.call callee arguments left state in
        at_frames outer new
        (λ (v : Value). forward_by ways function (looping_by ways function jumps) rest place
        variables (v ∷ operands)) left
        (λ (v : Value) (fewer : ℕ) (later : S) (less : fewer ≤ left).
        on_enough jumps rest place variables (v ∷ operands) fewer later (omega arith) covers)
        call.outcome call.turns call.state (falls callee arguments left state)

  module _ (frame : Frame) (outer : List Frame) where
    abbrev working : ℕ
    working = length (frame ∷ outer)

    abbrev again : ℕ → Onward S
    again turns = looping setting working (inner working) frame.function turns

    abbrev on : ℕ → Onward S
    on turns =
        forward setting working (inner working) frame.function (again turns)
        (length (code_of frame.function) - frame.place - 1)

    -- at the end of its code a frame gives ""
    run_end : (turns : ℕ) (state : S) → frame.place ≡ length (code_of frame.function)
        → run setting frame outer turns state ≡ ended (value (Str [])) turns state
    unfolding goes looping_by
    run_end turns state at_end =
        forward_end (ways frame.function outer) frame.function (again turns)
        (length (code_of frame.function)) frame.place frame.variables frame.operands turns state
        at_end

    -- inside its code what stands there decides
    run_here : (turns : ℕ) (state : S) → frame.place < length (code_of frame.function)
        → run setting frame outer turns state
        ≡ followed setting working (inner working) frame.function (on turns) (again turns)
        (effect_at setting.limits.string frame) turns (setting.tick frame.function state)
    unfolding goes looping_by
    run_here turns state within =
        forward_here (ways frame.function outer) frame.function (again turns)
        (length (code_of frame.function))
        frame.place frame.variables frame.operands turns state within (omega arith)

    -- back there, the frame goes on
    again_is : (turns left place : ℕ) (variables operands : List Value) (state : S) → left < turns
        → again turns place variables operands left state
        ≡ run setting (at_place frame.function place variables operands) outer left state
    unfolding goes
    again_is turns left place variables operands state fewer =
        looping_same (ways frame.function outer) frame.function (falls frame.function outer) turns
        (suc left) place variables operands left state fewer (omega arith)

    -- further on, the frame goes on
    on_is : (turns left place : ℕ) (variables operands : List Value) (state : S) → left ≤ turns
        → frame.place < place
        → on turns place variables operands left state
        ≡ run setting (at_place frame.function place variables operands) outer left state
    unfolding goes looping_by
    on_is turns left place variables operands state fewer onwards =
        on_enough frame.function outer turns (length (code_of frame.function) - frame.place - 1)
        place variables operands left state fewer (omega arith)

    -- behind its code it is stuck
    run_behind : (turns : ℕ) (state : S) → length (code_of frame.function) < frame.place
        → run setting frame outer turns state ≡ ended stuck turns state
    unfolding goes looping_by
    run_behind turns state past =
        forward_past (ways frame.function outer) frame.function (again turns)
        (length (code_of frame.function)) frame.place frame.variables frame.operands turns state
        past

    -- ---- what the frames come to

    -- at the end of its code a frame gives "" to the next
    pub ends_whole : (turns : ℕ) (state : S) → frame.place ≡ length (code_of frame.function)
        → finished setting (frame ∷ outer) turns state ≡ resumed setting outer (Str []) turns state
    unfolding finished
    ends_whole turns state at_end =
        ap (λ (end : Ended S). returned outer (resumed setting outer) end)
        (run_end turns state at_end)

    -- behind its code a frame is stuck, and so are those outside it
    pub stuck_behind : (turns : ℕ) (state : S) → length (code_of frame.function) < frame.place
        → finished setting (frame ∷ outer) turns state ≡ ended stuck turns state
    unfolding finished
    stuck_behind turns state past =
        ap (λ (end : Ended S). returned outer (resumed setting outer) end)
        (run_behind turns state past)

    -- what a frame comes to by an effect, and the frames outside it by that
    settles_by : (effect : Effect) → IsBehind frame.place effect → (turns : ℕ) (state : S)
        → returned outer (resumed setting outer) (followed setting working (inner working)
        frame.function (on turns) (again turns) effect turns state)
        ≡ settled setting frame outer effect turns state
    unfolding finished
    settles_by (onward place variables operands) further turns state =
        ap (λ (end : Ended S). returned outer (resumed setting outer) end)
        (on_is turns turns place variables operands state (omega arith) further)
    settles_by (back place variables operands) further zero state = refl
    settles_by (back place variables operands) further (suc left) state =
        ap (λ (end : Ended S). returned outer (resumed setting outer) end)
        (again_is (suc left) left place variables operands state (omega arith))
    settles_by (calls callee arguments place variables operands) further zero state = refl
    settles_by (calls callee arguments place variables operands) further (suc left) state =
        let behind : frame.place < place = further in
        call_whole frame.function outer (suc left)
        (length (code_of frame.function) - frame.place - 1) place left callee arguments variables
        operands state (omega arith) (omega arith)
    settles_by _ further turns state = refl

    module _ (turns : ℕ) (state : S) (within : frame.place < length (code_of frame.function)) where
      -- the state before the effect
      abbrev ticked : S
      ticked = setting.tick frame.function state

      -- what stands at the place decides
      pub settles : finished setting (frame ∷ outer) turns state
          ≡ settled setting frame outer (effect_at setting.limits.string frame) turns ticked
      unfolding finished
      settles =
          ap (λ (end : Ended S). returned outer (resumed setting outer) end)
          (run_here turns state within)
          ∙ settles_by (effect_at setting.limits.string frame)
          (leads_behind setting.limits.string frame) turns ticked

      -- by the effect that stands there
      settles_as : (effect : Effect) → effect_at setting.limits.string frame ≡ effect
          → finished setting (frame ∷ outer) turns state
          ≡ settled setting frame outer effect turns ticked
      settles_as effect is =
          settles ∙ ap (λ (e : Effect). settled setting frame outer e turns ticked) is

      -- a frame that gives a value gives it to the next
      pub returns_value : (v : Value) → effect_at setting.limits.string frame ≡ returns v
          → finished setting (frame ∷ outer) turns state ≡ resumed setting outer v turns ticked
      returns_value v is = settles_as (returns v) is

      -- a script that ends abnormally ends in each frame
      pub ends_fatally : (why : Fatal) → effect_at setting.limits.string frame ≡ ends why
          → finished setting (frame ∷ outer) turns state ≡ ended (fatal why) turns ticked
      ends_fatally why is = settles_as (ends why) is

      module _ (new : Frame) (same : new.function ≡ frame.function) where
        -- the new frame is the old one at its place
        moved : at_place frame.function new.place new.variables new.operands ≡ new
        moved = ap (λ (f : Function). at_place f new.place new.variables new.operands) (sym same)

        -- a frame goes on further on
        pub goes_onward : effect_at setting.limits.string frame
            ≡ onward new.place new.variables new.operands
            → finished setting (frame ∷ outer) turns state
            ≡ finished setting (new ∷ outer) turns ticked
        goes_onward is =
            settles_as (onward new.place new.variables new.operands) is
            ∙ ap (λ (f : Frame). finished setting (f ∷ outer) turns ticked) moved

        module _ (is : effect_at setting.limits.string frame
            ≡ back new.place new.variables new.operands) where
          -- by the turns that are left
          by_back : (left : ℕ) → turns ≡ left → finished setting (frame ∷ outer) turns state
              ≡ settled setting frame outer (back new.place new.variables new.operands) left ticked
          by_back left are =
              settles_as (back new.place new.variables new.operands) is ∙ ap (λ (n : ℕ).
              settled setting frame outer (back new.place new.variables new.operands) n ticked) are

          -- without a turn there is no way back
          pub back_without : turns ≡ 0 → finished setting (frame ∷ outer) turns state
              ≡ ended (fatal Budget) 0 ticked
          back_without none = by_back 0 none

          -- with a turn there is
          pub goes_back : (left : ℕ) → turns ≡ suc left
              → finished setting (frame ∷ outer) turns state
              ≡ finished setting (new ∷ outer) left ticked
          goes_back left some =
              by_back (suc left) some
              ∙ ap (λ (f : Frame). finished setting (f ∷ outer) left ticked) moved

        module _ (callee : Called) (arguments : List Value)
            (is : effect_at setting.limits.string frame
            ≡ calls callee arguments new.place new.variables new.operands) where
          abbrev call : Effect
          call = calls callee arguments new.place new.variables new.operands

          -- by the turns that are left
          by_call : (left : ℕ) → turns ≡ left → finished setting (frame ∷ outer) turns state
              ≡ settled setting frame outer call left ticked
          by_call left are =
              settles_as call is
              ∙ ap (λ (n : ℕ). settled setting frame outer call n ticked) are

          -- without a turn there is no call
          pub calls_without : turns ≡ 0 → finished setting (frame ∷ outer) turns state
              ≡ ended (fatal Budget) 0 ticked
          calls_without none = by_call 0 none

          -- the call, and what the frames make of what it comes to
          pub makes_call : (left : ℕ) → turns ≡ suc left
              → finished setting (frame ∷ outer) turns state
              ≡ returned (new ∷ outer) (resumed setting (new ∷ outer))
              (called setting (length (new ∷ outer)) (inner (length (new ∷ outer)))
              new.function callee arguments left ticked)
          makes_call left some =
              by_call (suc left) some
              ∙ ap (λ (f : Frame). returned (f ∷ outer) (resumed setting (f ∷ outer))
              (called setting working (inner working) frame.function callee arguments left ticked))
              moved
              ∙ ap (λ (f : Function). returned (new ∷ outer) (resumed setting (new ∷ outer))
              (called setting working (inner working) f callee arguments left ticked)) (sym same)

  -- a function that is entered is the innermost frame
  pub enters : (frames : List Frame) (function : Function) (code : Code) (arguments : List Value)
      (turns : ℕ) (state : S) → length frames < MOST_DEPTH → code_at function ≡ Some code
      → length arguments ≡ code.args
      → returned frames (resumed setting frames)
      (inner (length frames) function arguments turns state)
      ≡ finished setting (begun function code arguments ∷ frames) turns state
  unfolding finished enter
  enters frames function code arguments turns state few is many =
      ap (λ (end : Ended S). returned frames (resumed setting frames) end) (entering is)
    where
      one_more : MOST_DEPTH - length frames ≡ suc (MOST_DEPTH - suc (length frames))
      one_more = omega arith

      depth : MOST_DEPTH - (MOST_DEPTH - suc (length frames)) ≡ suc (length frames)
      depth = omega arith

      entering : code_at function ≡ Some code
          → inner (length frames) function arguments turns state
          ≡ run setting (begun function code arguments) frames turns state
      entering found =
          ap (λ (n : ℕ). enter setting n function arguments turns state) one_more
          ∙ ap (λ (c : Option Code). began setting (MOST_DEPTH - (MOST_DEPTH - suc (length frames)))
          (enter setting (MOST_DEPTH - suc (length frames))) function c arguments turns state) found
          ∙ ap (λ (b : Bool). cond b
          (run_by setting (MOST_DEPTH - (MOST_DEPTH - suc (length frames)))
          (enter setting (MOST_DEPTH - suc (length frames)))
          (begun function code arguments) turns state) (ended stuck turns state))
          (eq-eqb (length arguments) code.args many)
          ∙ ap (λ (n : ℕ). run_by setting n (enter setting (MOST_DEPTH - suc (length frames)))
          (begun function code arguments) turns state) depth
