-- How many instructions runs do, with those of all functions that they call, and where they go on
-- after dialogs. This project's own.
use Rattle.std.specs.Prelude.{ℕ, ◌+◌, ◌-◌, ◌*◌, ◌≤◌, List, length}
use Rattle.wap_base.specs.declared.limits.Limits.{Limits}
use Rattle.wap_value.specs.declared.value.Value.{Value}
use Rattle.wap_execution.specs.Frames.{Frame}
use Rattle.wap_execution.specs.Outcomes.{Hosting}
use Rattle.wap_execution.specs.Running.{finished}
use Rattle.wap_execution.specs.laws.Settings.{Counted, counting}
use Rattle.wap_execution.specs.laws.Dialogs.{continued, with_count}

-- nothing is done yet
abbrev pub started : {S : Type 0} → S → Counted S
started state = record { state = state; instructions = 0; longest = 0 }

-- no more instructions than this are done by so many functions at work, and by all that they call,
-- by the turns that are taken and by the longest code among the functions that did an instruction
abbrev pub most_instructions : ℕ → ℕ → ℕ → ℕ
most_instructions working turns longest = (2 * turns + working) * (longest + 1)

-- in a run of frames, and in all that goes on after its dialogs
abbrev pub AreBounded : {S : Type 0} → Limits → Hosting S → Type 0
AreBounded {S} limits host =
    (frames : List Frame) (turns : ℕ) (state : S) (answers : List (Value × S))
    → let setting = counting limits host in
    let end = continued setting with_count answers
    (finished setting frames turns (started state)) in
    end.state.instructions
    ≤ most_instructions (length frames) (turns - end.turns) end.state.longest
