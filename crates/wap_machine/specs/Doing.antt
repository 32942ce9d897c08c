-- What was done to a frame, by the effect of its instruction. This project's own.
use Rattle.std.specs.Prelude.{⊤, ◌≡◌, ◌≢◌, ℕ, ◌<◌, [], length}
use Rattle.wap_value.specs.declared.value.Value.TheVariants.{Str}
use Rattle.wap_execution.specs.declared.fatal.Fatal.TheVariants.{Budget}
use Rattle.wap_execution.specs.Frames.{Function, Frame, code_of}
use Rattle.wap_execution.specs.Effects.{Effect, effect_at}
use Rattle.wap_machine.specs.declared.next.Callee.{Callee}
use Rattle.wap_machine.specs.declared.next.Callee.TheVariants.{External}
use Rattle.wap_machine.specs.declared.next.Next.{Next}
use Rattle.wap_machine.specs.declared.next.Next.TheVariants.{Onward, Back, Call, Return, End}
use Rattle.wap_machine.specs.Seen.{effect_after}
use Rattle.wap_machine.specs.Standing.{Stands, Fits}

-- the arguments of a function of another unit can be counted in a byte
abbrev pub AreFew : Callee → ℕ → Type 0
AreFew (External url name) count = count < 256
AreFew _ count = ⊤

-- what is to be done is in order: its arguments can be counted, and it isn't an end because turns
-- ran out
abbrev pub IsInOrder : Next → Type 0
IsInOrder (Call callee arguments) = AreFew callee (length arguments.items)
IsInOrder (End why) = why ≢ Budget
IsInOrder _ = ⊤

-- an effect is what was done to a frame of the function
pub record Does (effect : Effect) (function : Function) (after : Frame) (next : Next) : Type 0 where
  pub is : effect ≡ effect_after next after
  pub same : after.function ≡ function
  pub in_order : IsInOrder next

-- the instruction of a frame was done: nothing that it needs was missing
pub record Acts (string : ℕ) (before after : Frame) (next : Next) : Type 0 where
  pub does : Does (effect_at string before) before.function after next
  pub fits : Fits before (effect_after next after)

-- at its end a function gives the empty String, and before it its instruction is done
pub data EndsOrActs (string : ℕ) (before after : Frame) (next : Next) : Type 0 where
  has_ended : before.place ≡ length (code_of before.function) → next ≡ Return (Str [])
      → EndsOrActs string before after next
  has_acted : before.place < length (code_of before.function) → Acts string before after next
      → EndsOrActs string before after next

-- where what is to be done goes on, the frame stands
abbrev pub StandsFor : Frame → Next → Type 0
StandsFor frame Onward = Stands frame 0
StandsFor frame Back = Stands frame 0
StandsFor frame (Call callee arguments) = Stands frame 1
StandsFor frame (Return value) = ⊤
StandsFor frame (End why) = ⊤
