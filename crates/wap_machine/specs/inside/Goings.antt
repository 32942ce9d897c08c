-- Instructions of a frame, one after the other. This carries proofs alone.
use Rattle.std.specs.Prelude.{◌≡◌, ℕ, ◌<◌, List, [], ◌∷◌, length}
use Rattle.wap_execution.specs.Frames.{Frame, code_of}
use Rattle.wap_machine.specs.declared.next.Next.{Next}
use Rattle.wap_machine.specs.declared.next.Next.TheVariants.{Onward}
use Rattle.wap_machine.specs.Standing.{Stands}
use Rattle.wap_machine.specs.Doing.{Acts, EndsOrActs}

-- an instruction was done, after which the frame goes on further on
pub record GoesOn (string : ℕ) (frame after : Frame) : Type 0 where
  pub within : frame.place < length (code_of frame.function)
  pub acts : Acts string frame after Onward

-- one such instruction after the other, from the first frame, which is the last of these, to
-- another; the latest of these comes first
abbrev pub HasPassed : ℕ → Frame → List Frame → Frame → Type 0
HasPassed string first [] now = now ≡ first
HasPassed string first (frame ∷ others) now =
    GoesOn string frame now × HasPassed string first others frame

pub record Passed (string : ℕ) (first now : Frame) : Type 0 where
  pub frames : List Frame
  pub are : HasPassed string first frames now
  pub same : now.function ≡ first.function
  pub stands : Stands now 0

-- after some such instructions the function ends, or another one is done
pub record HasGone (string : ℕ) (before after : Frame) (next : Next) : Type 0 where
  pub now : Frame
  pub passed : Passed string before now
  pub last : EndsOrActs string now after next
