-- The parts of a frame's run among units, with so many functions at work.
use Rattle.std.proofs.Common.{ℕ}
use Rattle.wap_execution.specs.Frames.{Function}
use Rattle.wap_execution.specs.Effects.{Effect}
use Rattle.wap_execution.specs.Outcomes.{Ended, Setting}
use Rattle.wap_execution.specs.Running.{Enter, Onward, called, followed_by, forward_by, looping_by}
use Rattle.wap_execution.specs.Running.{ways_of}

-- what an effect comes to
abbrev pub followed : {S : Type 0} → Setting S → ℕ → Enter S → Function → Onward S → Onward S
    → Effect → ℕ → S → Ended S
followed setting working enter function =
    followed_by (called setting working enter function) function

-- with so many bytes of the code left
abbrev pub forward : {S : Type 0} → Setting S → ℕ → Enter S → Function → Onward S → ℕ → Onward S
forward setting working enter function =
    forward_by (ways_of setting working enter function) function

-- with at most so many jumps back
abbrev pub looping : {S : Type 0} → Setting S → ℕ → Enter S → Function → ℕ → Onward S
looping setting working enter function =
    looping_by (ways_of setting working enter function) function
