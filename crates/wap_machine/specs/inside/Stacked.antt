-- Frames of which each but the innermost waits for one value. This carries proofs alone.
use Rattle.std.specs.Prelude.{ℕ, ◌<◌, List, length}
use Rattle.std.specs.List.{AllByRecursion}
use Rattle.wap_base.specs.declared.limits.Limits.{Limits}
use Rattle.wap_base.specs.declared.limits.TheConstants.{MOST_DEPTH}
use Rattle.wap_base.specs.Limits.{AreInRange}
use Rattle.wap_execution.specs.Frames.{Frame}
use Rattle.wap_machine.specs.Standing.{Stands}

-- the frame stands with as many values to come, and those outside it wait for one each
pub record AreStacked
    (limits : Limits) (frame : Frame) (coming : ℕ) (outer : List Frame) : Type 0 where
  pub limits_fit : AreInRange limits
  pub innermost : Stands frame coming
  pub others : AllByRecursion (λ other. Stands other 1) outer
  pub few : length outer < MOST_DEPTH
