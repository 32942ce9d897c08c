-- The innermost of frames. This carries proofs alone.
use Rattle.std.specs.Prelude.{◌≡◌, List, ◌∷◌}
use Rattle.wap_execution.specs.Frames.{Frame}

pub record IsInnermost (frame : Frame) (frames : List Frame) : Type 0 where
  pub outer : List Frame
  pub are : frames ≡ frame ∷ outer
