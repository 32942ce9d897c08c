-- How many bytes are left in the code of frames, and one for each frame. This carries proofs alone.
use Rattle.std.specs.Prelude.{ℕ, ◌+◌, ◌-◌, ◌^◌, List, [], ◌∷◌, length}
use Rattle.wap_execution.specs.Frames.{Frame, code_of}

abbrev pub weight : List Frame → ℕ
weight [] = 0
weight (frame ∷ outer) = length (code_of frame.function) - frame.place + 1 + weight outer

-- the weights of all machines are below
abbrev pub heavy : ℕ
heavy = 2 ^ 40
