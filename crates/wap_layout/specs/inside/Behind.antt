-- The lines of what remains of a flow. This project's own.
use Rattle.std.specs.Prelude.{ℕ, List, ◌++◌}
use Rattle.std.specs.List.{flat_map}
use Rattle.wap_layout.specs.declared.flow.Flow.{Flow}
use Rattle.wap_layout.specs.declared.flow.Mode.{Mode}
use Rattle.wap_layout.specs.Pieces.{pieces}
use Rattle.wap_layout.specs.Calculation.{piece_lines}

-- the lines so far, and those of a text that has not ended yet and of the flow after it
abbrev pub lines_behind : ℕ → List (List ℕ) → Mode → List ℕ → List Flow → List (List ℕ)
lines_behind width lines mode text flow =
    lines ++ flat_map (piece_lines width) (pieces mode text flow)
