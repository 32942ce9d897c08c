-- How much a machine may still do between turns: no more instructions than bytes are left in the
-- code of its frames. This carries proofs alone.
use Rattle.std.specs.Prelude.{⊤, ℕ, ◌+◌, ◌*◌, ◌<◌, List}
use Rattle.wap_execution.specs.Frames.{Frame}
use Rattle.wap_machine.specs.inside.Weights.{weight, heavy}
use Rattle.wap_machine.specs.declared.machine.Step.{Step}
use Rattle.wap_machine.specs.declared.machine.Step.TheVariants.{Goes, Ends}

abbrev pub effort : ℕ → List Frame → ℕ
effort turns frames = turns * heavy + weight frames

-- where a step goes on, less is left than this
abbrev pub GoesBelow : ℕ → ℕ → Step → Type 0
GoesBelow most turns (Goes machine) = effort turns machine.frames < most
GoesBelow most turns (Ends outcome) = ⊤

abbrev pub IsLight : Step → Type 0
IsLight (Goes machine) = weight machine.frames < heavy
IsLight (Ends outcome) = ⊤
