-- What scripts add to the step so far, in which they run. This project's own.
use Rattle.std.specs.Prelude.{ℕ, List}
use Rattle.wap_world.specs.Steps.{AccessTest, Scene, Step, still, behind, quiet, then_step}
use Rattle.wap_world.specs.Requests.{Request, ask, test}

-- a scene, by its world and its lines
abbrev pub with_scene : Scene → Step → Step
with_scene scene step = then_step step (quiet step.keys scene)

-- lines more
abbrev pub with_lines : List (List ℕ) → Step → Step
with_lines lines step = with_scene (behind lines (still step.world)) step

-- a decision more
abbrev pub with_test : AccessTest → Step → Step
with_test one step = then_step step (test step.keys one step.world)

-- a request more: it is shown, and the page is asked for
abbrev pub with_request : Request → Step → Step
with_request request step = then_step step (ask step.keys request step.world)
