-- Instructions of a frame with the turns of its jumps back. This carries proofs alone.
use Rattle.std.specs.Prelude.{◌≡◌, ℕ, ◌≤◌, List, ◌∷◌}
use Rattle.wap_base.specs.declared.limits.Limits.{Limits}
use Rattle.wap_execution.specs.Frames.{Frame}
use Rattle.wap_execution.specs.Outcomes.{Hosting}
use Rattle.wap_execution.specs.Running.{finished}
use Rattle.wap_execution.specs.laws.Settings.{uncounted}
use Rattle.wap_machine.specs.declared.next.Next.{Next}
use Rattle.wap_machine.specs.declared.machine.Wanted.{Wanted}
use Rattle.wap_machine.specs.Standing.{Stands}
use Rattle.wap_machine.specs.inside.Advances.{IsAdvanced}
use Rattle.wap_machine.specs.inside.Efforts.{effort}
use Rattle.wap_machine.specs.inside.Goings.{HasGone}
use Rattle.wap_machine.specs.inside.Stacked.{AreStacked}

-- from one frame to another of its function what there is to do stays, and grows no longer
pub record Rounds {S : Type 0} (meaning : Hosting S) (limits : Limits) (turns left : ℕ)
    (first now : Frame) : Type 0 where
  pub same : now.function ≡ first.function
  pub stands : Stands now 0
  pub told : (outer : List Frame) (state : S) → AreStacked limits first 0 outer
      → finished (uncounted limits meaning) (first ∷ outer) turns state
      ≡ finished (uncounted limits meaning) (now ∷ outer) left state
  pub falls : (outer : List Frame) → AreStacked limits first 0 outer
      → effort left (now ∷ outer) ≤ effort turns (first ∷ outer)

-- after such rounds instructions were done up to one that doesn't simply go on
pub record HasRounded {S : Type 0} (meaning : Hosting S) (limits : Limits) (turns left : ℕ)
    (before after : Frame) (next : Next) : Type 0 where
  pub now : Frame
  pub rounds : Rounds meaning limits turns left before now
  pub gone : HasGone limits.string now after next

-- after such rounds of the innermost frame this is wanted
pub record ComesTo {S : Type 0} (meaning : Hosting S) (limits : Limits) (turns left : ℕ)
    (frames : List Frame) (wanted : Wanted) : Type 0 where
  pub middle : List Frame
  pub told : (state : S) → finished (uncounted limits meaning) frames turns state
      ≡ finished (uncounted limits meaning) middle left state
  pub falls : effort left middle ≤ effort turns frames
  pub advanced : IsAdvanced limits middle wanted
