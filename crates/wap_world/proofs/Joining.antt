-- Steps one after the other, and the same steps before other keys.
use Rattle.std.proofs.Common.{◌≡◌, List, Option, Some, None, refl, append_assoc}
use mathlib.Core.Bool.{or_assoc}
pub use mathlib.Core.Bool.{or-false as or_false, or-true as or_true}
use Rattle.std.proofs.lemmas.List.{append-nil}
use Rattle.wap_base.specs.declared.key.Key.{Key}
use Rattle.wap_world.specs.World.{World}
use Rattle.wap_world.specs.Steps.{Step, Once, Next, then_step, after_step, quiet, still}
use Rattle.wap_world.specs.Tasks.{go_on, onward}

-- the same step before other keys
abbrev pub before : List Key → Step → Step
before keys step = record step { keys = keys }

-- the same navigation before other keys
abbrev pub once_before : List Key → Once → Once
once_before keys once = record once { step = before keys once.step }

-- ---- steps

-- three steps, one after the other
pub joined_assoc : (one two three : Step)
    → then_step (then_step one two) three ≡ then_step one (then_step two three)
joined_assoc one two three = λ i. record {
  world = three.world;
  keys = three.keys;
  lines = append_assoc one.lines two.lines three.lines i;
  asked = append_assoc one.asked two.asked three.asked i;
  tests = append_assoc one.tests two.tests three.tests i;
  is_open = or_assoc one.is_open two.is_open three.is_open i;
}

-- two steps, and then a navigation
pub after_assoc : (one two : Step) (once : Once)
    → after_step (then_step one two) once ≡ after_step one (after_step two once)
after_assoc one two once = λ i. record {
  step = joined_assoc one two once.step i;
  next = once.next;
}

-- a step, after which nothing happens
pub joined_nothing : (step : Step) (keys : List Key)
    → then_step step (quiet keys (still step.world)) ≡ before keys step
joined_nothing step keys = λ i. record {
  world = step.world;
  keys = keys;
  lines = append-nil step.lines i;
  asked = append-nil step.asked i;
  tests = append-nil step.tests i;
  is_open = or_false step.is_open i;
}

-- a step, and then a navigation and all that it leads to
pub onward_after : (f : List Key → World → Next → Step) (step : Step) (once : Once)
    → onward f (after_step step once) ≡ then_step step (onward f once)
onward_after f step once = by once.next
  where
    by : (o : Option Next) → go_on f (then_step step once.step) o
        ≡ then_step step (go_on f once.step o)
    by None = refl
    by (Some next) = joined_assoc step once.step (f once.step.keys once.step.world next)
