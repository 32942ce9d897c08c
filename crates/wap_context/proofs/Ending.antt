-- What follows the end of a script, after what its run did.
use Rattle.std.proofs.Common.{◌≡◌, ◌∙◌, [], Option, Some, None, sym, ap, ap₂}
use Rattle.wap_base.specs.declared.limits.Limits.{Limits}
use Rattle.wap_url.specs.declared.url.Url.{Url}
use Rattle.wap_machine.specs.Runs.{meant, KeepsLimits}
use Rattle.wap_machine.specs.declared.machine.Outcome.{Outcome}
use Rattle.wap_machine.specs.declared.machine.Outcome.TheVariants.{Asks}
use Rattle.wap_world.specs.World.{Place}
use Rattle.wap_world.specs.Sites.{End}
use Rattle.wap_world.specs.Steps.{Step, Once, after_step, still, quiet, settled}
use Rattle.wap_world.specs.Starting.{end_by}
use Rattle.wap_world.specs.scripting.UnitSites.{end_of}
use Rattle.wap_world.specs.scripting.Halves.{half_by}
use Rattle.wap_world.proofs.Joining.{once_before, joined_nothing}
use Rattle.wap_world.proofs.ScriptingLawsLemmas.Runs.{keys_end, front_end}
use Rattle.wap_context.specs.inside.Starting.{end_at, waits_by}

-- an end after a step is the step, and then the end in the world that it left
pub end_is : (place : Option Place) (base : Url) (end : End) (step : Step)
    → end_by place base end step ≡ after_step step
    (once_before step.keys (end_by place base end (quiet [] (still step.world))))
end_is place base end step =
    ap (end_by place base end) (sym (joined_nothing step step.keys))
    ∙ front_end step place base end (quiet step.keys (still step.world))
    ∙ ap (after_step step) (keys_end place base end step.keys (quiet [] (still step.world)))

-- what a machine came to, and what follows
pub half_is : (limits : Limits) (place : Option Place) (base : Url) (outcome : Outcome)
    (step : Step) → KeepsLimits limits outcome
    → half_by limits place base (meant outcome) step ≡ record {
      once = after_step step (once_before step.keys (end_at place base outcome step.world));
      waiting = waits_by base outcome;
    }
half_is limits place base (Asks dialog machine) step keeps =
    ap₂ (λ (s : Step) (l : Limits). record {
      once = settled s;
      waiting = Some (record {
        dialog = dialog;
        limits = l;
        frames = machine.frames;
        base = base;
      });
    }) (sym (joined_nothing step step.keys)) (sym keeps)
half_is limits place base outcome step keeps =
    ap (λ (o : Once). record { once = o; waiting = None })
    (end_is place base (end_of (meant outcome)) step)
