-- Scripts that run, and what follows their end at the place at hand. Contracts inside the crate
-- cite it; those of its public calls don't. This project's own.
use Rattle.std.specs.Prelude.{◌≡◌, false, List, [], Option, Some, None, IfOk, OnOk, ◌≤◌, ◌<◌}
use Rattle.std.specs.Prelude.{Result, Err}
use Rattle.std.specs.Option.{option_and_then}
use Rattle.wap_base.specs.declared.fault.RunErr.{RunErr}
use Rattle.wap_base.specs.declared.fault.RunErr.TheVariants.{Store}
use Rattle.wap_url.specs.declared.url.Url.{Url}
use Rattle.wap_base.specs.declared.key.Key.{Key}
use Rattle.wap_execution.specs.Outcomes.{Ended}
use Rattle.wap_execution.specs.Running.{finished}
use Rattle.wap_execution.specs.laws.Settings.{uncounted}
use Rattle.wap_machine.specs.Stacks.{Stack}
use Rattle.wap_machine.specs.Runs.{meant, KeepsLimits}
use Rattle.wap_machine.specs.declared.machine.Outcome.{Outcome}
use Rattle.wap_machine.specs.declared.machine.Outcome.TheVariants.{Asks}
use Rattle.wap_world.specs.site.Asking.{Seen, Stays, Asks as AsksFor, Fails}
use Rattle.wap_world.specs.World.{World, Place}
use Rattle.wap_world.specs.Steps.{Step, Once, still, quiet, settled}
use Rattle.wap_world.specs.Sites.{Call}
use Rattle.wap_world.specs.Starting.{end_by, ended_script}
use Rattle.wap_world.specs.scripting.UnitSites.{Pages, shelf_of, host_of, keyed_host, end_of}
use Rattle.wap_world.specs.scripting.UnitSites.{ran_of}
use Rattle.wap_world.specs.scripting.Waiting.{Waits, inside}
use Rattle.wap_state.specs.Scenes.{Line}
use Rattle.wap_context.specs.Browsers.{Browser, IsOver}
use Rattle.wap_context.specs.Pausing.{waits_of}
use Rattle.wap_context.specs.Sites.{fragment_call, IfOver}

-- ---- a script that is started

-- the run of these frames within these limits, from lines that were shown before, and its end
abbrev pub run_with : Stack → Url → List Line → Pages → List Key → World → Once
run_with machine base first pages keys world = ended_script (shelf_of pages) base
    (ran_of (finished (uncounted machine.limits (keyed_host pages)) machine.frames world.turns
    (quiet keys (record { world = inside world; lines = first }))))

-- the call in the fragment of a URL
abbrev pub call_at : Url → Option Call
call_at url = option_and_then fragment_call url.fragment

-- ---- a machine that ran

-- the run of these frames without keys
abbrev pub run_of : Stack → List Line → Pages → World → Ended Step
run_of machine first pages world =
    finished (uncounted machine.limits (host_of pages)) machine.frames world.turns
    (quiet [] (record { world = inside world; lines = first }))

-- it came to this end
pub record CameTo (pages : Pages) (end : Ended Step) (seen after : Seen) (new : Browser)
    (outcome : Outcome) (lines : List Line) : Type 0 where
  pub outcome_is : meant outcome ≡ end.outcome
  pub world : new.world ≡ record end.state.world { turns = end.turns }
  pub lines_are : lines ≡ end.state.lines
  pub closed : end.state.is_open ≡ false
  pub asks : AsksFor end.state.asked seen after
  pub over : IsOver (shelf_of pages) new

-- these pages before and after, the browser before and after, and the lines of the run before it
pub record RunsTo (machine : Stack) (first : List Line) (seen after : Seen) (old new : Browser)
    (result : Result (Outcome × List Line) RunErr) : Type 0 where
  pub came : IfOk result (λ did. IfOver after old
      (λ pages. CameTo pages (run_of machine first pages old.world) seen after new did.0 did.1))
  pub steady : OnOk result (after.faults ≡ seen.faults)
  pub missed : result ≡ Err Store → IfOver after old
      (λ pages. Fails (run_of machine first pages old.world).state.asked seen after)
  pub rose : result ≡ Err Store → seen.faults < after.faults
  pub stays : Stays seen after
  pub turns : OnOk result (new.world.turns ≤ old.world.turns)
  pub limits : IfOk result (λ did. KeepsLimits machine.limits did.0)

-- ---- the end of a script

-- by what it came to, at a place: its end, or what it asks
abbrev pub end_at : Option Place → Url → Outcome → World → Once
end_at place base (Asks dialog machine) world = settled (quiet [] (still world))
end_at place base other world = end_by place base (end_of (meant other)) (quiet [] (still world))

-- the dialog that waits, with the script that asks
abbrev pub waits_by : Url → Outcome → Option Waits
waits_by base (Asks dialog machine) = Some (waits_of dialog (record {
  limits = machine.limits;
  frames = machine.frames;
  base = base;
}))
waits_by base other = None
