use Rattle.std.proofs.Common.{subst}
use Rattle.std.specs.Prelude.{IfOk, IsErrOf}
use Rattle.wap_base.specs.declared.fault.RunErr.TheVariants.{Store}
use Rattle.wap_machine.specs.Hosts.{Gives, Fetches}
use Rattle.wap_world.specs.site.Pages.{Pages as JudgedPages}
use Rattle.wap_world.specs.site.Asking.{MayBe}
use Rattle.wap_world.specs.scripting.Views.{viewing}
use Rattle.wap_context.specs.host.Stages.{Stage, view_in, told, fetched_in}
use Rattle.wap_context.proofs.host.running.RunningHost.external.Goals as goal

pub returns-clause-fetches : goal.returns-clause-fetches
returns-clause-fetches g c = c.find.ensures.serves.stays.fetches

pub returns-clause-told : goal.returns-clause-told
returns-clause-told g c =
    subst (λ (s : Stage). IfOk c.find.result (λ out. (judged : JudgedPages)
    → MayBe (g.P.Pages.seen c.find.new.pages) judged
    → Gives (viewing.external (told s (g.P.Pages.seen c.args.pages.now) judged)
    c.args.caller.now c.args.target.now c.args.function.now c.args.count
    c.args.depth)
    out (view_in c.find.new.self (g.P.Pages.seen c.find.new.pages) judged)))
    c.self.view_is c.find.ensures.serves.told

pub returns-clause-fetched : goal.returns-clause-fetched
returns-clause-fetched g c =
    subst (λ (s : Stage). IsErrOf c.find.result Store → (judged : JudgedPages)
    → MayBe (g.P.Pages.seen c.find.new.pages) judged
    → Fetches (fetched_in (told s (g.P.Pages.seen c.args.pages.now) judged))
    (g.P.Pages.seen c.find.new.pages).fetches
    (fetched_in (viewing.external (told s (g.P.Pages.seen c.args.pages.now) judged)
    c.args.caller.now c.args.target.now c.args.function.now c.args.count
    c.args.depth).1))
    c.self.view_is c.find.ensures.serves.fetched
