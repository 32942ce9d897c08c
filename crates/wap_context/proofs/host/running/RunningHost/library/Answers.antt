use Rattle.std.proofs.Common.{subst}
use Rattle.std.specs.Prelude.{IfOk, IsErrOf}
use Rattle.std.specs.Option.{option_copied}
use Rattle.wap_base.specs.declared.fault.RunErr.TheVariants.{Store}
use Rattle.wap_machine.specs.Hosts.{Gives, Fetches}
use Rattle.wap_world.specs.site.Pages.{Pages as JudgedPages}
use Rattle.wap_world.specs.site.Asking.{MayBe}
use Rattle.wap_world.specs.scripting.Views.{viewing}
use Rattle.wap_context.specs.host.Stages.{Stage, view_in, told, fetched_in}
use Rattle.wap_context.proofs.host.running.RunningHost.library.Goals as goal

pub returns-clause-fetches : goal.returns-clause-fetches
returns-clause-fetches g c = c.call.ensures.serves.stays.fetches

pub returns-clause-told : goal.returns-clause-told
returns-clause-told g c =
    subst (λ (s : Stage). IfOk c.call.result (λ out. (judged : JudgedPages)
    → MayBe (g.P.Pages.seen c.call.new.pages) judged
    → Gives (viewing.library (told s (g.P.Pages.seen c.args.pages.now) judged)
    c.args.base.now (option_copied c.args.referer) c.args.library c.args.function
    c.args.arguments.items)
    out (view_in c.call.new.self (g.P.Pages.seen c.call.new.pages) judged)))
    c.self.view_is c.call.ensures.serves.told

pub returns-clause-fetched : goal.returns-clause-fetched
returns-clause-fetched g c =
    subst (λ (s : Stage). IsErrOf c.call.result Store → (judged : JudgedPages)
    → MayBe (g.P.Pages.seen c.call.new.pages) judged
    → Fetches (fetched_in (told s (g.P.Pages.seen c.args.pages.now) judged))
    (g.P.Pages.seen c.call.new.pages).fetches
    (fetched_in (viewing.library (told s (g.P.Pages.seen c.args.pages.now) judged)
    c.args.base.now (option_copied c.args.referer) c.args.library c.args.function
    c.args.arguments.items).1))
    c.self.view_is c.call.ensures.serves.fetched
