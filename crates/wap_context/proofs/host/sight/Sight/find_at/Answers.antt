use Rattle.std.proofs.Common.{◌∙◌, ap, Ok}
use Rattle.wap_world.specs.scripting.Hosting.{found_at}
use Rattle.wap_world.specs.scripting.UnitSites.{shelf_of, externals_of, unit_under}
use Rattle.wap_world.specs.scripting.Views.{fresh}
use Rattle.wap_context.specs.host.Stages.{Sight}
use Rattle.wap_context.specs.host.Finding.{found_on}
use Rattle.wap_context.proofs.HostLemmas.Serving.{asked_serves}
use Rattle.wap_context.proofs.HostLemmas.Comings.{found_comes}
use Rattle.wap_context.proofs.host.sight.Sight.find_at.Goals as goal

pub returns-clause-serves : goal.returns-clause-serves
returns-clause-serves g c =
    asked_serves c.args.url
    (λ view. found_at (shelf_of view.pages) (externals_of view.pages) (unit_under view.pages)
    c.args.caller.now c.args.function.now c.args.count c.args.working (fresh view)
    (Ok c.args.url))
    (λ page. found_on c.args.caller.now c.args.url page c.args.function.now c.args.count
    c.args.self.now.world.limits.depth c.args.working)
    c.args.self.now
    (λ judged counted are. found_comes judged c.args.caller.now c.args.url c.args.function.now
    c.args.count c.args.working c.args.self.now.world are)
    c.ask_for.new.self (g.P.Pages.seen c.args.pages.now) (g.P.Pages.seen c.ask_for.new.pages)
    c.in_ok-page.page c.in_ok-found.field-0 c.in_ok-page.ensures
    (c.in_ok-found.ensures.is
    ∙ ap (λ (s : Sight). found_on c.args.caller.now c.args.url c.in_ok-page.page
    c.args.function.now c.args.count s.world.limits.depth c.args.working)
    c.in_ok-page.ensures.line)
