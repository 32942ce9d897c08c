use Rattle.std.proofs.Common.{◌∙◌, ap}
use Rattle.wap_world.specs.scripting.Loading.{loaded}
use Rattle.wap_world.specs.scripting.Hosting.{within}
use Rattle.wap_world.specs.scripting.UnitSites.{shelf_of}
use Rattle.wap_world.specs.scripting.Views.{fresh}
use Rattle.wap_context.specs.host.Stages.{Sight}
use Rattle.wap_context.specs.host.Finding.{loaded_text}
use Rattle.wap_context.proofs.HostLemmas.Serving.{asked_serves}
use Rattle.wap_context.proofs.HostLemmas.Comings.{loaded_comes}
use Rattle.wap_context.proofs.host.sight.Sight.load_from.Goals as goal

pub returns-clause-serves : goal.returns-clause-serves
returns-clause-serves g c =
    asked_serves c.args.url.now
    (λ view. within (loaded (shelf_of view.pages) c.args.url.now (fresh view)))
    (loaded_text c.args.self.now.world.limits.string c.args.url.now) c.args.self.now
    (λ judged counted are. loaded_comes judged c.args.url.now c.args.self.now.world are)
    c.ask_for.new.self (g.P.Pages.seen c.args.pages.now) (g.P.Pages.seen c.ask_for.new.pages)
    c.in_ok-page.page c.in_ok-loaded_text.field-0 c.in_ok-page.ensures
    (c.in_ok-loaded_text.ensures.is
    ∙ ap (λ (s : Sight). loaded_text s.world.limits.string c.args.url.now c.in_ok-page.page)
    c.in_ok-page.ensures.line)
