use Rattle.std.proofs.Common.{◌∙◌, ap, sym, refl, Ok}
use Rattle.wap_execution.specs.declared.library.HostOut.{HostOut}
use Rattle.wap_execution.specs.declared.library.HostOut.TheVariants as out
use Rattle.wap_value.specs.declared.value.Value.TheVariants.{Invalid}
use Rattle.wap_world.specs.Steps.{Step}
use Rattle.wap_world.specs.scripting.Browsing.{gives}
use Rattle.wap_world.specs.scripting.Loading.{loaded}
use Rattle.wap_world.specs.scripting.Hosting.{within, load_call}
use Rattle.wap_world.specs.scripting.UnitSites.{shelf_of}
use Rattle.wap_world.specs.scripting.Views.{fresh}
use Rattle.wap_context.proofs.HostLemmas.Serving.{lacks_serves, serves_as, gave_serves}
use Rattle.wap_context.proofs.HostLemmas.Serving.{nothing_gave}
use Rattle.wap_context.proofs.HostLemmas.Loads.{load_is, after_url}
use Rattle.wap_context.proofs.host.sight.Sight.load.Goals as goal

pub returns-in-Some-clause-serves : goal.returns-in-Some-clause-serves
returns-in-Some-clause-serves g c =
    serves_as (λ view. within (load_call (shelf_of view.pages) c.args.arguments.now (fresh view)))
    (λ view. within (loaded (shelf_of view.pages) c.in-Some.url (fresh view)))
    c.args.self.now c.load_from.new.self (g.P.Pages.seen c.args.pages.now)
    (g.P.Pages.seen c.load_from.new.pages) c.load_from.result
    (λ view. sym (ap (λ (gave : HostOut × Step). within gave)
    (load_is (shelf_of view.pages) (fresh view) c.args.arguments.now c.in_ok-url.field-0
    c.in_ok-url.ensures
    ∙ ap (after_url (shelf_of view.pages) (fresh view)) c.in-Some.is)))
    c.load_from.ensures.serves

pub returns-in-None-clause-serves : goal.returns-in-None-clause-serves
returns-in-None-clause-serves g c =
    serves_as (λ view. within (load_call (shelf_of view.pages) c.args.arguments.now (fresh view)))
    (λ view. within (gives Invalid (fresh view)))
    c.args.self.now c.args.self.now (g.P.Pages.seen c.args.pages.now)
    (g.P.Pages.seen c.args.pages.now) (Ok (out.Value Invalid))
    (λ view. sym (ap (λ (gave : HostOut × Step). within gave)
    (load_is (shelf_of view.pages) (fresh view) c.args.arguments.now c.in_ok-url.field-0
    c.in_ok-url.ensures
    ∙ ap (after_url (shelf_of view.pages) (fresh view)) c.in-None.is)))
    (gave_serves (λ view. within (gives Invalid (fresh view)))
    (λ step. within (gives Invalid step)) c.args.self.now c.args.self.now (out.Value Invalid)
    (nothing_gave c.args.self.now) (λ pages counted. refl) (g.P.Pages.seen c.args.pages.now))

pub returns-in_err-url-clause-serves : goal.returns-in_err-url-clause-serves
returns-in_err-url-clause-serves g c =
    lacks_serves
    (λ view. within (load_call (shelf_of view.pages) c.args.arguments.now (fresh view)))
    c.args.self.now c.args.self.now (g.P.Pages.seen c.args.pages.now) c.from_residual.result
    c.from_residual.ensures.0 c.from_residual.ensures.1
