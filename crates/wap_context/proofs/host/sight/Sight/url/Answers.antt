use Rattle.std.proofs.Common.{◌∙◌, ℕ, List, ap, sym, refl}
use Rattle.std.specs.Option.{option_copied}
use Rattle.wap_value.specs.declared.value.Value.{Value}
use Rattle.wap_world.specs.scripting.Hosting.{within, load_call, url_call}
use Rattle.wap_world.specs.scripting.UnitSites.{shelf_of}
use Rattle.wap_world.specs.scripting.Views.{fresh}
use Rattle.wap_context.proofs.HostLemmas.Calls.{within_gave}
use Rattle.wap_context.proofs.HostLemmas.Serving.{each_serves, lacks_serves, serves_as}
use Rattle.wap_context.proofs.host.sight.Sight.url.Goals as goal

pub returns-then-function-eq13-clause-serves : goal.returns-then-function-eq13-clause-serves
returns-then-function-eq13-clause-serves g c =
    serves_as
    (λ view. within (url_call (shelf_of view.pages) c.args.base.now
    (option_copied c.args.referer) c.args.function c.args.arguments.items (fresh view)))
    (λ view. within (load_call (shelf_of view.pages) c.as_slice.result.now (fresh view)))
    c.args.self.now c.load.new.self (g.P.Pages.seen c.args.pages.now)
    (g.P.Pages.seen c.load.new.pages) c.load.result
    (λ view.
    ap (λ (a : List Value). within (load_call (shelf_of view.pages) a (fresh view)))
    c.as_slice.ensures.value
    ∙ ap (λ (n : ℕ). within (url_call (shelf_of view.pages) c.args.base.now
    (option_copied c.args.referer) n c.args.arguments.items (fresh view)))
    (sym c.if-function-eq13.true))
    c.load.ensures.serves

pub returns-in_err-out-clause-serves : goal.returns-in_err-out-clause-serves
returns-in_err-out-clause-serves g c =
    lacks_serves
    (λ view. within (url_call (shelf_of view.pages) c.args.base.now
    (option_copied c.args.referer) c.args.function c.args.arguments.items (fresh view)))
    c.args.self.now c.call_url.new.self (g.P.Pages.seen c.args.pages.now) c.from_residual.result
    c.from_residual.ensures.0 c.from_residual.ensures.1

pub returns-clause-serves : goal.returns-clause-serves
returns-clause-serves g c =
    each_serves
    (λ view. within (url_call (shelf_of view.pages) c.args.base.now
    (option_copied c.args.referer) c.args.function c.args.arguments.items (fresh view)))
    (λ shelf step. within (url_call shelf c.args.base.now (option_copied c.args.referer)
    c.args.function c.args.arguments.items step))
    c.args.self.now c.call_url.new.self c.within_limit.result
    (λ shelf. within_gave (url_call shelf c.args.base.now (option_copied c.args.referer)
    c.args.function c.args.arguments.items) c.args.self.now c.call_url.new.self c.in_ok-out.out
    c.within_limit.result (c.in_ok-out.ensures.gave shelf) c.within_limit.ensures.is)
    (λ pages counted. refl) (g.P.Pages.seen c.args.pages.now)
