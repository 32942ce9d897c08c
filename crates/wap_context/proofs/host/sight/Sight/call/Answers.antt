use Rattle.std.proofs.Common.{◌∙◌, ℕ, List, ap, sym, arith}
use Rattle.std.proofs.lemmas.Grind.{common_steps}
use Rattle.std.specs.Option.{option_copied}
use Rattle.wap_value.specs.declared.value.Value.{Value}
use Rattle.wap_world.specs.scripting.Browsing.{dialogs, wml_browser}
use Rattle.wap_world.specs.scripting.Hosting.{library_call, url_call, pure_call, within}
use Rattle.wap_world.specs.scripting.UnitSites.{shelf_of}
use Rattle.wap_world.specs.scripting.Views.{fresh, place_with}
use Rattle.wap_context.specs.host.Serving.{begun}
use Rattle.wap_context.proofs.HostLemmas.Calls.{other_call}
use Rattle.wap_context.proofs.HostLemmas.Serving.{gave_serves, lacks_serves, serves_as}
use Rattle.wap_context.proofs.host.sight.Sight.call.Goals as goal

pub returns-in_ok-dialogs-in-5-clause-serves : goal.returns-in_ok-dialogs-in-5-clause-serves
returns-in_ok-dialogs-in-5-clause-serves g c =
    gave_serves (λ view. library_call (shelf_of view.pages) (place_with view.deck) (fresh view)
    c.args.base.now (option_copied c.args.referer) c.args.library c.args.function
    c.args.arguments.items)
    (dialogs c.args.function c.as_slice.result.now)
    c.args.self.now c.dialogs.new.self c.in_ok-dialogs-in-5.field-0 c.in_ok-dialogs-in-5.ensures
    (λ pages counted. ap (λ (n : ℕ). library_call (shelf_of pages)
    (place_with c.args.self.now.deck) (begun c.args.self.now) c.args.base.now
    (option_copied c.args.referer) n c.args.function c.args.arguments.items) c.in-5.is
    ∙ ap (λ (a : List Value). dialogs c.args.function a (begun c.args.self.now))
    (sym c.as_slice.ensures.value))
    (g.P.Pages.seen c.args.pages.now)

pub returns-in_ok-browser-in-4-clause-serves : goal.returns-in_ok-browser-in-4-clause-serves
returns-in_ok-browser-in-4-clause-serves g c =
    gave_serves (λ view. library_call (shelf_of view.pages) (place_with view.deck) (fresh view)
    c.args.base.now (option_copied c.args.referer) c.args.library c.args.function
    c.args.arguments.items)
    (λ step. within (wml_browser (place_with c.args.self.now.deck) c.args.base.now
    c.args.function c.as_slice-in-4.result.now step))
    c.args.self.now c.browser.new.self c.in_ok-browser-in-4.field-0 c.in_ok-browser-in-4.ensures
    (λ pages counted. ap (λ (n : ℕ). library_call (shelf_of pages)
    (place_with c.args.self.now.deck) (begun c.args.self.now) c.args.base.now
    (option_copied c.args.referer) n c.args.function c.args.arguments.items) c.in-4.is
    ∙ ap (λ (a : List Value). within (wml_browser (place_with c.args.self.now.deck)
    c.args.base.now c.args.function a (begun c.args.self.now)))
    (sym c.as_slice-in-4.ensures.value))
    (g.P.Pages.seen c.args.pages.now)

pub returns-in_err-dialogs-in-5-clause-serves : goal.returns-in_err-dialogs-in-5-clause-serves
returns-in_err-dialogs-in-5-clause-serves g c =
    lacks_serves (λ view. library_call (shelf_of view.pages) (place_with view.deck) (fresh view)
    c.args.base.now (option_copied c.args.referer) c.args.library c.args.function
    c.args.arguments.items)
    c.args.self.now c.dialogs.new.self (g.P.Pages.seen c.args.pages.now) c.from_residual.result
    c.from_residual.ensures.0 c.from_residual.ensures.1

pub returns-in_err-browser-in-4-clause-serves : goal.returns-in_err-browser-in-4-clause-serves
returns-in_err-browser-in-4-clause-serves g c =
    lacks_serves (λ view. library_call (shelf_of view.pages) (place_with view.deck) (fresh view)
    c.args.base.now (option_copied c.args.referer) c.args.library c.args.function
    c.args.arguments.items)
    c.args.self.now c.browser.new.self (g.P.Pages.seen c.args.pages.now)
    c.from_residual-in_err-browser-in-4.result
    c.from_residual-in_err-browser-in-4.ensures.0 c.from_residual-in_err-browser-in-4.ensures.1

pub returns-in_err-pure-in_default-clause-serves : goal.returns-in_err-pure-in_default-clause-serves
returns-in_err-pure-in_default-clause-serves g c =
    lacks_serves (λ view. library_call (shelf_of view.pages) (place_with view.deck) (fresh view)
    c.args.base.now (option_copied c.args.referer) c.args.library c.args.function
    c.args.arguments.items)
    c.args.self.now c.pure.new.self (g.P.Pages.seen c.args.pages.now)
    c.from_residual-in_err-pure-in_default.result
    c.from_residual-in_err-pure-in_default.ensures.0
    c.from_residual-in_err-pure-in_default.ensures.1

pub returns-in-3-clause-serves : goal.returns-in-3-clause-serves
returns-in-3-clause-serves g c =
    serves_as (λ view. library_call (shelf_of view.pages) (place_with view.deck) (fresh view)
    c.args.base.now (option_copied c.args.referer) c.args.library c.args.function
    c.args.arguments.items)
    (λ view. within (url_call (shelf_of view.pages) c.args.base.now (option_copied c.args.referer)
    c.args.function c.args.arguments.items (fresh view)))
    c.args.self.now c.url.new.self (g.P.Pages.seen c.args.pages.now)
    (g.P.Pages.seen c.url.new.pages) c.url.result
    (λ view. ap (λ (n : ℕ). library_call (shelf_of view.pages) (place_with view.deck) (fresh view)
    c.args.base.now (option_copied c.args.referer) n c.args.function c.args.arguments.items)
    (sym c.in-3.is))
    c.url.ensures.serves

pub returns-in_ok-pure-in_default-clause-serves : goal.returns-in_ok-pure-in_default-clause-serves
returns-in_ok-pure-in_default-clause-serves g c =
    let others = c.in_default in
    gave_serves (λ view. library_call (shelf_of view.pages) (place_with view.deck) (fresh view)
    c.args.base.now (option_copied c.args.referer) c.args.library c.args.function
    c.args.arguments.items)
    (pure_call c.args.library c.args.function c.args.arguments.items)
    c.args.self.now c.pure.new.self c.in_ok-pure-in_default.field-0 c.in_ok-pure-in_default.ensures
    (λ pages counted. other_call (shelf_of pages) (place_with c.args.self.now.deck)
    (begun c.args.self.now) c.args.base.now (option_copied c.args.referer) c.args.library
    c.args.function c.args.arguments.items
    (λ is. grind (arith, common_steps, others, is)) (λ is. grind (arith, common_steps, others, is))
    (λ is. grind (arith, common_steps, others, is)))
    (g.P.Pages.seen c.args.pages.now)
