use Rattle.std.proofs.Common.{sym, ◌∙◌}
use Rattle.wap_base.specs.declared.key.Key.TheVariants as key
use Rattle.wap_world.proofs.SiteLemmas.Asking.{Stays-same}
use Rattle.wap_world.specs.Keys.{ignored, act_or, apply}
use Rattle.wap_cardrules.specs.Dos.{do_task}
use Rattle.wap_context.specs.Browsers.{place_held}
use Rattle.wap_context.specs.Sites.{site_of}
use Rattle.wap_session.proofs.Rules.{Acts-ignored, Acts-wants}
use Rattle.wap_session.proofs.Typing.{card_none}
use Rattle.wap_session.proofs.keys.run_do.Goals as goal

pub returns : goal.returns
returns g c =
    let old = c.args.context.now in
    let place = place_held old in
    Acts-ignored (λ pages keys world.
    apply (site_of pages) place keys world (key.Do c.args.name.now))
    (g.P.Pages.seen c.args.pages.now) old c.in_ok-ignore.field-0 c.in_ok-ignore.ensures
    (λ pages is keys. card_none (site_of pages) keys old.world
    (λ one. act_or (ignored old.world) (site_of pages) keys old.world
    (do_task old.world.vars one.deck one.card c.args.name.now)) place
    (sym c.has_card.ensures.is ∙ c.if-has_card.false))

pub returns-in_err-ignore : goal.returns-in_err-ignore
returns-in_err-ignore g c =
    Acts-wants _ (g.P.Pages.seen c.args.pages.now) (g.P.Pages.seen c.args.pages.now)
    c.args.context.now c.args.context.now c.from_residual.result
    (Stays-same (g.P.Pages.seen c.args.pages.now)) c.from_residual.ensures.1
