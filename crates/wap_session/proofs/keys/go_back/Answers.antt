use Rattle.std.proofs.Common.{[], sym, ap, ◌∙◌}
use Rattle.wap_cardrules.specs.Values.{Pairs}
use Rattle.wap_cardrules.specs.declared.task.Task.TheVariants.{Prev}
use Rattle.wap_base.specs.declared.key.Key.TheVariants as key
use Rattle.wap_world.proofs.SiteLemmas.Asking.{Stays-same}
use Rattle.wap_world.specs.Steps.{then_task}
use Rattle.wap_world.specs.Tasks.{act}
use Rattle.wap_world.specs.Keys.{apply}
use Rattle.wap_context.specs.Browsers.{place_held}
use Rattle.wap_context.specs.Sites.{site_of}
use Rattle.wap_session.proofs.Rules.{Acts-same, Acts-ignored, Acts-wants}
use Rattle.wap_session.proofs.Typing.{card_some, card_none}
use Rattle.wap_session.proofs.keys.go_back.Goals as goal

pub returns-then-has_card : goal.returns-then-has_card
returns-then-has_card g c =
    let old = c.args.context.now in
    let place = place_held old in
    Acts-same
    (λ pages keys world. act (site_of pages) keys world (then_task (Prev c.new.result)))
    (λ pages keys world. apply (site_of pages) place keys world key.Back)
    (g.P.Pages.seen c.args.pages.now) (g.P.Pages.seen c.act.new.pages) old c.act.new.self
    (λ pages is keys.
    card_some (site_of pages) keys old.world
    (act (site_of pages) keys old.world (then_task (Prev []))) place
    (sym c.has_card.ensures.is ∙ c.if-has_card.true)
    ∙ ap (λ (sets : Pairs). act (site_of pages) keys old.world (then_task (Prev sets)))
    (sym c.new.ensures))
    c.act.result c.act.ensures

pub returns : goal.returns
returns g c =
    let old = c.args.context.now in
    let place = place_held old in
    Acts-ignored (λ pages keys world. apply (site_of pages) place keys world key.Back)
    (g.P.Pages.seen c.args.pages.now) old c.in_ok-ignore.field-0 c.in_ok-ignore.ensures
    (λ pages is keys. card_none (site_of pages) keys old.world
    (λ one. act (site_of pages) keys old.world (then_task (Prev []))) place
    (sym c.has_card.ensures.is ∙ c.if-has_card.false))

pub returns-in_err-ignore : goal.returns-in_err-ignore
returns-in_err-ignore g c =
    Acts-wants _ (g.P.Pages.seen c.args.pages.now) (g.P.Pages.seen c.args.pages.now)
    c.args.context.now c.args.context.now c.from_residual.result
    (Stays-same (g.P.Pages.seen c.args.pages.now)) c.from_residual.ensures.1
