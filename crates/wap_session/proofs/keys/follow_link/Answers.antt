use Rattle.std.proofs.Common.{sym, ap, ◌∙◌}
use Rattle.wap_base.specs.declared.key.Key.TheVariants as key
use Rattle.wap_world.proofs.SiteLemmas.Asking.{Stays-same}
use Rattle.wap_world.specs.Keys.{ignored, act_or, apply}
use Rattle.wap_cardrules.specs.Fields.{link_task}
use Rattle.wap_context.specs.Browsers.{place_held}
use Rattle.wap_context.specs.Sites.{site_of}
use Rattle.wap_session.proofs.Rules.{Acts-same, Acts-wants}
use Rattle.wap_session.proofs.Typing.{tasked_by}
use Rattle.wap_session.proofs.keys.follow_link.Goals as goal

pub returns : goal.returns
returns g c =
    let old = c.args.context.now in
    let place = place_held old in
    Acts-same
    (λ pages keys world. act_or (ignored world) (site_of pages) keys world c.in_ok-task.task)
    (λ pages keys world. apply (site_of pages) place keys world (key.Pick c.args.number))
    (g.P.Pages.seen c.args.pages.now) (g.P.Pages.seen c.act_or_ignore.new.pages) old
    c.act_or_ignore.new.context
    (λ pages is keys. tasked_by (site_of pages) keys old.world
    (λ one. link_task old.world.vars one.card c.args.number) place
    ∙ ap (act_or (ignored old.world) (site_of pages) keys old.world) (sym c.in_ok-task.ensures))
    c.act_or_ignore.result c.act_or_ignore.ensures

pub returns-in_err-task : goal.returns-in_err-task
returns-in_err-task g c =
    Acts-wants _ (g.P.Pages.seen c.args.pages.now) (g.P.Pages.seen c.args.pages.now)
    c.args.context.now c.args.context.now c.from_residual.result
    (Stays-same (g.P.Pages.seen c.args.pages.now)) c.from_residual.ensures.1
