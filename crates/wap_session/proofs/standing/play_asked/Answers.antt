use Rattle.std.proofs.Common.{subst}
use Rattle.wap_context.specs.Acting.{Acts}
use Rattle.wap_context.specs.Pausing.{waits_of}
use Rattle.wap_session.specs.declared.standing.Asked.{Asked}
use Rattle.wap_session.specs.inside.Turns.{resumed_rule}
use Rattle.wap_session.proofs.standing.play_asked.Goals as goal

pub returns : goal.returns
returns g c =
    subst (λ (asked : Asked).
    Acts (resumed_rule (waits_of asked.dialog asked.waiting) c.args.key.now)
    (g.P.Pages.seen c.args.pages.now) (g.P.Pages.seen c.play_in_dialog.new.pages)
    c.args.context.now c.play_in_dialog.new.context c.play_in_dialog.result)
    c.into_inner-dialog.ensures c.play_in_dialog.ensures
