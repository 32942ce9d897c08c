use Rattle.std.proofs.Common.{None}
use Rattle.wap_context.specs.Browsers.{place_held}
use Rattle.wap_session.specs.inside.Turns.{turn_rule}
use Rattle.wap_session.specs.inside.Pressing.{press_rule}
use Rattle.wap_session.proofs.Rules.{Acts-leads, anyhow}
use Rattle.wap_session.proofs.Turning.{rest_leads}
use Rattle.wap_session.proofs.standing.turn.Goals as goal

pub returns-in-Rest-clause-acts : goal.returns-in-Rest-clause-acts
returns-in-Rest-clause-acts g c =
    let key = c.args.key.now in
    let winners = c.args.inbox.now in
    let old = c.args.context.now in
    let mid = c.begin_key.new.self in
    rw c.in-Rest.is
    (Acts-leads (press_rule (place_held mid) winners key) (turn_rule None winners key)
    (g.P.Pages.seen c.args.pages.now) (g.P.Pages.seen c.press.new.pages) mid old
    c.press.new.context
    (rest_leads key winners old mid c.budget-budget.result c.begin_key.ensures
    c.budget-budget.ensures)
    c.press.result c.press.ensures.acts)

pub returns-in-Rest-clause-taken : goal.returns-in-Rest-clause-taken
returns-in-Rest-clause-taken g c = rw c.in-Rest.is c.press.ensures.taken

pub returns-in-Waits-clause-acts : goal.returns-in-Waits-clause-acts
returns-in-Waits-clause-acts g c = rw c.in-Waits.is c.play_asked.ensures

pub returns-in-Waits-clause-taken : goal.returns-in-Waits-clause-taken
returns-in-Waits-clause-taken g c =
    rw c.in-Waits.is (anyhow c.play_asked.result c.requires.own)
