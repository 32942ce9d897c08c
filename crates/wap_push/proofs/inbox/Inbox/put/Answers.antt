use Rattle.std.proofs.Common.{◌∙◌, sym}
use Rattle.wap_push.proofs.NextWinners.{late_push, not_alert, keyed_after, winners_after}
use Rattle.wap_push.proofs.NextWinners.{alert_where}
use Rattle.wap_push.proofs.inbox.Inbox.put.Goals as goal

-- ---- a push that loses

pub returns-then-is_late-clause-taken : goal.returns-then-is_late-clause-taken
returns-then-is_late-clause-taken c = λ pushes have.
    late_push pushes c.args.self.now c.args.pushed have
    (sym c.is_late.ensures ∙ c.if-is_late.true)

pub returns-then-is_late-clause-alert : goal.returns-then-is_late-clause-alert
returns-then-is_late-clause-alert c = λ pushes have. (
  λ so. absurd (cc so),
  λ alert. absurd (not_alert pushes c.args.self.now c.args.pushed have
      (sym c.is_late.ensures ∙ c.if-is_late.true) alert),
)

-- ---- a push that wins

pub invariant_of-self : goal.invariant_of-self
invariant_of-self c =
    keyed_after c.self.inside.winners.entries c.insert.new.self.entries c.args.pushed c.in-Ok.id
    c.self.invariant c.in-Ok.ensures c.in-Ok-insert.ensures.entries c.in-Ok-insert.ensures.ordered

pub returns-in-Ok-insert-clause-taken : goal.returns-in-Ok-insert-clause-taken
returns-in-Ok-insert-clause-taken c = λ pushes have.
    winners_after pushes c.args.self.now c.self.inside.winners.entries c.insert.new.self.entries
    c.args.pushed c.in-Ok.id c.self.view_is c.self.invariant c.in-Ok.ensures
    c.in-Ok-insert.ensures.entries c.in-Ok-insert.ensures.ordered
    c.in-Ok-insert.ensures.updates.0 (sym c.is_late.ensures ∙ c.if-is_late.false) have

pub returns-in-Ok-insert-clause-alert : goal.returns-in-Ok-insert-clause-alert
returns-in-Ok-insert-clause-alert c = λ pushes have.
    alert_where pushes c.args.self.now c.args.pushed c.alerts-alert.result have
    (sym c.is_late.ensures ∙ c.if-is_late.false) c.alerts-alert.ensures
