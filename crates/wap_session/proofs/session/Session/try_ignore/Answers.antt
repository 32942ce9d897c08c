use Rattle.std.proofs.Common.{rules}
use Rattle.wap_session.proofs.Ignoring.{ignored_plays, ignored_turns}
use Rattle.wap_session.proofs.session.Session.try_ignore.Goals as goal

pub returns-clause-plays : goal.returns-clause-plays
returns-clause-plays c is seen =
    ignored_plays c.args.key.now c.self.inside.context c.begin_key.new.self
    c.self.inside.standing c.self.inside.inbox c.args.self.now c.self.view_is c.self.invariant
    (search rules) (search rules) c.budget-budget.result c.budget-budget.ensures
    c.begin_key.ensures seen

pub returns-clause-turns : goal.returns-clause-turns
returns-clause-turns c is seen =
    ignored_turns c.args.key.now c.self.inside.context c.begin_key.new.self
    c.self.inside.standing c.self.inside.inbox c.args.self.now c.self.view_is c.self.invariant
    (search rules) (search rules) c.budget-budget.result c.budget-budget.ensures
    c.begin_key.ensures seen
