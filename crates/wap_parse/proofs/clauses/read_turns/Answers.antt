use Rattle.wap_grammar.specs.reading.Expressions.{expression_at}
use Rattle.wap_parse.specs.inside.Headers.{limits_at, turns_at}
use Rattle.wap_parse.proofs.clauses.read_turns.Goals as goal

pub returns : goal.returns
unfolding turns_at
returns c =
    rw c.in_ok-first.ensures
    (rw (← c.in_ok-first-2.ensures) (c.join.ensures (limits_at c.args.src.now
    (expression_at c.args.src.now c.args.levels) c.in_ok-first.rest.now) c.read_limits.ensures))
