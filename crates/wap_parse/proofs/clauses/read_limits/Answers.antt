use Rattle.wap_grammar.specs.declared.word.Sign.TheVariants as sign
use Rattle.wap_grammar.specs.reading.Expressions.{expression_at}
use Rattle.wap_grammar.specs.reading.Statements.{optional_at}
use Rattle.wap_parse.specs.inside.Headers.{limits_at}
use Rattle.wap_parse.proofs.clauses.read_limits.Goals as goal

pub returns : goal.returns
unfolding limits_at
returns c =
    rw c.in_ok-condition.ensures
    (c.join.ensures (optional_at c.args.src.now (expression_at c.args.src.now c.args.levels)
    sign.Close c.in_ok-condition.rest.now) c.read_optional-2.ensures)
