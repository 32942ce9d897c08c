use Rattle.std.proofs.Common.{length, Err, ap, ◌∙◌, arith}
use Rattle.std.proofs.lemmas.Result.{err_from_is_err_and}
use Rattle.wap_grammar.specs.reading.TokenReading.{items_at}
use Rattle.wap_grammar.specs.reading.Statements.{next_statement, arm_at, statement_at}
use Rattle.wap_parse.proofs.ExpressionsLemmas.Loops.{begins, another, no_other, at_fault, at_exit}
use Rattle.wap_parse.proofs.Nexts.{statement_found, statement_fault, no_statement}
use Rattle.wap_parse.proofs.Levels.{deeper_statement}
use Rattle.wap_parse.proofs.statements.+statements.Goals as goal

pub read_statement-returns : goal.read_statement-returns
read_statement-returns t c =
    rw (deeper_statement c.args.src.now c.args.levels c.args.lexemes.now (omega arith))
    c.read_parts.ensures

-- ---- conditions

pub read_arm-returns : goal.read_arm-returns
unfolding arm_at
read_arm-returns t c =
    rw c.in_ok-condition.ensures
    (c.join.ensures (statement_at c.args.src.now c.args.levels c.in_ok-condition.rest.now)
    c.read_statement.ensures)

-- ---- statements

pub read_statements-loop-init : goal.read_statements-loop-init
read_statements-loop-init t c =
    begins (next_statement (statement_at c.args.src.now c.args.levels))
    c.new-statements.result c.args.lexemes.now c.new-statements.ensures

pub read_statements-loop-preserved : goal.read_statements-loop-preserved
read_statements-loop-preserved t c =
    let statement = statement_at c.args.src.now c.args.levels in
    let next = next_statement statement in
    let first = statement_found statement c.loop.rest.now c.is_sign.result c.is_sign.ensures
    c.in_ok-statement.statement c.in_ok-statement.behind.now c.if-is_sign.false
    c.in_ok-statement.ensures in
    rw c.in_ok-add.ensures.ok
    (another next (length c.args.lexemes.now) c.loop.counter c.loop.statements
    c.loop.rest.now (items_at next c.args.lexemes.now) c.in_ok-statement.statement
    c.in_ok-statement.behind.now c.loop-test.true first c.loop.invariant)

pub read_statements-returns-then-is_sign : goal.read_statements-returns-then-is_sign
read_statements-returns-then-is_sign t c =
    let statement = statement_at c.args.src.now c.args.levels in
    let next = next_statement statement in
    let none = no_statement statement c.loop.rest.now c.is_sign.result c.is_sign.ensures
    c.if-is_sign.true in
    no_other next (length c.args.lexemes.now) c.loop.counter c.loop.statements
    c.loop.rest.now (items_at next c.args.lexemes.now) c.loop.rest.now c.loop-test.true none
    c.loop.invariant

pub read_statements-returns-in_err-statement : goal.read_statements-returns-in_err-statement
read_statements-returns-in_err-statement t c =
    let statement = statement_at c.args.src.now c.args.levels in
    let next = next_statement statement in
    let whole = items_at next c.args.lexemes.now in
    let fault = c.in_err-statement.field-0.0 in
    let left = err_from_is_err_and c.from_residual.result c.from_residual.ensures.1 in
    at_exit (λ read. (read.0, read.1.now)) c.from_residual.result fault whole
    (left.1 ∙ ap Err left.2)
    (λ other. at_fault next (length c.args.lexemes.now) c.loop.counter c.loop.statements
    c.loop.rest.now whole fault c.loop-test.true
    (statement_fault statement c.loop.rest.now c.is_sign.result c.is_sign.ensures fault
    c.if-is_sign.false (c.in_err-statement.ensures other)) c.loop.invariant)
