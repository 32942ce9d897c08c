use Rattle.std.proofs.Common.{◌≡◌, true, false, List, length, ◌∷◌, Err, sym, ap, ◌∙◌, arith}
use Rattle.std.proofs.lemmas.Result.{err_from_is_err_and}
use Rattle.wap_grammar.specs.declared.program.expression.Expr.{Expr}
use Rattle.wap_grammar.specs.declared.precedence.TheConstants.{ASSIGNMENT, COMMA}
use Rattle.wap_grammar.specs.Lexemes.{word_of, operator_of, is_comma}
use Rattle.wap_grammar.specs.reading.TokenReading.{Reading, after, told, items_at}
use Rattle.wap_grammar.specs.reading.Expressions.{next_argument, next_operand}
use Rattle.wap_grammar.specs.reading.Expressions.{part_at, expression_at}
use Rattle.wap_parse.proofs.ExpressionsLemmas.Loops.{begins, begins_with, another, no_other}
use Rattle.wap_parse.proofs.ExpressionsLemmas.Loops.{at_fault, at_exit}
use Rattle.wap_parse.proofs.ExpressionsLemmas.Nexts.{argument_if, found, failed, missing}
use Rattle.wap_parse.proofs.ExpressionsLemmas.Nexts.{operand_found, operand_fault, no_operand}
use Rattle.wap_parse.specs.expressions.inside.Climbing.{looser_of}
use Rattle.wap_parse.proofs.ExpressionsLemmas.Levels.{deeper}
use Rattle.wap_parse.proofs.ExpressionsLemmas.Climbing.{at_loosest, no_looser, next_looser}
use Rattle.wap_parse.proofs.expressions.expressions.+expressions.Goals as goal

pub read_expression-returns : goal.read_expression-returns
read_expression-returns t c =
    rw (deeper c.args.src.now c.args.levels c.args.level c.args.lexemes.now (omega arith))
    c.read_part.ensures

pub read_part-returns-then-level-eq-CONDITIONAL : goal.read_part-returns-then-level-eq-CONDITIONAL
read_part-returns-then-level-eq-CONDITIONAL t c =
    rw c.if-level-eq-CONDITIONAL.true c.read_choice.ensures

pub read_part-returns-then-level-eq-ASSIGNMENT : goal.read_part-returns-then-level-eq-ASSIGNMENT
read_part-returns-then-level-eq-ASSIGNMENT t c =
    rw c.if-level-eq-ASSIGNMENT.true c.read_value.ensures

pub read_part-returns-then-level-eq-COMMA : goal.read_part-returns-then-level-eq-COMMA
read_part-returns-then-level-eq-COMMA t c =
    rw c.if-level-eq-COMMA.true
    (rw (at_loosest c.args.src.now (expression_at c.args.src.now c.args.levels)
    c.args.lexemes.now COMMA (omega arith) (λ e. absurd (omega (arith, e)))
    (λ e. absurd (omega (arith, e)))) c.read_sequence.ensures)

pub read_part-returns : goal.read_part-returns
read_part-returns t c =
    rw (at_loosest c.args.src.now (expression_at c.args.src.now c.args.levels)
    c.args.lexemes.now c.args.level (omega (arith, c.if-level-lt-CONDITIONAL.false))
    c.if-level-eq-CONDITIONAL.false c.if-level-eq-ASSIGNMENT.false) c.read_loosest.ensures

pub read_looser-returns-in-None : goal.read_looser-returns-in-None
read_looser-returns-in-None t c =
    let none = ap (looser_of c.args.from c.args.level) (sym c.word_of.ensures)
    ∙ sym c.looser_of.ensures.value ∙ c.in-None.is in
    no_looser (part_at c.args.src.now (expression_at c.args.src.now c.args.levels)) c.args.from
    c.args.level (c.args.first, c.args.lexemes.now) none

pub read_looser-returns-in-Some : goal.read_looser-returns-in-Some
read_looser-returns-in-Some t c =
    let some = ap (looser_of c.args.from c.args.level) (sym c.word_of.ensures)
    ∙ sym c.looser_of.ensures.value ∙ c.in-Some.is in
    rw (next_looser (part_at c.args.src.now (expression_at c.args.src.now c.args.levels))
    c.args.from c.args.level c.in-Some.found (c.args.first, c.args.lexemes.now) some)
    c.read_chain.ensures

pub read_operands-loop-init : goal.read_operands-loop-init
read_operands-loop-init t c =
    begins (next_operand c.args.level
    (part_at c.args.src.now (expression_at c.args.src.now c.args.levels) c.args.tighter))
    c.new-operands.result c.args.lexemes.now c.new-operands.ensures

pub read_operands-loop-preserved : goal.read_operands-loop-preserved
read_operands-loop-preserved t c =
    let tighter = part_at c.args.src.now (expression_at c.args.src.now c.args.levels)
    c.args.tighter in
    let next = next_operand c.args.level tighter in
    let is : c.operator_of.result ≡ operator_of c.args.level (word_of c.loop.rest.now) = cc in
    let there : c.after.result.now ≡ after c.loop.rest.now = cc in
    let first = operand_found c.args.level tighter c.loop.rest.now c.operator_of.result is
    c.after.result.now c.in-Some.op c.in_ok-operand.operand c.in_ok-operand.behind.now
    c.in-Some.is there c.in_ok-operand.ensures in
    rw c.in_ok-add.ensures.ok
    (another next (length c.args.lexemes.now) c.loop.counter c.loop.operands c.loop.rest.now
    (items_at next c.args.lexemes.now) (c.in-Some.op, c.in_ok-operand.operand)
    c.in_ok-operand.behind.now c.loop-test.true first c.loop.invariant)

pub read_operands-returns-in_default : goal.read_operands-returns-in_default
read_operands-returns-in_default t c =
    let tighter = part_at c.args.src.now (expression_at c.args.src.now c.args.levels)
    c.args.tighter in
    let next = next_operand c.args.level tighter in
    let is : c.operator_of.result ≡ operator_of c.args.level (word_of c.loop.rest.now) = cc in
    let none = no_operand c.args.level tighter c.loop.rest.now c.operator_of.result is
    c.in_default.is in
    no_other next (length c.args.lexemes.now) c.loop.counter c.loop.operands c.loop.rest.now
    (items_at next c.args.lexemes.now) c.loop.rest.now c.loop-test.true none c.loop.invariant

pub read_operands-returns-in_err-operand : goal.read_operands-returns-in_err-operand
read_operands-returns-in_err-operand t c =
    let tighter = part_at c.args.src.now (expression_at c.args.src.now c.args.levels)
    c.args.tighter in
    let next = next_operand c.args.level tighter in
    let whole = items_at next c.args.lexemes.now in
    let is : c.operator_of.result ≡ operator_of c.args.level (word_of c.loop.rest.now) = cc in
    let there : c.after.result.now ≡ after c.loop.rest.now = cc in
    let fault = c.in_err-operand.field-0.0 in
    let left = err_from_is_err_and c.from_residual.result c.from_residual.ensures.1 in
    at_exit (λ read. (read.0, read.1.now)) c.from_residual.result fault whole
    (left.1 ∙ ap Err left.2)
    (λ other. at_fault next (length c.args.lexemes.now) c.loop.counter c.loop.operands
    c.loop.rest.now whole fault c.loop-test.true
    (operand_fault c.args.level tighter c.loop.rest.now c.operator_of.result is
    c.after.result.now c.in-Some.op fault c.in-Some.is there (c.in_err-operand.ensures other))
    c.loop.invariant)

pub read_other_arguments-loop-init : goal.read_other_arguments-loop-init
read_other_arguments-loop-init t c =
    begins_with (next_argument (expression_at c.args.src.now c.args.levels)) c.args.first
    c.in_ok-arguments.arguments c.args.lexemes.now c.in_ok-arguments.ensures

pub read_other_arguments-loop-preserved : goal.read_other_arguments-loop-preserved
read_other_arguments-loop-preserved t c =
    let inner = expression_at c.args.src.now c.args.levels in
    let next = next_argument inner in
    let whole : Reading (List Expr) = told (λ others. c.args.first ∷ others)
    (items_at next c.args.lexemes.now) in
    let held : c.is_comma.result ≡ true = cc in
    let there : c.after.result.now ≡ after c.loop.rest.now = cc in
    let first = argument_if inner c.loop.rest.now ∙ found (inner ASSIGNMENT) c.loop.rest.now
    (is_comma (word_of c.loop.rest.now)) c.is_comma.result c.is_comma.ensures c.after.result.now
    c.in_ok-argument.argument c.in_ok-argument.behind.now held there c.in_ok-argument.ensures in
    rw c.in_ok-add.ensures.ok
    (another next (length c.args.lexemes.now) c.loop.counter c.loop.arguments c.loop.rest.now
    whole c.in_ok-argument.argument c.in_ok-argument.behind.now c.loop-test.true first
    c.loop.invariant)

pub read_other_arguments-returns-then-not-is_comma :
    goal.read_other_arguments-returns-then-not-is_comma
read_other_arguments-returns-then-not-is_comma t c =
    let inner = expression_at c.args.src.now c.args.levels in
    let next = next_argument inner in
    let whole : Reading (List Expr) = told (λ others. c.args.first ∷ others)
    (items_at next c.args.lexemes.now) in
    let held : c.is_comma.result ≡ false = cc in
    let none = argument_if inner c.loop.rest.now ∙ missing (inner ASSIGNMENT) c.loop.rest.now
    (is_comma (word_of c.loop.rest.now)) c.is_comma.result c.is_comma.ensures held in
    no_other next (length c.args.lexemes.now) c.loop.counter c.loop.arguments c.loop.rest.now
    whole c.loop.rest.now c.loop-test.true none c.loop.invariant

pub read_other_arguments-returns-in_err-argument : goal.read_other_arguments-returns-in_err-argument
read_other_arguments-returns-in_err-argument t c =
    let inner = expression_at c.args.src.now c.args.levels in
    let next = next_argument inner in
    let whole : Reading (List Expr) = told (λ others. c.args.first ∷ others)
    (items_at next c.args.lexemes.now) in
    let held : c.is_comma.result ≡ true = cc in
    let there : c.after.result.now ≡ after c.loop.rest.now = cc in
    let fault = c.in_err-argument.field-0.0 in
    let left = err_from_is_err_and c.from_residual-in_err-argument.result
    c.from_residual-in_err-argument.ensures.1 in
    at_exit (λ read. (read.0, read.1.now)) c.from_residual-in_err-argument.result fault whole
    (left.1 ∙ ap Err left.2)
    (λ other. at_fault next (length c.args.lexemes.now) c.loop.counter c.loop.arguments
    c.loop.rest.now whole fault c.loop-test.true
    (argument_if inner c.loop.rest.now ∙ failed (inner ASSIGNMENT) c.loop.rest.now
    (is_comma (word_of c.loop.rest.now)) c.is_comma.result c.is_comma.ensures c.after.result.now
    fault
    held there (c.in_err-argument.ensures other)) c.loop.invariant)
