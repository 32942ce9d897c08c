use Rattle.std.proofs.Common.{rules, Some, None, ap, ◌∙◌}
use Rattle.wap_grammar.specs.declared.program.statement.Stmt.TheVariants as stmt
use Rattle.wap_scope.specs.inside.Globals.{scope_by}
use Rattle.wap_scope.proofs.StatementParts.{empty_parts, value_parts, block_parts, variables_parts}
use Rattle.wap_scope.proofs.StatementParts.{if_parts, while_parts, for_parts, break_parts}
use Rattle.wap_scope.proofs.StatementParts.{continue_parts, return_parts}
use Rattle.wap_scope.proofs.statements.+statements.Goals as goal

pub judge_statement-returns-in-Empty : goal.judge_statement-returns-in-Empty
judge_statement-returns-in-Empty t c =
    rw (empty_parts (scope_by c.args.globals.now) c.args.known.now c.args.statement.now
    c.args.inside c.in-Empty.is) (search rules)

pub judge_statement-returns-in-Expr : goal.judge_statement-returns-in-Expr
judge_statement-returns-in-Expr t c =
    rw (value_parts (scope_by c.args.globals.now) c.args.known.now c.args.statement.now
    c.args.inside c.in-Expr.value c.in-Expr.is) (search rules)

pub judge_statement-returns-in-Block : goal.judge_statement-returns-in-Block
judge_statement-returns-in-Block t c =
    rw (block_parts (scope_by c.args.globals.now) c.args.known.now c.args.statement.now
    c.args.inside c.in-Block.inner c.in-Block.is) (search rules)

pub judge_statement-returns-in-Vars : goal.judge_statement-returns-in-Vars
judge_statement-returns-in-Vars t c =
    rw (variables_parts (scope_by c.args.globals.now) c.args.known.now c.args.statement.now
    c.args.inside c.in-Vars.pairs c.in-Vars.is) (search rules)

pub judge_statement-returns-in_err-judge_expression-in-If :
    goal.judge_statement-returns-in_err-judge_expression-in-If
judge_statement-returns-in_err-judge_expression-in-If t c =
    rw (if_parts (scope_by c.args.globals.now) c.args.known.now c.args.statement.now
    c.args.inside c.in-If.condition c.in-If.body c.in-If.other c.in-If.is) (search rules)

pub judge_statement-returns-in_err-judge_statement-in-If :
    goal.judge_statement-returns-in_err-judge_statement-in-If
judge_statement-returns-in_err-judge_statement-in-If t c =
    rw (if_parts (scope_by c.args.globals.now) c.args.known.now c.args.statement.now
    c.args.inside c.in-If.condition c.in-If.body c.in-If.other c.in-If.is) (search rules)

pub judge_statement-returns-in-None :
    goal.judge_statement-returns-in-None
judge_statement-returns-in-None t c =
    rw (if_parts (scope_by c.args.globals.now) c.args.known.now c.args.statement.now
    c.args.inside c.in-If.condition c.in-If.body None
    (c.in-If.is ∙ ap (stmt.If c.in-If.condition c.in-If.body) c.in-None.is)) (search rules)

pub judge_statement-returns-in-Some :
    goal.judge_statement-returns-in-Some
judge_statement-returns-in-Some t c =
    rw (if_parts (scope_by c.args.globals.now) c.args.known.now c.args.statement.now
    c.args.inside c.in-If.condition c.in-If.body (Some c.in-Some.other)
    (c.in-If.is ∙ ap (stmt.If c.in-If.condition c.in-If.body) c.in-Some.is)) (search rules)

pub judge_statement-returns-in_err-judge_expression-in-While :
    goal.judge_statement-returns-in_err-judge_expression-in-While
judge_statement-returns-in_err-judge_expression-in-While t c =
    rw (while_parts (scope_by c.args.globals.now) c.args.known.now c.args.statement.now
    c.args.inside c.in-While.condition c.in-While.body c.in-While.is) (search rules)

pub judge_statement-returns-in_ok-judge_expression-in-While :
    goal.judge_statement-returns-in_ok-judge_expression-in-While
judge_statement-returns-in_ok-judge_expression-in-While t c =
    rw (while_parts (scope_by c.args.globals.now) c.args.known.now c.args.statement.now
    c.args.inside c.in-While.condition c.in-While.body c.in-While.is) (search rules)

pub judge_statement-returns-in_err-judge_statement-in-For :
    goal.judge_statement-returns-in_err-judge_statement-in-For
judge_statement-returns-in_err-judge_statement-in-For t c =
    rw (for_parts (scope_by c.args.globals.now) c.args.known.now c.args.statement.now
    c.args.inside c.in-For.first c.in-For.condition c.in-For.update c.in-For.body c.in-For.is)
    (search rules)

pub judge_statement-returns-in_err-judge_optional-in-For :
    goal.judge_statement-returns-in_err-judge_optional-in-For
judge_statement-returns-in_err-judge_optional-in-For t c =
    rw (for_parts (scope_by c.args.globals.now) c.args.known.now c.args.statement.now
    c.args.inside c.in-For.first c.in-For.condition c.in-For.update c.in-For.body c.in-For.is)
    (search rules)

pub judge_statement-returns-in_err-judge_optional-in-For-2 :
    goal.judge_statement-returns-in_err-judge_optional-in-For-2
judge_statement-returns-in_err-judge_optional-in-For-2 t c =
    rw (for_parts (scope_by c.args.globals.now) c.args.known.now c.args.statement.now
    c.args.inside c.in-For.first c.in-For.condition c.in-For.update c.in-For.body c.in-For.is)
    (search rules)

pub judge_statement-returns-in_ok-judge_optional-in-For-2 :
    goal.judge_statement-returns-in_ok-judge_optional-in-For-2
judge_statement-returns-in_ok-judge_optional-in-For-2 t c =
    rw (for_parts (scope_by c.args.globals.now) c.args.known.now c.args.statement.now
    c.args.inside c.in-For.first c.in-For.condition c.in-For.update c.in-For.body c.in-For.is)
    (search rules)

pub judge_statement-returns-in-Break : goal.judge_statement-returns-in-Break
judge_statement-returns-in-Break t c =
    rw (break_parts (scope_by c.args.globals.now) c.args.known.now c.args.statement.now
    c.args.inside c.in-Break.word c.in-Break.is) (search rules)

pub judge_statement-returns-in-Continue : goal.judge_statement-returns-in-Continue
judge_statement-returns-in-Continue t c =
    rw (continue_parts (scope_by c.args.globals.now) c.args.known.now c.args.statement.now
    c.args.inside c.in-Continue.word c.in-Continue.is) (search rules)

pub judge_statement-returns-in-Return : goal.judge_statement-returns-in-Return
judge_statement-returns-in-Return t c =
    rw (return_parts (scope_by c.args.globals.now) c.args.known.now c.args.statement.now
    c.args.inside c.in-Return.value c.in-Return.is) (search rules)
