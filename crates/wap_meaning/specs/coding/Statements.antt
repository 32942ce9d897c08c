-- The code of statements (WAP-193, section 10; which code is chosen is this project's own), one
-- line a construct: it leaves the operands as they were.
use Rattle.std.specs.Prelude.{ℕ, ◌+◌, Bool, false, nat_eq, ◌||◌, map, if◌then◌else◌}
use Rattle.std.specs.Prelude.{Option, Some, None}
use Rattle.std.specs.List.{list_any}
use Rattle.wap_value.specs.declared.operator.BinOp.TheVariants as bin
use Rattle.wap_unit.specs.declared.row.OpName.{OpName}
use Rattle.wap_unit.specs.declared.row.OpName.TheVariants as op
use Rattle.wap_asm.specs.declared.form.Form.{Form}
use Rattle.wap_asm.specs.declared.form.Form.TheVariants.{Op, Jump}
use Rattle.wap_grammar.specs.declared.program.program.Id.{Id}
use Rattle.wap_grammar.specs.declared.program.expression.Expr.{Expr, out-Expr}
use Rattle.wap_grammar.specs.declared.program.expression.Expr.TheOpen.{Expr-F}
use Rattle.wap_grammar.specs.declared.program.expression.Expr.TheFolds.{fold-Expr}
use Rattle.wap_grammar.specs.declared.program.statement.Stmt.{Stmt}
use Rattle.wap_grammar.specs.declared.program.statement.Stmt.TheOpen.{Stmt-F}
use Rattle.wap_grammar.specs.declared.program.statement.Stmt.TheFolds.{fold-Stmt}
use Rattle.wap_meaning.specs.Names.{Names, variable_at}
use Rattle.wap_meaning.specs.coding.Coded.{Exits, Coded, empty, one, ◌⨾◌, all_code, instr, plain}
use Rattle.wap_meaning.specs.coding.Coded.{with_operand, label, jump_over, jump_before, within}
use Rattle.wap_meaning.specs.coding.Constants.{Numbers}
use Rattle.wap_meaning.specs.coding.Expressions.{store_code, change_name, cond_code, expr_code}

-- ---- expressions as statements

-- whether an expression writes the variable at a place, by whether its parts do
abbrev pub writes_by : Names → Expr-F (ℕ → Bool) → ℕ → Bool
writes_by names (Expr-F.Lit l) index = false
writes_by names (Expr-F.Var v) index = false
writes_by names (Expr-F.Assign v o e) index = nat_eq (variable_at names v) index || e index
writes_by names (Expr-F.Step v up prefix) index = nat_eq (variable_at names v) index
writes_by names (Expr-F.Unary o e) index = e index
writes_by names (Expr-F.Chain e pairs) index = e index || list_any (λ pair. pair.1 index) pairs
writes_by names (Expr-F.Cond c first second) index = c index || (first index || second index)
writes_by names (Expr-F.Call f es) index = list_any (λ e. e index) es
writes_by names (Expr-F.External unit f es) index = list_any (λ e. e index) es
writes_by names (Expr-F.Library l f es) index = list_any (λ e. e index) es

-- whether an expression writes the variable at a place
unfoldable pub writes : Names → Expr → ℕ → Bool
writes names = fold-Expr (ℕ → Bool) (writes_by names)

-- the value of an expression is dropped
abbrev pub dropped_code : Coded → Coded
dropped_code e = e ⨾ plain op.Pop

-- `x += e` and `x -= e` have operations of their own, which read x behind e: they stand where e
-- does not write x
abbrev pub changed_code : Numbers → ℕ → OpName → Expr → Coded → Coded
changed_code numbers index name e whole =
    if writes numbers.names e index then dropped_code whole
    else expr_code numbers e ⨾ with_operand name index

-- an expression as a statement, by what it is and by its own code: after `=`, `++` and `--` the
-- variable isn't loaded again
abbrev pub effect_code : Numbers → Expr-F Expr → Coded → Coded
effect_code numbers (Expr-F.Assign v None e) whole =
    expr_code numbers e ⨾ store_code (variable_at numbers.names v)
effect_code numbers (Expr-F.Assign v (Some bin.Add) e) whole =
    changed_code numbers (variable_at numbers.names v) op.AddAsg e whole
effect_code numbers (Expr-F.Assign v (Some bin.Sub) e) whole =
    changed_code numbers (variable_at numbers.names v) op.SubAsg e whole
effect_code numbers (Expr-F.Step v up prefix) whole =
    with_operand (change_name up) (variable_at numbers.names v)
effect_code numbers _ whole = dropped_code whole

-- a variable takes the value of its initialiser, or `""`
abbrev pub declared_code : Numbers → Id × Option Expr → Coded
declared_code numbers (v, None) = plain op.ConstEs ⨾ store_code (variable_at numbers.names v)
declared_code numbers (v, Some e) =
    expr_code numbers e ⨾ store_code (variable_at numbers.names v)

-- ---- conditions

-- what is done where a condition holds, behind it
abbrev pub branch_code : Coded → Coded
branch_code body = jump_over op.TjumpFw body.size ⨾ body ⨾ label

-- a condition, and what is done where it holds and where it doesn't
abbrev pub if_code : Coded → Coded → Option Coded → Coded
if_code c first None = c ⨾ branch_code first
if_code c first (Some second) = cond_code c first second

-- ---- loops

-- `break` and `continue` jump to their labels; outside of loops, where none stands in a scoped
-- program, they return `""`
abbrev pub exit_form : Exits → (ℕ × ℕ → ℕ) → Form
exit_form None which = Op (instr op.ReturnEs 0 0 0)
exit_form (Some labels) which = Jump op.JumpFw (which labels)

-- a condition with a jump over so many forms, or none
abbrev pub test_code : Numbers → Option Expr → ℕ → Coded
test_code numbers None over = empty
test_code numbers (Some e) over = expr_code numbers e ⨾ jump_over op.TjumpFw over

-- label, condition with a jump to the end, body, label of `continue`, update, jump back, and label
-- of `break`
abbrev pub loop_code : (ℕ → Coded) → Coded → Coded → Coded
loop_code test body update =
    let over = body.size + (update.size + 2) in
    label ⨾ test over ⨾ within over body.size body ⨾ label ⨾ update ⨾
    jump_before op.JumpBw (1 + (test over).size + body.size + 1 + update.size) ⨾ label

-- the update of a `for`, which is an expression as a statement, or none
abbrev pub update_code : Numbers → Option Expr → Coded
update_code numbers None = empty
update_code numbers (Some e) = effect_code numbers (out-Expr e) (expr_code numbers e)

-- ---- statements

-- the code of a statement, by that of its parts
abbrev pub stmt_code_by : Numbers → Stmt-F Coded → Coded
stmt_code_by numbers Stmt-F.Empty = empty
stmt_code_by numbers (Stmt-F.Expr e) = effect_code numbers (out-Expr e) (expr_code numbers e)
stmt_code_by numbers (Stmt-F.Block ss) = all_code ss
stmt_code_by numbers (Stmt-F.Vars pairs) = all_code (map (declared_code numbers) pairs)
stmt_code_by numbers (Stmt-F.If c s other) = if_code (expr_code numbers c) s other
stmt_code_by numbers (Stmt-F.While c s) = loop_code (test_code numbers (Some c)) s empty
stmt_code_by numbers (Stmt-F.For first c update s) =
    first ⨾ loop_code (test_code numbers c) s (update_code numbers update)
stmt_code_by numbers (Stmt-F.Break word) = one (λ exits at. exit_form exits (λ labels. labels.0))
stmt_code_by numbers (Stmt-F.Continue word) =
    one (λ exits at. exit_form exits (λ labels. labels.1))
stmt_code_by numbers (Stmt-F.Return None) = plain op.ReturnEs
stmt_code_by numbers (Stmt-F.Return (Some e)) = expr_code numbers e ⨾ plain op.Return

-- the code of a statement
unfoldable pub stmt_code : Numbers → Stmt → Coded
stmt_code numbers = fold-Stmt Coded (stmt_code_by numbers)
