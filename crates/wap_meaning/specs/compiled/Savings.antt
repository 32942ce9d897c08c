-- What code saves against its wide size. This project's own.
use Rattle.std.specs.Prelude.{ℕ, ◌+◌, List, sum, sum_by, Option, Some, None}
use Rattle.wap_unit.specs.declared.row.OpName.{OpName}
use Rattle.wap_unit.specs.declared.row.OpName.TheVariants.{AddAsg, SubAsg}
use Rattle.wap_asm.specs.declared.form.Form.{Form}
use Rattle.wap_asm.specs.declared.form.Form.TheVariants.{Op}
use Rattle.wap_grammar.specs.declared.program.program.Function.{Function}
use Rattle.wap_grammar.specs.declared.program.expression.Expr.{Expr, out-Expr}
use Rattle.wap_grammar.specs.declared.program.expression.Expr.TheOpen.{Expr-F}
use Rattle.wap_grammar.specs.declared.program.statement.Stmt.{Stmt}
use Rattle.wap_grammar.specs.declared.program.statement.Stmt.TheOpen.{Stmt-F}
use Rattle.wap_grammar.specs.declared.program.statement.Stmt.TheFolds.{fold-Stmt}

-- ---- operations

-- the wide size counts `x += e` and `x -= e` as load, operator, store, load and pop: the operations
-- of their own save six bytes
abbrev pub operation_saves : OpName → ℕ
operation_saves AddAsg = 6
operation_saves SubAsg = 6
operation_saves _ = 0

-- how many bytes a form saves
abbrev pub form_saves : Form → ℕ
form_saves (Op instr) = operation_saves instr.name
form_saves _ = 0

-- how many bytes forms save
abbrev pub saved : List Form → ℕ
saved forms = sum_by form_saves forms

-- ---- statements

-- the wide size counts that an assignment or a step that is a statement loads its variable and
-- drops the value: with `=`, `++` and `--` it doesn't, and saves three bytes
abbrev pub effect_saves : Expr-F Expr → ℕ
effect_saves (Expr-F.Assign v None e) = 3
effect_saves (Expr-F.Step v up prefix) = 3
effect_saves _ = 0

-- the same of one that may be missing
abbrev pub effect_saves_if : Option Expr → ℕ
effect_saves_if None = 0
effect_saves_if (Some e) = effect_saves (out-Expr e)

-- how many bytes statements save in a statement, by what its parts save
abbrev pub stmt_saves_by : Stmt-F ℕ → ℕ
stmt_saves_by (Stmt-F.Expr e) = effect_saves (out-Expr e)
stmt_saves_by (Stmt-F.Block ss) = sum ss
stmt_saves_by (Stmt-F.If c s None) = s
stmt_saves_by (Stmt-F.If c s (Some other)) = s + other
stmt_saves_by (Stmt-F.While c s) = s
stmt_saves_by (Stmt-F.For first c update s) = first + effect_saves_if update + s
stmt_saves_by _ = 0

-- how many bytes statements save in a statement
unfoldable pub stmt_saves : Stmt → ℕ
stmt_saves = fold-Stmt ℕ stmt_saves_by

-- how many bytes they save in a function
abbrev pub function_saves : Function → ℕ
function_saves f = sum_by stmt_saves f.body
