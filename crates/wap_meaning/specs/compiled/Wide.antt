-- How many bytes the code of a function has where each of its instructions is spelled in the
-- longest way, construct by construct. This project's own.
use Rattle.std.specs.Prelude.{ℕ, ◌+◌, [], ◌∷◌, sum, sum_by, Option, Some, None}
use Rattle.wap_value.specs.declared.operator.UnOp.{UnOp}
use Rattle.wap_value.specs.declared.operator.UnOp.TheVariants as un
use Rattle.wap_value.specs.declared.operator.BinOp.{BinOp}
use Rattle.wap_value.specs.declared.operator.BinOp.TheVariants as bin
use Rattle.wap_grammar.specs.declared.program.program.Id.{Id}
use Rattle.wap_grammar.specs.declared.program.program.Function.{Function}
use Rattle.wap_grammar.specs.declared.program.expression.Literal.{Literal}
use Rattle.wap_grammar.specs.declared.program.expression.Literal.TheVariants as literal
use Rattle.wap_grammar.specs.declared.program.expression.Expr.{Expr}
use Rattle.wap_grammar.specs.declared.program.expression.Expr.TheOpen.{Expr-F}
use Rattle.wap_grammar.specs.declared.program.expression.Expr.TheFolds.{fold-Expr}
use Rattle.wap_grammar.specs.declared.program.statement.Stmt.{Stmt}
use Rattle.wap_grammar.specs.declared.program.statement.Stmt.TheOpen.{Stmt-F}
use Rattle.wap_grammar.specs.declared.program.statement.Stmt.TheFolds.{fold-Stmt}

-- ---- expressions

-- an integer and a text that isn't empty are constants
abbrev pub literal_wide : Literal → ℕ
literal_wide (literal.Int number) = 3
literal_wide (literal.Str []) = 1
literal_wide (literal.Str (c ∷ cs)) = 3
literal_wide _ = 1

-- an assignment adds to its right side a store and a load; with an operator a load before it and
-- the operator too
abbrev pub assign_wide : Option BinOp → ℕ
assign_wide None = 4
assign_wide (Some op) = 7

-- an operator of one operand; `+` takes 0 away
abbrev pub unary_wide : UnOp → ℕ
unary_wide un.Plus = 2
unary_wide _ = 1

-- an operator of two operands; `&&` and `||` have a jump
abbrev pub binary_wide : BinOp → ℕ
binary_wide bin.And = 5
binary_wide bin.Or = 5
binary_wide _ = 1

-- an expression, by its parts
abbrev pub expr_wide_by : Expr-F ℕ → ℕ
expr_wide_by (Expr-F.Lit l) = literal_wide l
expr_wide_by (Expr-F.Var v) = 2
expr_wide_by (Expr-F.Assign v op e) = e + assign_wide op
expr_wide_by (Expr-F.Step v up prefix) = 4
expr_wide_by (Expr-F.Unary op e) = e + unary_wide op
expr_wide_by (Expr-F.Chain e pairs) = e + sum_by (λ pair. binary_wide pair.0 + pair.1) pairs
expr_wide_by (Expr-F.Cond c first second) = c + first + second + 6
expr_wide_by (Expr-F.Call f es) = sum es + 2
expr_wide_by (Expr-F.External unit f es) = sum es + 6
expr_wide_by (Expr-F.Library l f es) = sum es + 4

-- an expression
unfoldable pub expr_wide : Expr → ℕ
expr_wide = fold-Expr ℕ expr_wide_by

-- ---- statements

-- an expression as a statement
abbrev pub effect_wide : Expr → ℕ
effect_wide e = expr_wide e + 1

-- the same of one that may be missing
abbrev pub effect_wide_if : Option Expr → ℕ
effect_wide_if None = 0
effect_wide_if (Some e) = effect_wide e

-- a declaration
abbrev pub declared_wide : Id × Option Expr → ℕ
declared_wide (v, None) = 3
declared_wide (v, Some e) = expr_wide e + 2

-- the branches of a condition, with the jumps over them
abbrev pub branches_wide : ℕ → Option ℕ → ℕ
branches_wide first None = first + 3
branches_wide first (Some second) = first + second + 6

-- the condition of a `for` and the jumps of its loop
abbrev pub loop_wide : Option Expr → ℕ
loop_wide None = 3
loop_wide (Some e) = expr_wide e + 6

-- a statement, by its parts
abbrev pub stmt_wide_by : Stmt-F ℕ → ℕ
stmt_wide_by Stmt-F.Empty = 0
stmt_wide_by (Stmt-F.Expr e) = effect_wide e
stmt_wide_by (Stmt-F.Block ss) = sum ss
stmt_wide_by (Stmt-F.Vars pairs) = sum_by declared_wide pairs
stmt_wide_by (Stmt-F.If c s other) = expr_wide c + branches_wide s other
stmt_wide_by (Stmt-F.While c s) = s + loop_wide (Some c)
stmt_wide_by (Stmt-F.For first c update s) = first + s + effect_wide_if update + loop_wide c
stmt_wide_by (Stmt-F.Break word) = 3
stmt_wide_by (Stmt-F.Continue word) = 3
stmt_wide_by (Stmt-F.Return None) = 1
stmt_wide_by (Stmt-F.Return (Some e)) = expr_wide e + 1

-- a statement
unfoldable pub stmt_wide : Stmt → ℕ
stmt_wide = fold-Stmt ℕ stmt_wide_by

-- ---- functions

-- a function: nothing is added at its end
abbrev pub function_wide : Function → ℕ
function_wide f = sum_by stmt_wide f.body
