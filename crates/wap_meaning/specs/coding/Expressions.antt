-- The code of expressions (WAP-193, section 10; which code is chosen is this project's own), one
-- line a construct: it leaves one value more on the operands.
use Rattle.std.specs.Prelude.{ℕ, ◌+◌, Bool, true, false, List, [], ◌∷◌, length, Option, Some, None}
use Rattle.wap_value.specs.declared.operator.UnOp.{UnOp}
use Rattle.wap_value.specs.declared.operator.UnOp.TheVariants as un
use Rattle.wap_value.specs.declared.operator.BinOp.{BinOp}
use Rattle.wap_value.specs.declared.operator.BinOp.TheVariants as bin
use Rattle.wap_unit.specs.declared.row.OpName.{OpName}
use Rattle.wap_unit.specs.declared.row.OpName.TheVariants as op
use Rattle.wap_asm.specs.declared.form.Form.TheVariants.{Op}
use Rattle.wap_grammar.specs.declared.program.expression.Literal.{Literal}
use Rattle.wap_grammar.specs.declared.program.expression.Literal.TheVariants as literal
use Rattle.wap_grammar.specs.declared.program.expression.Expr.{Expr}
use Rattle.wap_grammar.specs.declared.program.expression.Expr.TheOpen.{Expr-F}
use Rattle.wap_grammar.specs.declared.program.expression.Expr.TheFolds.{fold-Expr}
use Rattle.wap_meaning.specs.Names.{variable_at, function_at, numbers_of}
use Rattle.wap_meaning.specs.coding.Coded.{Coded, one, ◌⨾◌, all_code, instr, plain, with_operand}
use Rattle.wap_meaning.specs.coding.Coded.{label, jump_over}
use Rattle.wap_meaning.specs.coding.Constants.{Numbers, number_of, text_number, url_number}

-- an integer or a text that isn't empty is a constant, and all other literals have operations of
-- their own
abbrev pub literal_code : Numbers → Literal → Coded
literal_code numbers (literal.Int number) =
    with_operand op.LoadConst (number_of numbers (literal.Int number))
literal_code numbers literal.Float = plain op.ConstInvalid
literal_code numbers (literal.Str []) = plain op.ConstEs
literal_code numbers (literal.Str (c ∷ cs)) =
    with_operand op.LoadConst (number_of numbers (literal.Str (c ∷ cs)))
literal_code numbers (literal.Bool true) = plain op.ConstTrue
literal_code numbers (literal.Bool false) = plain op.ConstFalse
literal_code numbers literal.Invalid = plain op.ConstInvalid

-- ---- operators

-- an operator of one operand; `+` takes 0 away
abbrev pub unary_code : UnOp → Coded
unary_code un.Plus = plain op.Const0 ⨾ plain op.Sub
unary_code un.Minus = plain op.Uminus
unary_code un.BitNot = plain op.BNot
unary_code un.Not = plain op.Not
unary_code un.TypeOf = plain op.Typeof
unary_code un.IsValid = plain op.Isvalid
unary_code un.ToBool = plain op.Tobool
unary_code un.Incr = plain op.Incr
unary_code un.Decr = plain op.Decr

-- the operation of an operator that takes the values of both operands; of the other three the one
-- that stands behind the first
abbrev pub binary_name : BinOp → OpName
binary_name bin.Mul = op.Mul
binary_name bin.Div = op.Div
binary_name bin.IDiv = op.Idiv
binary_name bin.Rem = op.Rem
binary_name bin.Add = op.Add
binary_name bin.Sub = op.Sub
binary_name bin.Shl = op.BLshift
binary_name bin.Shr = op.BRsshift
binary_name bin.UShr = op.BRszshift
binary_name bin.Lt = op.Lt
binary_name bin.Le = op.Le
binary_name bin.Gt = op.Gt
binary_name bin.Ge = op.Ge
binary_name bin.Eq = op.Eq
binary_name bin.Ne = op.Ne
binary_name bin.BitAnd = op.BAnd
binary_name bin.BitXor = op.BXor
binary_name bin.BitOr = op.BOr
binary_name bin.And = op.Scand
binary_name bin.Or = op.Scor
binary_name bin.Comma = op.Pop

-- a short-circuit with its jump over the second operand, and this
abbrev pub short_code : OpName → Coded → Coded
short_code name second =
    plain name ⨾ jump_over op.TjumpFw (second.size + 1) ⨾ second ⨾ plain op.Tobool ⨾ label

-- an operator and the operand on its right, behind that on its left
abbrev pub joined_code : BinOp → Coded → Coded
joined_code bin.And second = short_code op.Scand second
joined_code bin.Or second = short_code op.Scor second
joined_code bin.Comma second = plain op.Pop ⨾ second
joined_code binop second = second ⨾ plain (binary_name binop)

-- operators of one precedence, from the left
abbrev pub chain_code : Coded → List (BinOp × Coded) → Coded
chain_code first [] = first
chain_code first (pair ∷ pairs) = chain_code (first ⨾ joined_code pair.0 pair.1) pairs

-- ---- variables

-- the value of a variable
abbrev pub load_code : ℕ → Coded
load_code index = with_operand op.LoadVar index

-- a variable takes the value on top
abbrev pub store_code : ℕ → Coded
store_code index = with_operand op.StoreVar index

-- an assignment, whose value is loaded again
abbrev pub assigned_code : ℕ → Option BinOp → Coded → Coded
assigned_code index None right = right ⨾ store_code index ⨾ load_code index
assigned_code index (Some binop) right =
    load_code index ⨾ right ⨾ plain (binary_name binop) ⨾ store_code index ⨾ load_code index

-- up or down
abbrev pub change_name : Bool → OpName
change_name true = op.IncrVar
change_name false = op.DecrVar

-- a step, whose value is loaded behind it or, as the old one, before it
abbrev pub step_code : ℕ → Bool → Bool → Coded
step_code index up true = with_operand (change_name up) index ⨾ load_code index
step_code index up false = load_code index ⨾ with_operand (change_name up) index

-- ---- expressions

-- a condition with a jump to the second branch, the first with a jump behind it, and the second
abbrev pub cond_code : Coded → Coded → Coded → Coded
cond_code c first second =
    c ⨾ jump_over op.TjumpFw (first.size + 1) ⨾ first ⨾ jump_over op.JumpFw (1 + second.size) ⨾
    label ⨾ second ⨾ label

-- the code of an expression, by that of its parts
abbrev pub expr_code_by : Numbers → Expr-F Coded → Coded
expr_code_by numbers (Expr-F.Lit l) = literal_code numbers l
expr_code_by numbers (Expr-F.Var v) = load_code (variable_at numbers.names v)
expr_code_by numbers (Expr-F.Assign v op e) = assigned_code (variable_at numbers.names v) op e
expr_code_by numbers (Expr-F.Step v up prefix) =
    step_code (variable_at numbers.names v) up prefix
expr_code_by numbers (Expr-F.Unary op e) = e ⨾ unary_code op
expr_code_by numbers (Expr-F.Chain e pairs) = chain_code e pairs
expr_code_by numbers (Expr-F.Cond c first second) = cond_code c first second
expr_code_by numbers (Expr-F.Call f es) =
    all_code es ⨾ with_operand op.Call (function_at numbers.names f)
expr_code_by numbers (Expr-F.External unit f es) =
    all_code es ⨾ one (λ exits at.
    Op (instr op.CallUrl (url_number numbers unit) (text_number numbers f.name) (length es)))
expr_code_by numbers (Expr-F.Library l f es) =
    all_code es ⨾ one (λ exits at.
    Op (instr op.CallLib (numbers_of l f).1 (numbers_of l f).0 0))

-- the code of an expression
unfoldable pub expr_code : Numbers → Expr → Coded
expr_code numbers = fold-Expr Coded (expr_code_by numbers)
