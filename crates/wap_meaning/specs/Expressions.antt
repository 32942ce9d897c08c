-- What expressions mean (WAP-193, section 6.3), one line a construct: the value, the variables, the
-- turns and the host's state that they leave.
use Rattle.std.specs.Prelude.{ℕ, Bool, true, false, List, [], ◌∷◌, if◌then◌else◌}
use Rattle.std.specs.Prelude.{Option, Some, None}
use Rattle.wap_value.specs.declared.value.Value.{Value}
use Rattle.wap_value.specs.declared.value.Value.TheVariants.{Int, Bool as Boolean, Str, Invalid}
use Rattle.wap_value.specs.declared.operator.UnOp.{UnOp}
use Rattle.wap_value.specs.declared.operator.UnOp.TheVariants.{ToBool, Incr, Decr}
use Rattle.wap_value.specs.declared.operator.BinOp.{BinOp}
use Rattle.wap_value.specs.declared.operator.BinOp.TheVariants as bin
use Rattle.wap_value.specs.Conversion.{boolean_of}
use Rattle.wap_value.specs.Unary.{unary_of}
use Rattle.wap_value.specs.Binary.{binary_of}
use Rattle.wap_grammar.specs.declared.program.expression.Literal.{Literal}
use Rattle.wap_grammar.specs.declared.program.expression.Literal.TheVariants as literal
use Rattle.wap_grammar.specs.declared.program.expression.Expr.{Expr}
use Rattle.wap_grammar.specs.declared.program.expression.Expr.TheOpen.{Expr-F}
use Rattle.wap_grammar.specs.declared.program.expression.Expr.TheFolds.{fold-Expr}
use Rattle.wap_execution.specs.Effects.{jumps_at}
use Rattle.wap_execution.specs.Running.{Calls}
use Rattle.wap_meaning.specs.Names.{Names, variable_at, callee_local, callee_external}
use Rattle.wap_meaning.specs.Names.{callee_library}
use Rattle.wap_meaning.specs.SourceParts.{Does, ◌>>=◌, give, load, store, kept, calling}

-- what the parts of a function depend on besides its variables: how long Strings may be, what names
-- mean, and what calls come to after their turns
pub record Around (S : Type 0) : Type 0 where
  pub string : ℕ
  pub names : Names
  pub call : Calls S

-- the value of a literal (section 6.1.5); a Float has none
abbrev pub value_of : Literal → Value
value_of (literal.Int number) = Int number
value_of literal.Float = Invalid
value_of (literal.Str text) = Str text
value_of (literal.Bool truth) = Boolean truth
value_of literal.Invalid = Invalid

-- ---- operators of two operands (sections 6.3.2 to 6.3.5 and 6.3.7)

-- true decides `||` and false `&&` (section 6.3.3): the second operand is taken only where the
-- first does not decide; where the first is invalid the whole is, and the second is not taken
abbrev pub decides : {S : Type 0} → Bool → Option Bool → Does Value S → Does Value S
decides by None second = give Invalid
decides true (Some true) second = give (Boolean true)
decides true (Some false) second = second
decides false (Some true) second = second
decides false (Some false) second = give (Boolean false)

-- a value is turned to Boolean
abbrev pub as_boolean : {S : Type 0} → Does Value S → Does Value S
as_boolean does = does >>= λ v. give (unary_of ToBool v)

-- what an operator makes of a value on its left and of what is on its right: `&&` and `||` turn
-- both to Boolean, a comma leaves the right one, and all others take both, where a String may not
-- be too long
abbrev pub joined : {S : Type 0} → ℕ → BinOp → Value → Does Value S → Does Value S
joined string bin.And left right = decides false (boolean_of left) (as_boolean right)
joined string bin.Or left right = decides true (boolean_of left) (as_boolean right)
joined string bin.Comma left right = right
joined string op left right = right >>= λ v. kept string (binary_of op left v)

-- operators of one precedence are taken from the left
abbrev pub chained : {S : Type 0} → ℕ → Does Value S → List (BinOp × Does Value S) → Does Value S
chained string first [] = first
chained string first (pair ∷ pairs) =
    chained string (first >>= λ left. joined string pair.0 left pair.1) pairs

-- ---- assignments (section 6.3.1)

-- `x = e` gives the value of e; `x op= e` reads x before e, and gives the new value
abbrev pub assigned : {S : Type 0} → ℕ → ℕ → Option BinOp → Does Value S → Does Value S
assigned string index None right =
    right >>= λ v. store index v >>= λ _. give v
assigned string index (Some op) right =
    load index >>= λ old. right >>= λ v. kept string (binary_of op old v) >>= λ new.
    store index new >>= λ _. give new

-- `++x` and `--x` give the new value, `x++` and `x--` the old one as it was stored (section 6.3.2)
abbrev pub stepped : {S : Type 0} → ℕ → UnOp → Bool → Does Value S
stepped index op prefix =
    load index >>= λ old. let new = unary_of op old in
    store index new >>= λ _. give (if prefix then new else old)

-- up or down
abbrev pub step_of : Bool → UnOp
step_of true = Incr
step_of false = Decr

-- ---- arguments (section 6.4.2)

-- from left to right
abbrev pub each_of : {S : Type 0} → List (Does Value S) → Does (List Value) S
each_of [] = give []
each_of (does ∷ more) = does >>= λ v. each_of more >>= λ vs. give (v ∷ vs)

-- ---- expressions

-- what an expression means, by what its parts mean
abbrev pub eval_by : {S : Type 0} → Around S → Expr-F (Does Value S) → Does Value S
-- section 6.1.5
eval_by around (Expr-F.Lit l) = kept around.string (value_of l)
-- section 6.2.3
eval_by around (Expr-F.Var v) = load (variable_at around.names v)
-- section 6.3.1
eval_by around (Expr-F.Assign v op e) = assigned around.string (variable_at around.names v) op e
-- section 6.3.2
eval_by around (Expr-F.Step v up prefix) = stepped (variable_at around.names v) (step_of up) prefix
-- sections 6.3.2, 6.3.3, 6.3.9 and 6.3.10
eval_by around (Expr-F.Unary op e) = e >>= λ v. give (unary_of op v)
-- sections 6.3.2 to 6.3.5 and 6.3.7
eval_by around (Expr-F.Chain e pairs) = chained around.string e pairs
-- section 6.3.8; a condition that is invalid counts as false
eval_by around (Expr-F.Cond c first second) =
    c >>= λ v. if jumps_at v then second else first
-- sections 6.4.2.1, 6.4.2.2 and 6.4.2.3
eval_by around (Expr-F.Call f es) =
    each_of es >>= λ vs. calling around.call (callee_local around.names f) vs
eval_by around (Expr-F.External unit f es) =
    each_of es >>= λ vs. calling around.call (callee_external around.names unit f) vs
eval_by around (Expr-F.Library l f es) =
    each_of es >>= λ vs. calling around.call (callee_library l f) vs

-- what an expression means
unfoldable pub eval : {S : Type 0} → Around S → Expr → Does Value S
eval {S} around = fold-Expr (Does Value S) (eval_by around)
