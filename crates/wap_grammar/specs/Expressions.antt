-- Which tokens spell an expression (WAP-193, section 6.3). Each case says what stands from left to
-- right; x, y and so on are the tokens from some place on. What stands in parentheses, an argument,
-- what a unary operator stands before, a right side and a branch of `?:` stand one level deeper
-- than what they are parts of.
use Rattle.std.specs.Prelude.{◌≡◌, ℕ, zero, suc, Bool, true, false, List, [], ◌∷◌, Option, Some}
use Rattle.wap_value.specs.declared.operator.BinOp.{BinOp}
use Rattle.wap_value.specs.declared.operator.BinOp.TheVariants as op
use Rattle.wap_value.specs.declared.operator.UnOp.{UnOp}
use Rattle.wap_grammar.specs.declared.program.program.Span.{Span}
use Rattle.wap_grammar.specs.declared.program.expression.Literal.{Literal}
use Rattle.wap_grammar.specs.declared.program.expression.Expr.{Expr}
use Rattle.wap_grammar.specs.declared.program.expression.Expr.TheVariants as expr
use Rattle.wap_grammar.specs.declared.callee.Callee.{Callee}
use Rattle.wap_grammar.specs.declared.callee.Callee.TheVariants as callee
use Rattle.wap_grammar.specs.declared.lexeme.Lexeme.{Lexeme}
use Rattle.wap_grammar.specs.declared.precedence.TheConstants.{UNARY, CONDITIONAL}
use Rattle.wap_grammar.specs.declared.precedence.TheConstants.{ASSIGNMENT, COMMA}
use Rattle.wap_grammar.specs.declared.word.Word.{Word}
use Rattle.wap_grammar.specs.declared.word.Word.TheVariants.{Operator, Step, Assign}
use Rattle.wap_grammar.specs.declared.word.Sign.TheVariants.{Question, Colon, Open}
use Rattle.wap_grammar.specs.declared.word.Sign.TheVariants.{Close, Hash, Dot}
use Rattle.wap_grammar.specs.Lexemes.{precedence, unary_of}
use Rattle.wap_grammar.specs.Values.{id_of, literal_of, called}
use Rattle.wap_grammar.specs.Spellings.{Spelling, token, name, sign, Several}

-- expressions, by their level of precedence
abbrev pub Expressions : Type 1
Expressions = ℕ → Spelling Expr

-- what is called: `f`, `U#f` or `Lib.f`
pub data IsCallee (src : List ℕ) : List Lexeme → Callee → List Lexeme → Type 0 where
  local : (f : Span) (x : List Lexeme) → IsCallee src (name f ∷ x) (callee.Local (id_of src f)) x
  external : (unit hash f : Span) (x : List Lexeme) →
      IsCallee src (name unit ∷ sign Hash hash ∷ name f ∷ x) (callee.External (id_of src unit)
      (id_of src f)) x
  library : (library dot f : Span) (x : List Lexeme) →
      IsCallee src (name library ∷ sign Dot dot ∷ name f ∷ x) (callee.Library (id_of src library)
      (id_of src f)) x

-- a comma, and an argument
pub data IsArgument (Inner : Expressions) : List Lexeme → Expr → List Lexeme → Type 0 where
  argument : (comma : Span) (x y : List Lexeme) (e : Expr) → Inner ASSIGNMENT x e y →
      IsArgument Inner (token (Operator op.Comma) comma ∷ x) e y

-- arguments, and the parenthesis after them
pub data AreArguments (Inner : Expressions) : List Lexeme → List Expr → List Lexeme → Type 0 where
  none : (closed : Span) (x : List Lexeme) → AreArguments Inner (sign Close closed ∷ x) [] x
  some : (closed : Span) (x y z : List Lexeme) (e : Expr) (es : List Expr) →
      Inner ASSIGNMENT x e y →
      Several (IsArgument Inner) y es (sign Close closed ∷ z) → AreArguments Inner x (e ∷ es) z

-- operands, and unary operators before them
pub data IsUnary (src : List ℕ) (Inner : Expressions) : List Lexeme → Expr → List Lexeme →
    Type 0 where
  literal : (w : Word) (span : Span) (x : List Lexeme) (l : Literal) →
      literal_of src span w ≡ Some l →
      IsUnary src Inner (token w span ∷ x) (expr.Lit l) x
  variable : (v : Span) (x : List Lexeme) → IsUnary src Inner (name v ∷ x) (expr.Var
      (id_of src v)) x
  -- `++` and `--`, after a variable and before it
  postfix : (v step : Span) (x : List Lexeme) (up : Bool) →
      IsUnary src Inner (name v ∷ token (Step up) step ∷ x) (expr.Step (id_of src v) up false) x
  prefix : (step v : Span) (x : List Lexeme) (up : Bool) →
      IsUnary src Inner (token (Step up) step ∷ name v ∷ x) (expr.Step (id_of src v) up true) x
  call : (opened : Span) (x y z : List Lexeme) (f : Callee) (es : List Expr) →
      IsCallee src x f (sign Open opened ∷ y) →
      AreArguments Inner y es z → IsUnary src Inner x (called f es) z
  parentheses : (opened closed : Span) (x y : List Lexeme) (e : Expr) →
      Inner COMMA x e (sign Close closed ∷ y) →
      IsUnary src Inner (sign Open opened ∷ x) e y
  unary : (w : Word) (span : Span) (x y : List Lexeme) (o : UnOp) (e : Expr) → unary_of w ≡ Some o →
      Inner UNARY x e y → IsUnary src Inner (token w span ∷ x) (expr.Unary o e) y

-- an operator of a level of precedence, and the operand after it
pub data IsOperand (level : ℕ) (IsTighter : Spelling Expr) : List Lexeme → BinOp × Expr →
    List Lexeme → Type 0 where
  operand : (o : BinOp) (span : Span) (x y : List Lexeme) (e : Expr) → precedence o ≡ level →
      IsTighter x e y →
      IsOperand level IsTighter (token (Operator o) span ∷ x) (o, e) y

-- expressions of a level of precedence, given those of the next tighter one
pub data IsLooser (src : List ℕ) (Inner : Expressions) (level : ℕ)
    (IsTighter : Spelling Expr) : List Lexeme → Expr → List Lexeme → Type 0 where
  tighter : (x y : List Lexeme) (e : Expr) → IsTighter x e y →
      IsLooser src Inner level IsTighter x e y
  -- operators of one level, taken from the left
  chain : (x y z : List Lexeme) (e : Expr) (pair : BinOp × Expr) (pairs : List (BinOp × Expr)) →
      IsTighter x e y →
      Several (IsOperand level IsTighter) y (pair ∷ pairs) z →
      IsLooser src Inner level IsTighter x (expr.Chain e (pair ∷ pairs)) z
  conditional : (question colon : Span) (x y z rest : List Lexeme) (c yes no : Expr) →
      level ≡ CONDITIONAL →
      IsTighter x c (sign Question question ∷ y) → Inner ASSIGNMENT y yes (sign Colon colon ∷ z) →
      Inner ASSIGNMENT z no rest → IsLooser src Inner level IsTighter x (expr.Cond c yes no) rest
  -- from the right, to a variable
  assignment : (v span : Span) (x y : List Lexeme) (o : Option BinOp) (e : Expr) →
      level ≡ ASSIGNMENT →
      Inner ASSIGNMENT x e y →
      IsLooser src Inner level IsTighter (name v ∷ token (Assign o) span ∷ x) (expr.Assign
      (id_of src v) o e) y

-- expressions with such ones in them, one level deeper
unfoldable pub IsPart : List ℕ → Expressions → Expressions
IsPart src Inner zero = IsUnary src Inner
IsPart src Inner (suc level) = IsLooser src Inner (suc level) (IsPart src Inner level)

-- an expression of a level of precedence that spans so many levels at most
unfoldable pub IsExpression : List ℕ → ℕ → Expressions
IsExpression src zero level x e y = ⊥
IsExpression src (suc levels) level x e y = IsPart src (IsExpression src levels) level x e y
