-- Which tokens spell a statement (WAP-193, section 6.5). The expressions and statements in a
-- statement stand one level deeper than it, also what stands after an `else`, be it an `if` or not.
use Rattle.std.specs.Prelude.{◌≡◌, ℕ, zero, suc, false, List, ◌∷◌, Option, Some, None}
use Rattle.wap_grammar.specs.declared.program.program.Span.{Span}
use Rattle.wap_grammar.specs.declared.program.program.Id.{Id}
use Rattle.wap_grammar.specs.declared.program.expression.Expr.{Expr}
use Rattle.wap_grammar.specs.declared.program.statement.Stmt.{Stmt}
use Rattle.wap_grammar.specs.declared.program.statement.Stmt.TheVariants as stmt
use Rattle.wap_grammar.specs.declared.lexeme.Lexeme.{Lexeme}
use Rattle.wap_grammar.specs.declared.precedence.TheConstants.{ASSIGNMENT, COMMA}
use Rattle.wap_grammar.specs.declared.word.Word.TheVariants.{Assign}
use Rattle.wap_grammar.specs.declared.word.Sign.{Sign}
use Rattle.wap_grammar.specs.declared.word.Sign.TheVariants.{Semicolon, Open, Close, OpenBlock}
use Rattle.wap_grammar.specs.declared.word.Sign.TheVariants.{CloseBlock, Break, Continue, Else, For}
use Rattle.wap_grammar.specs.declared.word.Sign.TheVariants.{If, Return, Var, While}
use Rattle.wap_grammar.specs.Lexemes.{is_sign, word_of}
use Rattle.wap_grammar.specs.Values.{id_of}
use Rattle.wap_grammar.specs.Spellings.{Spelling, token, name, sign, Several, AreListed}
use Rattle.wap_grammar.specs.Expressions.{Expressions, IsExpression}

-- a variable, and what it begins with if that is said
pub data IsDeclaration (src : List ℕ) (Inner : Expressions) : List Lexeme → Id × Option Expr →
    List Lexeme → Type 0 where
  plain : (v : Span) (x : List Lexeme) → IsDeclaration src Inner (name v ∷ x) (id_of src v, None) x
  valued : (v equals : Span) (x y : List Lexeme) (e : Expr) → Inner ASSIGNMENT x e y →
      IsDeclaration src Inner (name v ∷ token (Assign None) equals ∷ x) (id_of src v, Some e) y

-- an expression or none, and the sign after it
pub data IsOptional (Inner : Expressions) (s : Sign) : List Lexeme → Option Expr → List Lexeme →
    Type 0 where
  none : (span : Span) (x : List Lexeme) → IsOptional Inner s (sign s span ∷ x) None x
  some : (span : Span) (x y : List Lexeme) (e : Expr) → Inner COMMA x e (sign s span ∷ y) →
      IsOptional Inner s x (Some e) y

-- the statement that an expression is which may be missing
abbrev pub done_first : Option Expr → Stmt
done_first None = stmt.Empty
done_first (Some e) = stmt.Expr e

-- what is done first in `for`, and the `;` after it
pub data IsInitial (src : List ℕ) (Inner : Expressions) : List Lexeme → Stmt → List Lexeme →
    Type 0 where
  expression : (x y : List Lexeme) (e : Option Expr) → IsOptional Inner Semicolon x e y →
      IsInitial src Inner x (done_first e) y
  variables : (var end : Span) (x y : List Lexeme) (ds : List (Id × Option Expr)) →
      AreListed (IsDeclaration src Inner) x ds (sign Semicolon end ∷ y) →
      IsInitial src Inner (sign Var var ∷ x) (stmt.Vars ds) y

-- a condition in parentheses
pub data IsCondition (Inner : Expressions) : List Lexeme → Expr → List Lexeme → Type 0 where
  condition : (left right : Span) (x y : List Lexeme) (e : Expr) →
      Inner COMMA x e (sign Close right ∷ y) →
      IsCondition Inner (sign Open left ∷ x) e y

-- what is done else, if that is said. An `else` belongs to the last `if` that it may belong to, so
-- none stands where nothing is said.
pub data IsElse (Statement : Spelling Stmt) : List Lexeme → Option Stmt → List Lexeme →
    Type 0 where
  without : (x : List Lexeme) → is_sign Else (word_of x) ≡ false → IsElse Statement x None x
  with_else : (other : Span) (x y : List Lexeme) (s : Stmt) → Statement x s y →
      IsElse Statement (sign Else other ∷ x) (Some s) y

-- a statement with such statements in it
pub data IsStatementOf (src : List ℕ) (Inner : Expressions)
    (Statement : Spelling Stmt) : List Lexeme → Stmt → List Lexeme → Type 0 where
  empty : (end : Span) (x : List Lexeme) → IsStatementOf src Inner Statement
      (sign Semicolon end ∷ x) stmt.Empty x
  expression : (end : Span) (x y : List Lexeme) (e : Expr) →
      Inner COMMA x e (sign Semicolon end ∷ y) →
      IsStatementOf src Inner Statement x (stmt.Expr e) y
  block : (left right : Span) (x y : List Lexeme) (ss : List Stmt) →
      Several Statement x ss (sign CloseBlock right ∷ y) →
      IsStatementOf src Inner Statement (sign OpenBlock left ∷ x) (stmt.Block ss) y
  variables : (var end : Span) (x y : List Lexeme) (ds : List (Id × Option Expr)) →
      AreListed (IsDeclaration src Inner) x ds (sign Semicolon end ∷ y) →
      IsStatementOf src Inner Statement (sign Var var ∷ x) (stmt.Vars ds) y
  if_ : (word : Span) (x y z u : List Lexeme) (c : Expr) (s : Stmt) (other : Option Stmt) →
      IsCondition Inner x c y → Statement y s z → IsElse Statement z other u →
      IsStatementOf src Inner Statement (sign If word ∷ x) (stmt.If c s other) u
  while : (word : Span) (x y z : List Lexeme) (c : Expr) (s : Stmt) → IsCondition Inner x c y →
      Statement y s z →
      IsStatementOf src Inner Statement (sign While word ∷ x) (stmt.While c s) z
  for : (word left : Span) (x y z u v : List Lexeme) (first s : Stmt) (c update : Option Expr) →
      IsInitial src Inner x first y → IsOptional Inner Semicolon y c z →
      IsOptional Inner Close z update u →
      Statement u s v → IsStatementOf src Inner Statement (sign For word ∷ sign Open left ∷ x)
      (stmt.For first c update s) v
  break : (word end : Span) (x : List Lexeme) →
      IsStatementOf src Inner Statement (sign Break word ∷ sign Semicolon end ∷ x)
      (stmt.Break word) x
  continue : (word end : Span) (x : List Lexeme) →
      IsStatementOf src Inner Statement (sign Continue word ∷ sign Semicolon end ∷ x)
      (stmt.Continue word) x
  return : (word : Span) (x y : List Lexeme) (e : Option Expr) → IsOptional Inner Semicolon x e y →
      IsStatementOf src Inner Statement (sign Return word ∷ x) (stmt.Return e) y

-- a statement that spans so many levels at most
unfoldable pub IsStatement : List ℕ → ℕ → Spelling Stmt
IsStatement src zero x s y = ⊥
IsStatement src (suc levels) x s y = IsStatementOf src (IsExpression src levels)
    (IsStatement src levels) x s y
