-- What the parts of a program say, by what their own parts say, and at which tokens it stands.
use Rattle.std.proofs.Common.{◌≡◌, ℕ, Bool, true, List, [], ◌∷◌, ◌++◌, length, Option, Some, None}
use Rattle.std.specs.List.{flat_map}
use Rattle.wap_value.specs.declared.operator.BinOp.{BinOp}
use Rattle.wap_value.specs.declared.operator.UnOp.{UnOp}
use Rattle.wap_grammar.specs.declared.program.program.Span.{Span}
use Rattle.wap_grammar.specs.declared.program.program.Id.{Id}
use Rattle.wap_grammar.specs.declared.program.expression.Literal.{Literal}
use Rattle.wap_grammar.specs.declared.program.expression.Expr.{Expr}
use Rattle.wap_grammar.specs.declared.program.expression.Expr.TheVariants as expr
use Rattle.wap_grammar.specs.declared.program.statement.Stmt.{Stmt}
use Rattle.wap_grammar.specs.declared.program.statement.Stmt.TheVariants as stmt
use Rattle.wap_grammar.specs.declared.callee.Callee.{Callee}
use Rattle.wap_grammar.specs.declared.lexeme.Lexeme.{Lexeme}
use Rattle.wap_grammar.specs.declared.word.Word.{Word}
use Rattle.wap_grammar.specs.declared.word.Word.TheVariants.{Assign}
use Rattle.wap_grammar.specs.Values.{id_of, literal_of, called}
use Rattle.wap_grammar.specs.Spellings.{token, name}
use Rattle.wap_grammar.specs.Expressions.{IsCallee}
use Rattle.wap_scope.specs.Among.{StandAmong}
use Rattle.wap_scope.proofs.AmongLemmas.Rows.{Finds}

-- what a part says that may be missing
abbrev pub if_there : {A X : Type 0} → (A → List X) → Option A → List X
if_there of None = []
if_there of (Some part) = of part

-- what a declaration says, by what its variable and its value say
abbrev pub declaring : {X : Type 0} → (Id → List X) → (Expr → List X) → Id × Option Expr → List X
declaring variable expression pair = variable pair.0 ++ if_there expression pair.1

pub record Sayings {X : Type 0} (src : List ℕ) (At : Lexeme → X → Type 0) : Type 0 where
  -- what is said: a statement may stand in a loop
  pub variable : Id → List X
  pub operator : Option BinOp → List X
  pub literal : Literal → List X
  pub callee : ℕ → Callee → List X
  pub jump : Span → List X
  pub expression : Expr → List X
  pub statement : Bool → Stmt → List X
  -- at which tokens
  pub at_variable : (v : Span) (x : List Lexeme) →
      StandAmong At (name v ∷ x) (variable (id_of src v)) x
  pub at_operator : (o : Option BinOp) (span : Span) (x : List Lexeme) →
      StandAmong At (token (Assign o) span ∷ x) (operator o) x
  pub at_literal : (w : Word) (span : Span) (l : Literal) (x : List Lexeme) →
      literal_of src span w ≡ Some l → StandAmong At (token w span ∷ x) (literal l) x
  pub at_callee : (count : ℕ) → Finds At (callee count) (IsCallee src)
  pub at_jump : (w : Word) (word : Span) (x : List Lexeme) →
      StandAmong At (token w word ∷ x) (jump word) x
  -- expressions
  pub of_literal : (l : Literal) → expression (expr.Lit l) ≡ literal l
  pub of_variable : (v : Id) → expression (expr.Var v) ≡ variable v
  pub of_step : (v : Id) (up before : Bool) → expression (expr.Step v up before) ≡ variable v
  pub of_assignment : (v : Id) (o : Option BinOp) (e : Expr) →
      expression (expr.Assign v o e) ≡ variable v ++ (operator o ++ expression e)
  pub of_unary : (o : UnOp) (e : Expr) → expression (expr.Unary o e) ≡ expression e
  pub of_chain : (e : Expr) (pairs : List (BinOp × Expr)) → expression (expr.Chain e pairs)
      ≡ expression e ++ flat_map (λ (pair : BinOp × Expr). expression pair.1) pairs
  pub of_choice : (c first second : Expr) → expression (expr.Cond c first second)
      ≡ expression c ++ (expression first ++ expression second)
  pub of_call : (f : Callee) (es : List Expr) → expression (called f es)
      ≡ callee (length es) f ++ flat_map expression es
  -- statements
  pub of_empty : (inside : Bool) → statement inside stmt.Empty ≡ []
  pub of_value : (inside : Bool) (e : Expr) → statement inside (stmt.Expr e) ≡ expression e
  pub of_block : (inside : Bool) (ss : List Stmt) → statement inside (stmt.Block ss)
      ≡ flat_map (statement inside) ss
  pub of_variables : (inside : Bool) (pairs : List (Id × Option Expr)) →
      statement inside (stmt.Vars pairs) ≡ flat_map (declaring variable expression) pairs
  pub of_if : (inside : Bool) (c : Expr) (s : Stmt) (other : Option Stmt) →
      statement inside (stmt.If c s other)
      ≡ expression c ++ (statement inside s ++ if_there (statement inside) other)
  pub of_while : (inside : Bool) (c : Expr) (s : Stmt) → statement inside (stmt.While c s)
      ≡ expression c ++ statement true s
  pub of_for : (inside : Bool) (first : Stmt) (c update : Option Expr) (s : Stmt) →
      statement inside (stmt.For first c update s) ≡ statement inside first
      ++ (if_there expression c ++ (if_there expression update ++ statement true s))
  pub of_break : (inside : Bool) (word : Span) → statement inside (stmt.Break word) ≡ jump word
  pub of_continue : (inside : Bool) (word : Span) →
      statement inside (stmt.Continue word) ≡ jump word
  pub of_return : (inside : Bool) (e : Option Expr) →
      statement inside (stmt.Return e) ≡ if_there expression e
