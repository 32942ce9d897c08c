-- What expressions and statements name, by their parts.
use Rattle.std.proofs.Common.{◌≡◌, ℕ, Bool, true, List, [], ◌∷◌, ◌++◌, length, map}
use Rattle.std.proofs.Common.{Option, Some, None, sym, ap, ◌∙◌}
use Rattle.std.specs.List.{flat_map}
use Rattle.std.proofs.lemmas.List.{length-map}
use Rattle.std.proofs.lemmas.List.Folds.{flat_map-map}
use Rattle.wap_value.specs.declared.operator.BinOp.{BinOp}
use Rattle.wap_value.specs.declared.operator.UnOp.{UnOp}
use Rattle.wap_grammar.specs.declared.program.program.Span.{Span}
use Rattle.wap_grammar.specs.declared.program.program.Id.{Id}
use Rattle.wap_grammar.specs.declared.program.expression.Literal.{Literal}
use Rattle.wap_grammar.specs.declared.program.expression.Expr.{Expr, roll-Expr, map-Expr}
use Rattle.wap_grammar.specs.declared.program.expression.Expr.TheOpen.{Expr-F}
use Rattle.wap_grammar.specs.declared.program.expression.Expr.TheFolds.{fold-roll-Expr}
use Rattle.wap_grammar.specs.declared.program.expression.Expr.TheVariants as expr
use Rattle.wap_grammar.specs.declared.program.statement.Stmt.{Stmt, roll-Stmt, map-Stmt}
use Rattle.wap_grammar.specs.declared.program.statement.Stmt.TheOpen.{Stmt-F}
use Rattle.wap_grammar.specs.declared.program.statement.Stmt.TheFolds.{fold-roll-Stmt}
use Rattle.wap_grammar.specs.declared.program.statement.Stmt.TheVariants as stmt
use Rattle.wap_scope.specs.Names.{Reference, Variable, Local, External, Library}
use Rattle.wap_scope.specs.Names.{references_by, references, Mention, Jumps, refers}
use Rattle.wap_scope.specs.Names.{refers_if, declares, mentions_by, mentions}

-- ---- expressions

-- what an expression names, by its form
by_form : (x : Expr-F Expr) (e : Expr) → roll-Expr x ≡ e →
    references e ≡ references_by (map-Expr Expr (List Reference) references x)
unfolding references
by_form x e is = ap references (sym is) ∙ fold-roll-Expr (List Reference) references_by x

pub of_literal : (l : Literal) → references (expr.Lit l) ≡ []
of_literal l = by_form _ _ (expr.rolls-Lit l)

pub of_variable : (v : Id) → references (expr.Var v) ≡ Variable v ∷ []
of_variable v = by_form _ _ (expr.rolls-Var v)

pub of_assignment : (v : Id) (o : Option BinOp) (e : Expr) →
    references (expr.Assign v o e) ≡ Variable v ∷ references e
of_assignment v o e = by_form _ _ (expr.rolls-Assign v o e)

pub of_step : (v : Id) (up before : Bool) → references (expr.Step v up before) ≡ Variable v ∷ []
of_step v up before = by_form _ _ (expr.rolls-Step v up before)

pub of_unary : (o : UnOp) (e : Expr) → references (expr.Unary o e) ≡ references e
of_unary o e = by_form _ _ (expr.rolls-Unary o e)

pub of_chain : (e : Expr) (pairs : List (BinOp × Expr)) →
    references (expr.Chain e pairs)
    ≡ references e ++ flat_map (λ pair. references pair.1) pairs
of_chain e pairs = by_form _ _ (expr.rolls-Chain e pairs)
    ∙ ap (λ rest. references e ++ rest)
    (flat_map-map (λ (pair : BinOp × List Reference). pair.1)
    (λ (pair : BinOp × Expr). (pair.0, references pair.1)) pairs)

pub of_choice : (c first second : Expr) → references (expr.Cond c first second)
    ≡ references c ++ (references first ++ references second)
of_choice c first second = by_form _ _ (expr.rolls-Cond c first second)

called : (make : ℕ → Reference) (es : List Expr) →
    make (length (map references es)) ∷ flat_map (λ e. e) (map references es)
    ≡ make (length es) ∷ flat_map references es
called make es =
    ap (λ count. make count ∷ flat_map (λ e. e) (map references es)) (length-map es references)
    ∙ ap (λ rest. make (length es) ∷ rest) (flat_map-map (λ (e : List Reference). e) references es)

pub of_local : (f : Id) (es : List Expr) →
    references (expr.Call f es) ≡ Local f (length es) ∷ flat_map references es
of_local f es = by_form _ _ (expr.rolls-Call f es) ∙ called (Local f) es

pub of_external : (unit f : Id) (es : List Expr) → references (expr.External unit f es)
    ≡ External unit f (length es) ∷ flat_map references es
of_external unit f es = by_form _ _ (expr.rolls-External unit f es) ∙ called (External unit f) es

pub of_library : (library f : Id) (es : List Expr) → references (expr.Library library f es)
    ≡ Library library f (length es) ∷ flat_map references es
of_library library f es =
    by_form _ _ (expr.rolls-Library library f es) ∙ called (Library library f) es

-- ---- statements

module _ (inside : Bool) where
  -- what a statement says, by its form
  by_statement : (x : Stmt-F Stmt) (s : Stmt) → roll-Stmt x ≡ s →
      mentions s inside ≡ mentions_by (map-Stmt Stmt (Bool → List Mention) mentions x) inside
  unfolding mentions
  by_statement x s is = ap (λ (says : Bool → List Mention). says inside)
      (ap mentions (sym is) ∙ fold-roll-Stmt (Bool → List Mention) mentions_by x)

  pub of_empty : mentions stmt.Empty inside ≡ []
  of_empty = by_statement _ _ stmt.rolls-Empty

  pub of_value : (e : Expr) → mentions (stmt.Expr e) inside ≡ refers e
  of_value e = by_statement _ _ (stmt.rolls-Expr e)

  pub of_block : (ss : List Stmt) → mentions (stmt.Block ss) inside
      ≡ flat_map (λ s. mentions s inside) ss
  of_block ss = by_statement _ _ (stmt.rolls-Block ss)
      ∙ flat_map-map (λ (says : Bool → List Mention). says inside) mentions ss

  pub of_variables : (pairs : List (Id × Option Expr)) →
      mentions (stmt.Vars pairs) inside ≡ flat_map declares pairs
  of_variables pairs = by_statement _ _ (stmt.rolls-Vars pairs)

  pub of_if : (c : Expr) (s : Stmt) →
      mentions (stmt.If c s None) inside ≡ refers c ++ (mentions s inside ++ [])
  of_if c s = by_statement _ _ (stmt.rolls-If c s None)

  pub of_else : (c : Expr) (s other : Stmt) → mentions (stmt.If c s (Some other)) inside
      ≡ refers c ++ (mentions s inside ++ mentions other inside)
  of_else c s other = by_statement _ _ (stmt.rolls-If c s (Some other))

  pub of_while : (c : Expr) (s : Stmt) → mentions (stmt.While c s) inside
      ≡ refers c ++ mentions s true
  of_while c s = by_statement _ _ (stmt.rolls-While c s)

  pub of_for : (first : Stmt) (c update : Option Expr) (s : Stmt) →
      mentions (stmt.For first c update s) inside
      ≡ mentions first inside ++ (refers_if c ++ (refers_if update ++ mentions s true))
  of_for first c update s = by_statement _ _ (stmt.rolls-For first c update s)

  pub of_break : (word : Span) → mentions (stmt.Break word) inside ≡ Jumps word inside ∷ []
  of_break word = by_statement _ _ (stmt.rolls-Break word)

  pub of_continue : (word : Span) → mentions (stmt.Continue word) inside ≡ Jumps word inside ∷ []
  of_continue word = by_statement _ _ (stmt.rolls-Continue word)

  pub of_return : (e : Option Expr) → mentions (stmt.Return e) inside ≡ refers_if e
  of_return e = by_statement _ _ (stmt.rolls-Return e)
