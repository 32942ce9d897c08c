-- What a statement needs is drawn from the tokens that spell it.
use Rattle.std.proofs.Common.{◌≡◌, ℕ, false, List, [], ◌∷◌, ◌++◌, Option, Some, None, refl, length}
use Rattle.std.specs.List.{flat_map}
use Rattle.wap_value.specs.declared.operator.BinOp.{BinOp}
use Rattle.wap_grammar.specs.declared.program.program.Span.{Span}
use Rattle.wap_grammar.specs.declared.program.expression.Literal.{Literal}
use Rattle.wap_grammar.specs.declared.program.expression.Literal.TheVariants as literal
use Rattle.wap_grammar.specs.declared.program.expression.Expr.{Expr}
use Rattle.wap_grammar.specs.declared.program.expression.Expr.TheVariants as expr
use Rattle.wap_grammar.specs.declared.program.statement.Stmt.{Stmt}
use Rattle.wap_grammar.specs.declared.program.statement.Stmt.TheVariants as stmt
use Rattle.wap_grammar.specs.declared.callee.Callee.{Callee}
use Rattle.wap_grammar.specs.declared.callee.Callee.TheVariants as callee
use Rattle.wap_grammar.specs.declared.lexeme.Lexeme.{Lexeme}
use Rattle.wap_grammar.specs.declared.word.Word.{Word}
use Rattle.wap_grammar.specs.declared.word.Word.TheVariants.{Assign}
use Rattle.wap_grammar.specs.Values.{literal_of, called}
use Rattle.wap_grammar.specs.Spellings.{token}
use Rattle.wap_grammar.specs.Expressions.{IsCallee}
use Rattle.wap_grammar.specs.Expressions as expressed
use Rattle.wap_grammar.specs.Statements.{IsStatement}
use Rattle.wap_scope.proofs.AmongLemmas.Rows.{over, at}
use Rattle.wap_scope.proofs.AmongLemmas.Sayings.{Sayings}
use Rattle.wap_scope.proofs.AmongLemmas.Statements.{finds_statement}
use Rattle.wap_meaning.specs.coding.Needs.{Need, literal_needs, assign_needs}
use Rattle.wap_meaning.specs.coding.Needs.{expr_needs, stmt_needs}
use Rattle.wap_meaning.specs.coding.Needs as need
use Rattle.wap_meaning.specs.needs.Drawn.{StandsFor, Drawn, no_more}
use Rattle.wap_meaning.proofs.NeedsLemmas.Drawing.{Draws}
use Rattle.wap_meaning.proofs.NeedsLemmas.TreeNeeds.{by_form, of_chain, of_local, of_external}
use Rattle.wap_meaning.proofs.NeedsLemmas.TreeNeeds.{of_library, by_statement, of_block}

-- what a call with so many arguments needs
abbrev callee_needs : ℕ → Callee → List Need
callee_needs count (callee.Local f) = need.Local f count ∷ []
callee_needs count (callee.External unit f) = need.Other unit f ∷ []
callee_needs count (callee.Library library f) = need.Library library f count ∷ []

call_needs : (f : Callee) (es : List Expr) →
    expr_needs (called f es) ≡ callee_needs (length es) f ++ flat_map expr_needs es
call_needs (callee.Local f) es = of_local f es
call_needs (callee.External unit f) es = of_external unit f es
call_needs (callee.Library library f) es = of_library library f es

-- what a statement needs that may be missing
abbrev else_needs : Option Stmt → List Need
else_needs None = []
else_needs (Some s) = stmt_needs s

if_needs : (c : Expr) (s : Stmt) (other : Option Stmt) →
    stmt_needs (stmt.If c s other) ≡ expr_needs c ++ (stmt_needs s ++ else_needs other)
if_needs c s None = by_statement _ (stmt.rolls-If c s None)
if_needs c s (Some other) = by_statement _ (stmt.rolls-If c s (Some other))

module _ (src : List ℕ) where
  draws_callee : (count : ℕ) → Draws src (callee_needs count) (IsCallee src)
  draws_callee count x' f' x (expressed.local f x'') = at tt
  draws_callee count x' f' x (expressed.external unit hash f x'') = over (over (at (refl, refl)))
  draws_callee count x' f' x (expressed.library lib dot f x'') = over (over (at tt))

  -- a literal, from its token
  draws_literal : (w : Word) (span : Span) (l : Literal) (x : List Lexeme) →
      literal_of src span w ≡ Some l → Drawn src (token w span ∷ x) (literal_needs l) x
  draws_literal w span (literal.Int z) x is = at is
  draws_literal w span (literal.Str (c ∷ cs)) x is = at is
  draws_literal w span (literal.Str []) x is = over (no_more x)
  draws_literal w span _ x is = over (no_more x)

  -- the operator of an assignment, from its token
  draws_operator : (o : Option BinOp) (span : Span) (x : List Lexeme) →
      Drawn src (token (Assign o) span ∷ x) (assign_needs o) x
  draws_operator None span x = over (no_more x)
  draws_operator (Some o) span x = at refl

  -- what the parts of a program say by what they need
  abbrev needs_said : Sayings src (StandsFor src)
  needs_said = record {
    variable = λ v. need.Variable v ∷ [];
    operator = assign_needs;
    literal = literal_needs;
    callee = callee_needs;
    jump = λ word. [];
    expression = expr_needs;
    statement = λ inside. stmt_needs;
    at_variable = λ v x. at tt;
    at_operator = draws_operator;
    at_literal = draws_literal;
    at_callee = draws_callee;
    at_jump = λ w word x. over (no_more x);
    of_literal = λ l. by_form _ (expr.rolls-Lit l);
    of_variable = λ v. by_form _ (expr.rolls-Var v);
    of_step = λ v up before. by_form _ (expr.rolls-Step v up before);
    of_assignment = λ v o e. by_form _ (expr.rolls-Assign v o e);
    of_unary = λ o e. by_form _ (expr.rolls-Unary o e);
    of_chain = of_chain;
    of_choice = λ c first second. by_form _ (expr.rolls-Cond c first second);
    of_call = call_needs;
    of_empty = λ inside. by_statement _ stmt.rolls-Empty;
    of_value = λ inside e. by_statement _ (stmt.rolls-Expr e);
    of_block = λ inside. of_block;
    of_variables = λ inside pairs. by_statement _ (stmt.rolls-Vars pairs);
    of_if = λ inside. if_needs;
    of_while = λ inside c s. by_statement _ (stmt.rolls-While c s);
    of_for = λ inside first c update s. by_statement _ (stmt.rolls-For first c update s);
    of_break = λ inside word. by_statement _ (stmt.rolls-Break word);
    of_continue = λ inside word. by_statement _ (stmt.rolls-Continue word);
    of_return = λ inside e. by_statement _ (stmt.rolls-Return e);
  }

  pub draws_statement : (levels : ℕ) → Draws src stmt_needs (IsStatement src levels)
  draws_statement levels = finds_statement needs_said levels false
