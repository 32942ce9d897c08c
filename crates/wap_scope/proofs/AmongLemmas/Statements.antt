-- What a statement says stands among the tokens that spell it.
use Rattle.std.proofs.Common.{◌≡◌, ℕ, zero, suc, Bool, true, List, ◌∷◌, Option, Some, None}
use Rattle.wap_grammar.specs.declared.program.program.Span.{Span}
use Rattle.wap_grammar.specs.declared.program.program.Id.{Id}
use Rattle.wap_grammar.specs.declared.program.expression.Expr.{Expr}
use Rattle.wap_grammar.specs.declared.program.statement.Stmt.{Stmt}
use Rattle.wap_grammar.specs.declared.program.statement.Stmt.TheVariants as stmt
use Rattle.wap_grammar.specs.declared.lexeme.Lexeme.{Lexeme}
use Rattle.wap_grammar.specs.declared.precedence.TheConstants.{ASSIGNMENT, COMMA}
use Rattle.wap_grammar.specs.declared.word.Word.TheVariants as word
use Rattle.wap_grammar.specs.declared.word.Sign.{Sign}
use Rattle.wap_grammar.specs.declared.word.Sign.TheVariants as signs
use Rattle.wap_grammar.specs.Spellings.{Spelling, sign, AreListed}
use Rattle.wap_grammar.specs.Expressions.{Expressions, IsExpression}
use Rattle.wap_grammar.specs.Statements.{IsDeclaration, IsOptional, done_first, IsInitial}
use Rattle.wap_grammar.specs.Statements.{IsCondition, IsElse, IsStatementOf, IsStatement}
use Rattle.wap_grammar.specs.Statements as stated
use Rattle.wap_scope.specs.Among.{StandAmong, no_more}
use Rattle.wap_scope.proofs.AmongLemmas.Rows.{over, in_a_row, same, past, Finds, several, listed}
use Rattle.wap_scope.proofs.AmongLemmas.Sayings.{Sayings, if_there, declaring}
use Rattle.wap_scope.proofs.AmongLemmas.Expressions.{finds_expression}

module _ {X : Type 0} {src : List ℕ} {At : Lexeme → X → Type 0} (says : Sayings src At) where
  abbrev declared : Id × Option Expr → List X
  declared = declaring says.variable says.expression

  first_says : (inside : Bool) (e : Option Expr) →
      says.statement inside (done_first e) ≡ if_there says.expression e
  first_says inside None = says.of_empty inside
  first_says inside (Some e) = says.of_value inside e

  module _ (Inner : Expressions)
      (inner : (level : ℕ) → Finds At says.expression (Inner level)) where
    finds_declaration : Finds At declared (IsDeclaration src Inner)
    finds_declaration x' d y (stated.plain v x) = in_a_row (says.at_variable v y) (no_more y)
    finds_declaration x' d y (stated.valued v equals x y' e is) =
        in_a_row (says.at_variable v _) (over (inner ASSIGNMENT x e y is))

    finds_optional : (s : Sign) → Finds At (if_there says.expression) (IsOptional Inner s)
    finds_optional s x' e' y (stated.none span x) = over (no_more y)
    finds_optional s x e' y (stated.some span x' y' e is) = past (inner COMMA x e _ is)

    finds_condition : Finds At says.expression (IsCondition Inner)
    finds_condition x' e' y (stated.condition left right x y' e is) =
        over (past (inner COMMA x e _ is))

    -- variables, after the word `var` and up to the sign after them
    finds_variables : (inside : Bool) (var end : Span) (x y : List Lexeme)
        (ds : List (Id × Option Expr)) →
        AreListed (IsDeclaration src Inner) x ds (sign signs.Semicolon end ∷ y) →
        StandAmong At (sign signs.Var var ∷ x) (says.statement inside (stmt.Vars ds)) y
    finds_variables inside var end x y ds is =
        same (says.of_variables inside ds) (over (past
        (listed At declared (IsDeclaration src Inner) finds_declaration x ds _ is)))

    finds_initial : (inside : Bool) → Finds At (says.statement inside) (IsInitial src Inner)
    finds_initial inside x s y (stated.IsInitial.expression x' y' e is) =
        same (first_says inside e) (finds_optional signs.Semicolon x e y is)
    finds_initial inside x' s y (stated.IsInitial.variables var end x y' ds is) =
        finds_variables inside var end x y ds is

    module _ (Statement : Spelling Stmt)
        (statement : (inside : Bool) → Finds At (says.statement inside) Statement) where
      finds_else : (inside : Bool) →
          Finds At (if_there (says.statement inside)) (IsElse Statement)
      finds_else inside x s y (stated.without x' is) = no_more x
      finds_else inside x' s' y (stated.with_else other x y' s is) =
          over (statement inside x s y is)

      finds_statement_of : (inside : Bool) →
          Finds At (says.statement inside) (IsStatementOf src Inner Statement)
      finds_statement_of inside x' s y (stated.empty end x) =
          over (same (says.of_empty inside) (no_more y))
      finds_statement_of inside x s y (stated.IsStatementOf.expression end x' y' e is) =
          same (says.of_value inside e) (past (inner COMMA x e _ is))
      finds_statement_of inside x' s y (stated.block left right x y' ss is) =
          over (same (says.of_block inside ss)
          (past (several At (says.statement inside) Statement (statement inside) x ss _ is)))
      finds_statement_of inside x' s y (stated.IsStatementOf.variables var end x y' ds is) =
          finds_variables inside var end x y ds is
      finds_statement_of inside x' s' u (stated.if_ word x y z u' c s other first second third) =
          over (same (says.of_if inside c s other) (in_a_row (finds_condition x c y first)
          (in_a_row (statement inside y s z second) (finds_else inside z other u third))))
      finds_statement_of inside x' s' z (stated.while word x y z' c s first second) =
          over (same (says.of_while inside c s)
          (in_a_row (finds_condition x c y first) (statement true y s z second)))
      finds_statement_of inside x' s' v (stated.for word left x y z u v' first s c update begins
          tests updates repeats) =
          over (over (same (says.of_for inside first c update s)
          (in_a_row (finds_initial inside x first y begins)
          (in_a_row (finds_optional signs.Semicolon y c z tests)
          (in_a_row (finds_optional signs.Close z update u updates)
          (statement true u s v repeats))))))
      finds_statement_of inside x' s y (stated.break at end x) =
          same (says.of_break inside at) (past (says.at_jump (word.Sign signs.Break) at _))
      finds_statement_of inside x' s y (stated.continue at end x) =
          same (says.of_continue inside at) (past (says.at_jump (word.Sign signs.Continue) at _))
      finds_statement_of inside x' s y (stated.return word x y' e is) =
          over (same (says.of_return inside e) (finds_optional signs.Semicolon x e y is))

  pub finds_statement : (levels : ℕ) (inside : Bool) →
      Finds At (says.statement inside) (IsStatement src levels)
  unfolding IsStatement
  finds_statement zero inside x s y is = absurd is
  finds_statement (suc levels) inside x s y is =
      finds_statement_of (IsExpression src levels) (finds_expression says levels)
      (IsStatement src levels) (finds_statement levels) inside x s y is
