-- The code of expressions that are statements, by what these are.
use Rattle.std.proofs.Common.{◌≡◌, Option, Some, refl, sym, ap, ◌∙◌}
use Rattle.wap_value.specs.declared.operator.BinOp.{BinOp}
use Rattle.wap_value.specs.declared.operator.BinOp.TheVariants as bin
use Rattle.wap_grammar.specs.declared.program.program.Id.{Id}
use Rattle.wap_grammar.specs.declared.program.expression.Expr.{Expr, roll-Expr, out-Expr}
use Rattle.wap_grammar.specs.declared.program.expression.Expr.{out-roll-Expr}
use Rattle.wap_grammar.specs.declared.program.expression.Expr.TheOpen.{Expr-F}
use Rattle.wap_grammar.specs.declared.program.expression.Expr.TheVariants as expr
use Rattle.wap_grammar.specs.declared.program.statement.Stmt.TheVariants as stmt
use Rattle.wap_meaning.specs.coding.Coded.{Coded}
use Rattle.wap_meaning.specs.coding.Constants.{Numbers}
use Rattle.wap_meaning.specs.coding.Expressions.{expr_code}
use Rattle.wap_meaning.specs.coding.Statements.{stmt_code, effect_code}
use Rattle.wap_meaning.specs.Names.{variable_at}
use Rattle.wap_codegen.specs.emission.inside.Loops.{assignment_code}
use Rattle.wap_codegen.proofs.EmissionLemmas.StatementParts.{by_form as by_statement}

-- the code of an assignment is chosen by its operator
named : (numbers : Numbers) (v : Id) (o : Option BinOp) (e : Expr) (whole : Coded)
    → assignment_code numbers (variable_at numbers.names v) o e whole
    ≡ effect_code numbers (Expr-F.Assign v o e) whole
named numbers v (Some bin.Add) e whole = refl
named numbers v (Some bin.Sub) e whole = refl
named numbers v _ e whole = refl

module _ (numbers : Numbers) (e : Expr) where
  -- an expression's own code
  abbrev whole : Coded
  whole = expr_code numbers e

  -- and its code as a statement
  abbrev effect : Coded
  effect = stmt_code numbers (stmt.Expr e)

  -- by what an expression is
  pub by_form : (form : Expr-F Expr) {other : Expr} → roll-Expr form ≡ other → e ≡ other
      → effect_code numbers form whole ≡ effect
  by_form form rolls is =
      ap (λ (form : Expr-F Expr). effect_code numbers form whole)
      (sym (ap out-Expr (is ∙ sym rolls) ∙ out-roll-Expr form))
      ∙ sym (by_statement numbers _ (stmt.rolls-Expr e))

  pub of_assignment : (v : Id) (o : Option BinOp) (right : Expr) → e ≡ expr.Assign v o right
      → assignment_code numbers (variable_at numbers.names v) o right whole ≡ effect
  of_assignment v o right is =
      named numbers v o right whole ∙ by_form _ (expr.rolls-Assign v o right) is
