-- The code of statements, by their parts.
use Rattle.std.proofs.Common.{◌≡◌, Option, Some, None, sym, ap, ◌∙◌}
use Rattle.wap_unit.specs.declared.row.OpName.TheVariants as op
use Rattle.wap_grammar.specs.declared.program.program.Id.{Id}
use Rattle.wap_grammar.specs.declared.program.expression.Expr.{Expr}
use Rattle.wap_grammar.specs.declared.program.statement.Stmt.{Stmt, roll-Stmt, map-Stmt}
use Rattle.wap_grammar.specs.declared.program.statement.Stmt.TheOpen.{Stmt-F}
use Rattle.wap_grammar.specs.declared.program.statement.Stmt.TheFolds.{fold-roll-Stmt}
use Rattle.wap_grammar.specs.declared.program.statement.Stmt.TheVariants as stmt
use Rattle.wap_meaning.specs.coding.Coded.{Coded, ◌⨾◌, plain}
use Rattle.wap_meaning.specs.coding.Constants.{Numbers}
use Rattle.wap_meaning.specs.coding.Expressions.{expr_code, store_code}
use Rattle.wap_meaning.specs.Names.{variable_at}
use Rattle.wap_meaning.specs.coding.Statements.{stmt_code, stmt_code_by, declared_code, loop_code}
use Rattle.wap_meaning.specs.coding.Statements.{test_code, update_code}

module _ (numbers : Numbers) where
  abbrev code : Stmt → Coded
  code = stmt_code numbers

  -- the code of a statement, by its form
  pub by_form : (x : Stmt-F Stmt) {s : Stmt} → roll-Stmt x ≡ s
      → code s ≡ stmt_code_by numbers (map-Stmt Stmt Coded code x)
  unfolding stmt_code
  by_form x is = ap code (sym is) ∙ fold-roll-Stmt Coded (stmt_code_by numbers) x

  -- a `for` whose parts are equal to those of another
  pub of_same_for : (first other : Stmt) (c d update again : Option Expr) (s t : Stmt)
      → first ≡ other → c ≡ d → update ≡ again → s ≡ t
      → code first ⨾ loop_code (test_code numbers c) (code s) (update_code numbers update)
      ≡ code (stmt.For other d again t)
  of_same_for first other c d update again s t firsts conditions updates bodies =
      ap (λ (x : Stmt).
      code x ⨾ loop_code (test_code numbers c) (code s) (update_code numbers update)) firsts
      ∙ ap (λ (x : Option Expr).
      code other ⨾ loop_code (test_code numbers x) (code s) (update_code numbers update)) conditions
      ∙ ap (λ (x : Option Expr).
      code other ⨾ loop_code (test_code numbers d) (code s) (update_code numbers x)) updates
      ∙ ap (λ (x : Stmt).
      code other ⨾ loop_code (test_code numbers d) (code x) (update_code numbers again)) bodies
      ∙ sym (by_form _ (stmt.rolls-For other d again t))

  -- ---- declarations

  pub declared_none : (pair : Id × Option Expr) → pair.1 ≡ None
      → declared_code numbers pair
      ≡ plain op.ConstEs ⨾ store_code (variable_at numbers.names pair.0)
  declared_none (v, o) is = ap (λ (o : Option Expr). declared_code numbers (v, o)) is

  pub declared_some : (pair : Id × Option Expr) (e : Expr) → pair.1 ≡ Some e
      → declared_code numbers pair
      ≡ expr_code numbers e ⨾ store_code (variable_at numbers.names pair.0)
  declared_some (v, o) e is = ap (λ (o : Option Expr). declared_code numbers (v, o)) is
