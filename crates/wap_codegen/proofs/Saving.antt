-- What statements save, by what they are and by their parts.
use Rattle.std.proofs.Common.{◌≡◌, ℕ, List, ap, ◌∙◌, sym}
use Rattle.std.specs.List.{sum_by}
use Rattle.std.proofs.lemmas.List.Sums.{sum-map}
use Rattle.wap_grammar.specs.declared.program.expression.Expr.{Expr, roll-Expr, out-Expr}
use Rattle.wap_grammar.specs.declared.program.expression.Expr.{out-roll-Expr}
use Rattle.wap_grammar.specs.declared.program.expression.Expr.TheOpen.{Expr-F}
use Rattle.wap_grammar.specs.declared.program.statement.Stmt.{Stmt, roll-Stmt, map-Stmt}
use Rattle.wap_grammar.specs.declared.program.statement.Stmt.TheOpen.{Stmt-F}
use Rattle.wap_grammar.specs.declared.program.statement.Stmt.TheFolds.{fold-roll-Stmt}
use Rattle.wap_grammar.specs.declared.program.statement.Stmt.TheVariants as stmt
use Rattle.wap_meaning.specs.compiled.Savings.{effect_saves, stmt_saves_by, stmt_saves}

-- ---- expressions as statements

module _ (e : Expr) where
  -- what it saves as a statement
  abbrev saved : ℕ
  saved = effect_saves (out-Expr e)

  -- by what an expression is
  pub by_form : (form : Expr-F Expr) {other : Expr} → roll-Expr form ≡ other → e ≡ other
      → saved ≡ effect_saves form
  by_form form rolls is = ap effect_saves (ap out-Expr (is ∙ sym rolls) ∙ out-roll-Expr form)

-- ---- statements

module _ (s : Stmt) where
  -- what statements save in it
  abbrev inner : ℕ
  inner = stmt_saves s

  -- by what a statement is
  pub by_statement : (form : Stmt-F Stmt) {other : Stmt} → roll-Stmt form ≡ other → s ≡ other
      → inner ≡ stmt_saves_by (map-Stmt Stmt ℕ stmt_saves form)
  unfolding stmt_saves
  by_statement form rolls is =
      ap stmt_saves (is ∙ sym rolls) ∙ fold-roll-Stmt ℕ stmt_saves_by form

  -- a block saves what its statements do
  pub of_block : (ss : List Stmt) → s ≡ stmt.Block ss → inner ≡ sum_by stmt_saves ss
  of_block ss is = by_statement _ (stmt.rolls-Block ss) is ∙ sum-map stmt_saves ss
