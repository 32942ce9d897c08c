-- Which variables expressions write, by their parts.
use Rattle.std.proofs.Common.{◌≡◌, ℕ, Bool, ◌||◌, List, [], ◌∷◌, map, refl, sym, ap, ◌∙◌}
use Rattle.std.specs.List.{list_any}
use Rattle.wap_value.specs.declared.operator.BinOp.{BinOp}
use Rattle.wap_grammar.specs.declared.program.program.Id.{Id}
use Rattle.wap_grammar.specs.declared.program.expression.Expr.{Expr, roll-Expr, map-Expr}
use Rattle.wap_grammar.specs.declared.program.expression.Expr.TheOpen.{Expr-F}
use Rattle.wap_grammar.specs.declared.program.expression.Expr.TheFolds.{fold-roll-Expr}
use Rattle.wap_grammar.specs.declared.program.expression.Expr.TheVariants as expr
use Rattle.wap_meaning.specs.Names.{Names}
use Rattle.wap_meaning.specs.coding.Statements.{writes, writes_by}

any_mapped : {X Y : Type 0} (f : X → Y) (test : Y → Bool) (xs : List X) →
    list_any test (map f xs) ≡ list_any (λ x. test (f x)) xs
any_mapped f test [] = refl
any_mapped f test (x ∷ xs) = ap (λ rest. test (f x) || rest) (any_mapped f test xs)

module _ (names : Names) (index : ℕ) where
  abbrev at : (ℕ → Bool) → Bool
  at w = w index

  abbrev does : Expr → Bool
  does e = writes names e index

  -- whether an expression writes the variable, by its form
  pub by_form : (x : Expr-F Expr) {e : Expr} → roll-Expr x ≡ e
      → does e ≡ writes_by names (map-Expr Expr (ℕ → Bool) (writes names) x) index
  unfolding writes
  by_form x is = ap does (sym is) ∙ ap at (fold-roll-Expr (ℕ → Bool) (writes_by names) x)

  pub of_chain : (e : Expr) (operands : List (BinOp × Expr)) → does (expr.Chain e operands)
      ≡ (does e || list_any (λ operand. does operand.1) operands)
  of_chain e operands = by_form _ (expr.rolls-Chain e operands)
      ∙ ap (λ rest. does e || rest)
      (any_mapped (λ (operand : BinOp × Expr). (operand.0, writes names operand.1))
      (λ (operand : BinOp × (ℕ → Bool)). operand.1 index) operands)

  pub of_local : (f : Id) (es : List Expr) → does (expr.Call f es) ≡ list_any does es
  of_local f es = by_form _ (expr.rolls-Call f es) ∙ any_mapped (writes names) at es

  pub of_external : (unit f : Id) (es : List Expr) →
      does (expr.External unit f es) ≡ list_any does es
  of_external unit f es =
      by_form _ (expr.rolls-External unit f es) ∙ any_mapped (writes names) at es

  pub of_library : (l f : Id) (es : List Expr) → does (expr.Library l f es) ≡ list_any does es
  of_library l f es = by_form _ (expr.rolls-Library l f es) ∙ any_mapped (writes names) at es
