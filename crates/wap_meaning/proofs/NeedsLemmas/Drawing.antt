-- Needs that are drawn from the tokens that spell what needs them.
use Rattle.std.proofs.Common.{ℕ, List}
use Rattle.std.specs.List.{flat_map}
use Rattle.wap_grammar.specs.Spellings.{Spelling, Several}
use Rattle.wap_scope.proofs.AmongLemmas.Rows.{Finds}
use Rattle.wap_scope.proofs.AmongLemmas.Rows as rows
use Rattle.wap_meaning.specs.coding.Needs.{Need}
use Rattle.wap_meaning.specs.needs.Drawn.{StandsFor}

module _ (src : List ℕ) where
  -- what an item needs is drawn from the tokens that spell it
  abbrev pub Draws : {A : Type 0} → (A → List Need) → Spelling A → Type 0
  Draws of Is = Finds (StandsFor src) of Is

  -- what items need, one after the other
  pub several : {A : Type 0} (of : A → List Need) (Is : Spelling A) → Draws of Is →
      Draws (flat_map of) (Several Is)
  several of Is draws = rows.several (StandsFor src) of Is draws
