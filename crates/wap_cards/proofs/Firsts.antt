-- The active dos of a card, and the first of a name.
use Rattle.std.proofs.Common.{◌≡◌, Bool, cond, List, [], ◌∷◌, ◌++◌, filter, Option, Some, None}
use Rattle.std.proofs.Common.{refl, sym, ap, ◌∙◌}
use Rattle.std.specs.Prelude.{find}
use Rattle.std.specs.Option.{option_or}
use Rattle.std.proofs.lemmas.List.Elements.{filter-append}
use Rattle.std.proofs.lemmas.List.Folds.{find-append}
use Rattle.wap_tokens.specs.declared.markup.deck.Node.{Node}

module _ (same active : Node → Bool) (own others : List Node) where
  both : find same (filter active (own ++ others))
      ≡ option_or (find same (filter active own)) (find same (filter active others))
  both =
      ap (find same) (filter-append active own others)
      ∙ find-append same (filter active own) (filter active others)

  -- one of the card is the first of all
  pub found_own : (found : Node) → Some found ≡ find same (filter active own)
      → Some found ≡ find same (filter active (own ++ others))
  found_own found is =
      ap (λ (first : Option Node). option_or first (find same (filter active others))) is
      ∙ sym both

  -- without one, it is the first of the others
  pub found_later : None ≡ find same (filter active own)
      → find same (filter active others) ≡ find same (filter active (own ++ others))
  found_later is =
      ap (λ (first : Option Node). option_or first (find same (filter active others))) is
      ∙ sym both

-- tests that say the same leave the same
pub filter_same : (one other : Node → Bool) → ((node : Node) → one node ≡ other node)
    → (nodes : List Node) → filter one nodes ≡ filter other nodes
filter_same one other same [] = refl
filter_same one other same (node ∷ nodes) =
    ap (λ (b : Bool). cond b (node ∷ filter one nodes) (filter one nodes)) (same node)
    ∙ ap (λ (l : List Node). cond (other node) (node ∷ l) l) (filter_same one other same nodes)
