-- What is done to the history keeps its last card one of the deck at hand.
use Rattle.std.proofs.Common.{◌≡◌, ◌∙◌, List, Option, Some, None, refl, sym, ap, subst}
use Rattle.std.specs.List.{last_or}
use Rattle.std.specs.Option.{option_to_list}
use Rattle.wap_tokens.specs.declared.markup.deck.Deck.{Deck}
use Rattle.wap_world.specs.declared.history.Entry.{Entry}
use Rattle.wap_state.specs.Standing.{StandsIn}

-- the last entry alone has that as its last
last_alone : (last : Option Entry) → last_or None (option_to_list last) ≡ last
last_alone None = refl
last_alone (Some entry) = refl

module _ (history after : List Entry) (deck : Option Deck) where
  -- a history that stays
  pub stands_same : after ≡ history → StandsIn (last_or None history) deck
      → StandsIn (last_or None after) deck
  stands_same is so = subst (λ (h : List Entry). StandsIn (last_or None h) deck) (sym is) so

  -- one of which the last entry alone stays
  pub stands_alone : after ≡ option_to_list (last_or None history)
      → StandsIn (last_or None history) deck → StandsIn (last_or None after) deck
  stands_alone is so = subst (λ (o : Option Entry). StandsIn o deck)
      (sym (ap (last_or None) is ∙ last_alone (last_or None history))) so
