-- The cards of a deck (WAP-191, section 11.5), and the names of cards and events.
use Rattle.std.specs.Prelude.{ℕ, List, position, Option}
use Rattle.std.specs.List.{filter_map}
use Rattle.wap_tokens.specs.declared.markup.deck.Deck.{Deck}
use Rattle.wap_tokens.specs.declared.markup.deck.Node.{Node}
use Rattle.wap_tokens.specs.declared.markup.name.Tag.TheVariants as tags
use Rattle.wap_tokens.specs.declared.markup.name.AttrName.TheVariants as attrs
use Rattle.wap_tokens.specs.markup.Trees.{node_with, plain_value, is_text}

-- the cards, in the order of the document
abbrev pub cards_of : Deck → List Node
cards_of deck = filter_map (node_with tags.Card) deck.root.kids

-- the id of a card and the type of an event, where they are plain texts
abbrev pub id_of : Node → Option (List ℕ)
id_of = plain_value attrs.Id

-- the type of an event or of a do, where it is a plain text
abbrev pub type_of : Node → Option (List ℕ)
type_of = plain_value attrs.Type

-- the ids of the cards that have one
abbrev pub ids_of : Deck → List (List ℕ)
ids_of deck = filter_map id_of (cards_of deck)

-- the number of the first card with this id, from 0
abbrev pub card_numbered : List ℕ → Deck → Option ℕ
card_numbered id deck = position (λ card. is_text id (id_of card)) (cards_of deck)
