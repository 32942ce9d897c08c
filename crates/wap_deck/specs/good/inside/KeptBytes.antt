-- A deck as it is held: its bytes, the string table once more, and where in the bytes the root, the
-- cards and the template begin. This project's own.
use Rattle.std.specs.Prelude.{◌≡◌, ℕ, ◌-◌, ◌≤◌, List, [], ◌∷◌, Some, length, take, drop}
use Rattle.std.specs.List.{filter_map}
use Rattle.wap_tokens.specs.declared.markup.document.TheConstants.{LEVEL_LIMIT}
use Rattle.wap_tokens.specs.declared.markup.deck.Deck.{Deck}
use Rattle.wap_tokens.specs.declared.markup.deck.Node.{Node}
use Rattle.wap_tokens.specs.declared.markup.name.Tag.{Tag}
use Rattle.wap_tokens.specs.declared.markup.name.Tag.TheVariants as tags
use Rattle.wap_tokens.specs.markup.Trees.{node_with}
use Rattle.wap_tokens.specs.markup.Good.{IsGood}
use Rattle.wap_tokens.specs.markup.Normal.{IsNormal}
use Rattle.wap_tokens.specs.markup.Writing.{document_of}
use Rattle.wap_wbxml.specs.spelling.Spelling.{spelling}
use Rattle.wap_wbxml.specs.spelling.Characters.{OfNode}
use Rattle.wap_deck.specs.declared.good.cards.Place.{Place}
use Rattle.wap_deck.specs.declared.good.cards.Cards.{Cards}
use Rattle.wap_deck.specs.declared.good.notes.Note.{Note}
use Rattle.wap_deck.specs.good.inside.Hashes.{hashes_in}
use Rattle.wap_deck.specs.good.inside.Nodes.{node_at, front_node, IsRead}
use Rattle.wap_deck.specs.good.inside.Notes.{AreNotes}

-- a string table, which stands between its place and the root's
abbrev pub table_in : ℕ → ℕ → List ℕ → List ℕ
table_in place root bytes = take (root - place) (drop place bytes)

-- the deck by its string table, and where its root begins in bytes
unfoldable pub deck_in : List ℕ → ℕ → List ℕ → Deck
deck_in table root bytes = record { root = front_node table LEVEL_LIMIT (drop root bytes) }

-- a good, normal deck stands there, which the bytes spell: the root begins in them and is read, and
-- its texts are of characters
pub record IsHeld (table : List ℕ) (root : ℕ) (bytes : List ℕ) : Type 0 where
  pub within : root ≤ length bytes
  pub read : IsRead table LEVEL_LIMIT (drop root bytes)
  pub spelled : bytes ≡ spelling (document_of (deck_in table root bytes))
  pub good : IsGood (deck_in table root bytes)
  pub normal : IsNormal (deck_in table root bytes)
  pub of : OfNode LEVEL_LIMIT (deck_in table root bytes).root

-- ---- cards

-- a node of the root's content stands at a place
pub record StandsAt (table bytes : List ℕ) (place : ℕ) (card : Node) : Type 0 where
  pub within : place ≤ length bytes
  pub rest : List ℕ
  pub read : node_at table (LEVEL_LIMIT - 1) (drop place bytes) ≡ Some (card, rest)

-- each node stands at its place
abbrev pub StandAt : List ℕ → List ℕ → List Place → List Node → Type 0
StandAt table bytes [] [] = Unit {0}
StandAt table bytes [] (card ∷ cards) = ⊥
StandAt table bytes (place ∷ places) [] = ⊥
StandAt table bytes (place ∷ places) (card ∷ cards) =
    StandsAt table bytes place.begin card × StandAt table bytes places cards

-- the nodes of a tag in the root's content
abbrev pub tagged : Tag → Deck → List Node
tagged tag deck = filter_map (node_with tag) deck.root.kids

-- a deck that is held, where its cards and templates begin, the hashes of its cards' ids, and notes
-- of its nodes
pub record IsKept (table : List ℕ) (root : ℕ) (bytes : List ℕ) (cards : Cards)
    (notes : List Note) : Type 0 where
  pub held : IsHeld table root bytes
  pub noted : AreNotes bytes notes
  pub placed : StandAt table bytes cards.places (tagged tags.Card (deck_in table root bytes))
  pub hashed : cards.hashes ≡ hashes_in (deck_in table root bytes)
  pub templates : StandAt table bytes cards.templates
      (tagged tags.Template (deck_in table root bytes))
