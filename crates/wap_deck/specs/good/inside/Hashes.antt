-- Hashes of the ids of cards, by which most cards are passed at once where one is looked for. This
-- project's own.
use Rattle.std.specs.Prelude.{ℕ, ◌+◌, ◌*◌, ◌%◌, ◌^◌, List, map, Option, Some, None, encode_utf8_all}
use Rattle.std.specs.List.{fold}
use Rattle.wap_tokens.specs.declared.markup.deck.Deck.{Deck}
use Rattle.wap_tokens.specs.declared.markup.deck.Node.{Node}
use Rattle.wap_tokens.specs.markup.Cards.{cards_of, id_of}

-- a hash, after a byte more
abbrev pub with_byte : ℕ → ℕ → ℕ
with_byte hash byte = (hash * 31 % 2 ^ 32 + byte) % 2 ^ 32

-- the hash of a text
unfoldable pub hash_of : List ℕ → ℕ
hash_of text = fold with_byte 0 (encode_utf8_all text)

-- the hash of an id, if there is one
abbrev pub hash_if : Option (List ℕ) → ℕ
hash_if None = 0
hash_if (Some id) = hash_of id

-- the hash of a card's id
abbrev pub id_hash : Node → ℕ
id_hash card = hash_if (id_of card)

-- the hashes of a deck's cards
abbrev pub hashes_in : Deck → List ℕ
hashes_in deck = map id_hash (cards_of deck)
