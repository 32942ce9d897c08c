-- What the commands on a document write. This project's own.
use Rattle.std.specs.Prelude.{◌≡◌, ℕ, List, length, ◌++◌, codes, decimal}
use Rattle.wap_tokens.specs.declared.markup.document.Document.{Document}
use Rattle.wap_tokens.specs.markup.Documents.{IsDocument}
use Rattle.wap_tokens.specs.declared.markup.deck.Deck.{Deck}
use Rattle.wap_tokens.specs.markup.Decks.{deck_of}
use Rattle.wap_tokens.specs.markup.Cards.{cards_of}
use Rattle.wap_tokens.specs.markup.Good.{IsGood}
use Rattle.wap_wbxml.specs.spelling.Spelling.{spelling}

-- the bytes are a document, and this is its one spelling
abbrev pub IsCanonical : List ℕ → List ℕ → Type 0
IsCanonical bytes text =
    (document : Document) × IsDocument bytes document × (text ≡ spelling document)

-- the line of a good deck
abbrev pub deck_line : Deck → List ℕ
deck_line deck = codes "ok deck cards=" ++ (decimal (length (cards_of deck)) ++ codes "\n")

-- the bytes are a document that means this deck, and it is good
abbrev pub IsDeckOf : List ℕ → Deck → Type 0
IsDeckOf bytes deck =
    (document : Document) × IsDocument bytes document × (deck ≡ deck_of document) × IsGood deck

-- the bytes are a document whose deck is good, and this is its line
abbrev pub IsCheckLine : List ℕ → List ℕ → Type 0
IsCheckLine bytes line =
    (document : Document) × IsDocument bytes document × IsGood (deck_of document)
    × (line ≡ deck_line (deck_of document))
