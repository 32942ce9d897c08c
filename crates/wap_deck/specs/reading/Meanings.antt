-- The decks that bytes mean, which are those of the documents that they spell. This project's own.
use Rattle.std.specs.Prelude.{◌≡◌, ℕ, List, Result, Ok}
use Rattle.wap_base.specs.Outcome.{◌>>=◌}
use Rattle.wap_tokens.specs.declared.markup.document.Document.{Document}
use Rattle.wap_tokens.specs.declared.markup.deck.Deck.{Deck}
use Rattle.wap_tokens.specs.markup.Documents.{IsDocument}
use Rattle.wap_tokens.specs.markup.Decks.{deck_of}
use Rattle.wap_wbxml.specs.declared.fault.DocFault.{DocFault}
use Rattle.wap_wbxml.specs.reading.Whole.{document_at}

-- the bytes spell a document, and this is its deck
abbrev pub IsMeant : List ℕ → Deck → Type 0
IsMeant bytes deck = (document : Document) × IsDocument bytes document × (deck ≡ deck_of document)

-- the deck of a document that was read, or the fault that there is none
abbrev pub meaning : Result Document DocFault → Result Deck DocFault
meaning read = read >>= λ document. Ok (deck_of document)

-- the deck of the document that the bytes spell, or the first fault from the left
abbrev pub deck_at : List ℕ → Result Deck DocFault
deck_at bytes = meaning (document_at bytes)
