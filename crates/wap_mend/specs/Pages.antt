-- What mending a page gives. This project's own.
use Rattle.std.specs.Prelude.{◌≡◌, ℕ, List, [], Some}
use Rattle.wap_tokens.specs.declared.markup.document.Document.{Document}
use Rattle.wap_tokens.specs.markup.Documents.{IsDocument}
use Rattle.wap_tokens.specs.markup.Decks.{deck_of}
use Rattle.wap_tokens.specs.markup.Cards.{cards_of}
use Rattle.wap_tokens.specs.markup.Good.{IsGood}
use Rattle.wap_tokens.specs.declared.markup.deck.Deck.{Deck}
use Rattle.wap_deck.specs.reading.Meanings.{IsMeant}
use Rattle.wap_wbxml.specs.declared.fault.DocFault.{DocFault}
use Rattle.wap_wbxml.specs.declared.fault.DocFault.TheVariants as fault
use Rattle.wap_wbxml.specs.Refusal.{IsRefused}
use Rattle.wap_wbxml.specs.spelling.Spelling.{spelling}
use Rattle.wap_mend.specs.Identifiers.{known}
use Rattle.wap_mend.specs.Accounts.{IsMadeOf}
use Rattle.wap_mend.specs.declared.pages.MendedPage.{MendedPage}

-- the bytes are a document whose deck is good, in its one spelling
pub record IsGoodPage (bytes : List ℕ) : Type 0 where
  pub document : Document
  pub spelled : IsDocument bytes document
  pub good : IsGood (deck_of document)
  pub same : bytes ≡ spelling document

-- the bytes that are read of a page: its own, or, where these are refused for their identifier,
-- those with that of WML 1.3
pub data IsReadAs (bytes : List ℕ) : List ℕ → Type 0 where
  as_it_is : IsReadAs bytes bytes
  with_other : (other : List ℕ) → IsRefused bytes fault.PublicId → known bytes ≡ Some other
      → IsReadAs bytes other

-- what is read means this deck
pub record IsGivenBy (bytes : List ℕ) (deck : Deck) : Type 0 where
  pub read : List ℕ
  pub reading : IsReadAs bytes read
  pub meant : IsMeant read deck

-- what is read is refused for this fault
pub record IsNoDocument (bytes : List ℕ) (why : DocFault) : Type 0 where
  pub read : List ℕ
  pub reading : IsReadAs bytes read
  pub refused : IsRefused read why

-- what is read is a document without a card
pub record HasNoCard (bytes : List ℕ) : Type 0 where
  pub read : List ℕ
  pub reading : IsReadAs bytes read
  pub document : Document
  pub spelled : IsDocument read document
  pub none : cards_of (deck_of document) ≡ []

-- the bytes mean a deck that is made of the one that was given, and the changes say what is lost
pub record IsTold (page : MendedPage) : Type 0 where
  pub made : Deck
  pub meant : IsMeant page.bytes made
  pub made_of : IsMadeOf page.given page.changes made
