-- What the mending of a page writes, by how it ends. This project's own.
use Rattle.std.specs.Prelude.{◌≡◌, ◌≢◌, ℕ, List}
use Rattle.wap_base.specs.Contents.{Contents}
use Rattle.wap_devices.specs.Contents.{answer_for}
use Rattle.wap_devices.specs.Sinks.{SinkSeen}
use Rattle.wap_devices.specs.Stores.{StoreSeen, Agrees, Grew}
use Rattle.wap_devices.specs.Transfer.{Appends}
use Rattle.wap_devices.specs.declared.store.Fetched.{Fetched}
use Rattle.wap_devices.specs.declared.store.Fetched.TheVariants as fetched
use Rattle.wap_tokens.specs.declared.markup.document.Document.{Document}
use Rattle.wap_tokens.specs.markup.Documents.{IsDocument}
use Rattle.wap_tokens.specs.markup.Decks.{deck_of}
use Rattle.wap_tokens.specs.markup.Good.{IsGood}
use Rattle.wap_wbxml.specs.declared.fault.DocFault.{DocFault}
use Rattle.wap_wbxml.specs.spelling.Spelling.{spelling}
use Rattle.wap_deckcheck.specs.declared.fault.DeckFault.TheVariants as deck
use Rattle.wap_pages.specs.declared.fault.PageFault.{PageFault}
use Rattle.wap_pages.specs.declared.fault.PageFault.TheVariants as page
use Rattle.wap_mend.specs.Pages.{IsGoodPage, IsGivenBy, IsTold, IsNoDocument, HasNoCard}
use Rattle.wap_mend.specs.declared.pages.MendedPage.{MendedPage}
use Rattle.wap_mend.specs.declared.mending.MendFault.{MendFault}
use Rattle.wap_mend.specs.declared.mending.MendFault.TheVariants as mend
use Rattle.wap_explain.specs.declared.ending.Ending.{Ending}
use Rattle.wap_explain.specs.declared.ending.Ending.TheVariants.{Good, Refused, StoreFault}
use Rattle.wap_explain.specs.declared.ending.Ending.TheVariants.{NoMemory}

-- how a run ends where a page isn't mended
abbrev pub ending_of : MendFault → Ending
ending_of (mend.Document fault) = Refused (page.Document fault)
ending_of mend.NoCard = Refused (page.Deck deck.NoCard)
ending_of mend.NoMemory = NoMemory

-- why the page with these bytes isn't mended
pub data IsUnmended (bytes : List ℕ) : PageFault → Type 0 where
  document : (why : DocFault) → IsNoDocument bytes why → IsUnmended bytes (page.Document why)
  no_card : HasNoCard bytes → IsUnmended bytes (page.Deck deck.NoCard)

-- a mended page was written: the one spelling of a document with a good deck, that of the page
-- where its own deck is good; it is made of the deck that was given, and its changes say what is
-- lost
pub record Gave (bytes : List ℕ) (before after : SinkSeen) : Type 0 where
  pub mended : MendedPage
  pub good : IsGoodPage mended.bytes
  pub given : IsGivenBy bytes mended.given
  pub told : IsTold mended
  pub kept : (d : Document) → IsDocument bytes d → IsGood (deck_of d)
      → mended.bytes ≡ spelling d
  pub written : Appends before.taken after.taken mended.bytes

-- what the mending of the page with these bytes wrote, by how it ended
pub record IsMendingOf (bytes : List ℕ) (before after : SinkSeen) (ending : Ending) : Type 0 where
  pub good : ending ≡ Good → Gave bytes before after
  pub refused : (fault : PageFault) → ending ≡ Refused fault
      → IsUnmended bytes fault × (after ≡ before)

-- the same of a page that is missing
pub record IsMendingOfNone (before after : SinkSeen) (ending : Ending) : Type 0 where
  pub bad : ending ≢ Good
  pub refused : (fault : PageFault) → ending ≡ Refused fault
      → (fault ≡ page.Missing) × (after ≡ before)

-- the same of what a store answered for a name
abbrev pub IsMendingOfAny : Fetched → SinkSeen → SinkSeen → Ending → Type 0
IsMendingOfAny (fetched.Found bytes) before after ending = IsMendingOf bytes before after ending
IsMendingOfAny fetched.Missing before after ending = IsMendingOfNone before after ending

-- what the mending of the page of a name in a store wrote, by how it ended: that of any pages that
-- may be the store's own
pub record Mends (name : List ℕ) (store_before store_after : StoreSeen) (before after : SinkSeen)
    (ending : Ending) : Type 0 where
  pub answer : Fetched
  pub found : ending ≢ StoreFault → ending ≢ NoMemory
      → (pages : Contents) → Agrees store_after.known pages → answer ≡ answer_for name pages
  pub right : IsMendingOfAny answer before after ending
  pub kept : Grew store_before.known store_after.known
