-- Why bytes are refused: as a source, as a unit, as one that may be run, as a document, as a
-- document whose deck is good. This project's own.
use Rattle.std.specs.Prelude.{◌≡◌, ℕ, List, Some}
use Rattle.wap_tokens.specs.declared.markup.document.Document.{Document}
use Rattle.wap_tokens.specs.declared.markup.deck.Deck.{Deck}
use Rattle.wap_tokens.specs.markup.Documents.{IsDocument}
use Rattle.wap_tokens.specs.markup.Decks.{deck_of}
use Rattle.wap_deckcheck.specs.Faults.{faults, first_fault}
use Rattle.wap_unit.specs.declared.unit.Unit.{Unit}
use Rattle.wap_unit.specs.Units.{IsUnit}
use Rattle.wap_unit.specs.Refusal as units
use Rattle.wap_wbxml.specs.Refusal as documents
use Rattle.wap_verify.specs.Faults.{IsFault}
use Rattle.wap_codegen.specs.source_faults.Faults.{IsFaultOf}
use Rattle.wap_pages.specs.declared.fault.PageFault.{PageFault}
use Rattle.wap_pages.specs.declared.fault.PageFault.TheVariants as page

-- the bytes are no source that can be compiled
pub data RefusesSource (bytes : List ℕ) : PageFault → Type 0 where
  source : (why : _) → IsFaultOf bytes why → RefusesSource bytes (page.Source why)

-- the bytes are no unit
pub data RefusesUnit (bytes : List ℕ) : PageFault → Type 0 where
  unit : (why : _) → units.IsRefused bytes why → RefusesUnit bytes (page.Unit why)

-- or one that may not be run
pub data RefusesVerify (bytes : List ℕ) : PageFault → Type 0 where
  unit : (why : _) → units.IsRefused bytes why → RefusesVerify bytes (page.Unit why)
  verify : (unit : Unit) (why : _) → IsUnit bytes unit → IsFault unit why
      → RefusesVerify bytes (page.Verify why)

-- the bytes are no document
pub data RefusesDocument (bytes : List ℕ) : PageFault → Type 0 where
  document : (why : _) → documents.IsRefused bytes why → RefusesDocument bytes (page.Document why)

-- the deck isn't good, for the first of its faults
pub data IsDeckRefused (one : Deck) : PageFault → Type 0 where
  deck : (why : _) → first_fault (faults one) ≡ Some why → IsDeckRefused one (page.Deck why)

-- the bytes are no document, or one whose deck isn't good
pub data RefusesCheck (bytes : List ℕ) : PageFault → Type 0 where
  document : (why : _) → documents.IsRefused bytes why → RefusesCheck bytes (page.Document why)
  deck : (document : Document) (why : _) → IsDocument bytes document
      → first_fault (faults (deck_of document)) ≡ Some why
      → RefusesCheck bytes (page.Deck why)
