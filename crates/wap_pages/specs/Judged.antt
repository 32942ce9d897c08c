-- Pages as they are judged by their names and bytes. This project's own: the names' ends. What
-- documents, their decks and good decks are, what units are, which of them may be run, which
-- sources are accepted, and what their programs are compiled to, stands in lower definitions.
use Rattle.std.specs.Prelude.{◌≡◌, ◌⊎◌, ℕ, ◌<◌, Bool, false, nat_eq, if◌then◌else◌, List, map}
use Rattle.std.specs.Prelude.{Option, Some, None, Result, Ok, Err, codes}
use Rattle.std.specs.List.{ends_with, AllByRecursion}
use Rattle.wap_base.specs.Contents.{Contents}
use Rattle.wap_base.specs.Charsets.{text_in}
use Rattle.wap_base.specs.declared.charset.Charset.TheVariants.{Utf8}
use Rattle.wap_tokens.specs.declared.markup.document.Document.{Document}
use Rattle.wap_tokens.specs.declared.markup.deck.Deck.{Deck}
use Rattle.wap_tokens.specs.markup.Documents.{IsDocument}
use Rattle.wap_tokens.specs.markup.Decks.{deck_of}
use Rattle.wap_tokens.specs.markup.Good.{IsGood}
use Rattle.wap_wbxml.specs.reading.Whole.{document_at}
use Rattle.wap_wbxml.specs.declared.fault.DocFault.{DocFault}
use Rattle.wap_deckcheck.specs.Faults.{faults, first_fault}
use Rattle.wap_deckcheck.specs.declared.fault.DeckFault.{DeckFault}
use Rattle.wap_unit.specs.declared.unit.Unit.{Unit}
use Rattle.wap_unit.specs.Units.{IsUnit}
use Rattle.wap_unit.specs.declared.fault.UnitFault.{UnitFault}
use Rattle.wap_unit.specs.reading.UnitReading.{unit_at}
use Rattle.wap_verify.specs.Sound.{IsVerified}
use Rattle.wap_verify.specs.runnable.Runnable.{may_run, is_of_depths}
use Rattle.wap_grammar.specs.declared.program.program.Program.{Program}
use Rattle.wap_meaning.specs.compiled.Units.{compiled}
use Rattle.wap_meaning.specs.compiled.Accepted.{IsAccepted}
use Rattle.wap_meaning.specs.accepted.AcceptedPrograms.{accepted_in}
use Rattle.wap_world.specs.site.Pages.{Pages}
use Rattle.wap_world.specs.declared.site.page.Page.{Page}
use Rattle.wap_world.specs.declared.site.page.Page.TheVariants as page
use Rattle.wap_pages.specs.declared.kind.Kind.{Kind}
use Rattle.wap_pages.specs.declared.kind.Kind.TheVariants as kind
use Rattle.wap_pages.specs.declared.fault.PageFault.{PageFault}
use Rattle.wap_pages.specs.declared.fault.PageFault.TheVariants as fault
use Rattle.wap_pages.specs.Refusals.{RefusesSource, RefusesVerify, RefusesCheck}

-- ---- what a page is read as

abbrev pub has_end : List ℕ → List ℕ → Bool
has_end end name = ends_with nat_eq name end

-- a deck, where the name doesn't say otherwise
abbrev pub kind_of : List ℕ → Kind
kind_of name =
    if has_end (codes ".wmls") name then kind.Source
    else if has_end (codes ".wmlsc") name then kind.Unit
    else if has_end (codes ".txt") name then kind.Words
    else kind.Deck

-- ---- what the bytes are

-- a good deck has no fault
abbrev pub page_of_deck : Deck → Option DeckFault → Page
page_of_deck deck None = page.Deck deck
page_of_deck deck (Some why) = page.Refused

abbrev pub page_of_document : Result Document DocFault → Page
page_of_document (Ok document) =
    page_of_deck (deck_of document) (first_fault (faults (deck_of document)))
page_of_document (Err why) = page.Refused

abbrev pub page_of_unit : Result Unit UnitFault → Page
page_of_unit (Ok unit) = if may_run unit then page.Script unit else page.Refused
page_of_unit (Err why) = page.Refused

-- a source is the unit of its program
abbrev pub page_of_program : Option Program → Page
page_of_program (Some p) = page.Script (compiled p)
page_of_program None = page.Refused

abbrev pub page_of_text : Option (List ℕ) → Page
page_of_text (Some text) = page.Words text
page_of_text None = page.Refused

-- the page that bytes are, by what they are read as
unfoldable pub page_as : Kind → List ℕ → Page
page_as kind.Deck bytes = page_of_document (document_at bytes)
page_as kind.Words bytes = page_of_text (text_in Utf8 bytes)
page_as kind.Unit bytes = page_of_unit (unit_at bytes)
page_as kind.Source bytes = page_of_program (accepted_in bytes)

-- ---- pages

-- the page of a name with these bytes
abbrev pub page_of_bytes : List ℕ → List ℕ → Page
page_of_bytes name bytes = page_as (kind_of name) bytes

-- the pages of a store
abbrev pub judged : Contents → Pages
judged contents = map (λ entry. (entry.0, page_of_bytes entry.0 entry.1)) contents

-- the page of a name under which there are these bytes, or none
abbrev pub page_where : List ℕ → Option (List ℕ) → Page
page_where name (Some bytes) = page_of_bytes name bytes
page_where name None = page.Missing

-- ---- the same by the relations of bytes, documents, decks, units and sources, which laws tie to
-- the above

-- a byte is a number below 256
abbrev pub AreBytes : List ℕ → Type 0
AreBytes bytes = AllByRecursion (λ byte. byte < 256) bytes

-- the bytes are a document that means this deck, and it is good
pub record IsDeckPage (name bytes : List ℕ) (deck : Deck) : Type 0 where
  pub kind : kind_of name ≡ kind.Deck
  pub document : Document
  pub spells : IsDocument bytes document
  pub means : deck_of document ≡ deck
  pub good : IsGood deck

-- the bytes are this unit, and it may be run
pub record IsUnitPage (name bytes : List ℕ) (unit : Unit) : Type 0 where
  pub kind : kind_of name ≡ kind.Unit
  pub spells : IsUnit bytes unit
  pub verified : IsVerified unit

-- the bytes are the source of this program
pub record IsSourcePage (name bytes : List ℕ) (p : Program) : Type 0 where
  pub kind : kind_of name ≡ kind.Source
  pub accepted : IsAccepted bytes p

-- the bytes are this unit, and it may be run, or the source of a program that is compiled to it
abbrev pub IsScriptPage : List ℕ → List ℕ → Unit → Type 0
IsScriptPage name bytes unit =
    IsUnitPage name bytes unit
    ⊎ ((p : Program) × IsSourcePage name bytes p × (unit ≡ compiled p))

-- the bytes are this text
pub record IsTextPage (name bytes text : List ℕ) : Type 0 where
  pub kind : kind_of name ≡ kind.Words
  pub spells : text_in Utf8 bytes ≡ Some text

-- the bytes are no text
pub data RefusesText (bytes : List ℕ) : PageFault → Type 0 where
  not_text : text_in Utf8 bytes ≡ None → RefusesText bytes fault.NotText

-- bytes that are read as a page of a kind are refused for a fault
abbrev pub RefusesAs : Kind → List ℕ → PageFault → Type 0
RefusesAs kind.Deck bytes = RefusesCheck bytes
RefusesAs kind.Words bytes = RefusesText bytes
RefusesAs kind.Unit bytes = RefusesVerify bytes
RefusesAs kind.Source bytes = RefusesSource bytes

-- the page of a name with these bytes is refused for a fault
abbrev pub Refuses : List ℕ → List ℕ → PageFault → Type 0
Refuses name bytes = RefusesAs (kind_of name) bytes

-- beside this fault another may be named: of the places of a unit at which the numbers of values
-- don't fit any may be
abbrev pub may_differ : PageFault → Bool
may_differ (fault.Verify why) = is_of_depths why
may_differ other = false
