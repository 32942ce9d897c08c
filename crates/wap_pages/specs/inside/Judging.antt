-- What a call that judges answers. This project's own.
use Rattle.std.specs.Prelude.{⊤, ◌≡◌, ℕ, false, List, Some, Result, Ok, Err}
use Rattle.wap_base.specs.Charsets.{text_in}
use Rattle.wap_base.specs.declared.charset.Charset.TheVariants.{Utf8}
use Rattle.wap_tokens.specs.declared.markup.document.Document.{Document}
use Rattle.wap_tokens.specs.declared.markup.deck.Deck.{Deck}
use Rattle.wap_tokens.specs.markup.Documents.{IsDocument}
use Rattle.wap_tokens.specs.markup.Decks.{deck_of}
use Rattle.wap_tokens.specs.markup.Good.{IsGood}
use Rattle.wap_unit.specs.Units.{IsUnit}
use Rattle.wap_verify.specs.Sound.{IsVerified}
use Rattle.wap_unit.specs.declared.unit.Unit.{Unit}
use Rattle.wap_grammar.specs.declared.program.program.Program.{Program}
use Rattle.wap_meaning.specs.compiled.Units.{compiled}
use Rattle.wap_meaning.specs.compiled.Accepted.{IsAccepted}
use Rattle.wap_world.specs.declared.site.page.Page.{Page}
use Rattle.wap_world.specs.declared.site.page.Page.TheVariants as page
use Rattle.wap_pages.specs.declared.kind.Kind.{Kind}
use Rattle.wap_pages.specs.declared.kind.Kind.TheVariants as kind
use Rattle.wap_pages.specs.declared.fault.PageErr.{PageErr}
use Rattle.wap_pages.specs.declared.fault.PageErr.TheVariants.{Refused, NoMemory}
use Rattle.wap_pages.specs.Memory.{is_of_memory}
use Rattle.wap_pages.specs.Refusals.{IsDeckRefused}
use Rattle.wap_pages.specs.Judged.{RefusesAs}

-- the page is a deck, and it is good
pub record IsDeck (deck : Deck) (one : Page) : Type 0 where
  pub is : one ≡ page.Deck deck
  pub good : IsGood deck

-- it is the deck of the document that the bytes are
pub record IsDeckIn (bytes : List ℕ) (one : Page) : Type 0 where
  pub document : Document
  pub spells : IsDocument bytes document
  pub deck : IsDeck (deck_of document) one

-- the page is the unit that the bytes are, and it may be run
pub record IsUnitIn (bytes : List ℕ) (one : Page) : Type 0 where
  pub unit : Unit
  pub spells : IsUnit bytes unit
  pub verified : IsVerified unit
  pub is : one ≡ page.Script unit

-- the page is the unit of the program whose source the bytes are
pub record IsSourceIn (bytes : List ℕ) (one : Page) : Type 0 where
  pub program : Program
  pub accepted : IsAccepted bytes program
  pub is : one ≡ page.Script (compiled program)

-- the page is the text that the bytes are
pub record IsTextIn (bytes : List ℕ) (one : Page) : Type 0 where
  pub text : List ℕ
  pub spells : text_in Utf8 bytes ≡ Some text
  pub is : one ≡ page.Words text

-- bytes that are read as a page of a kind are this page
abbrev pub IsPageAs : Kind → List ℕ → Page → Type 0
IsPageAs kind.Deck bytes = IsDeckIn bytes
IsPageAs kind.Words bytes = IsTextIn bytes
IsPageAs kind.Unit bytes = IsUnitIn bytes
IsPageAs kind.Source bytes = IsSourceIn bytes

-- the answer on bytes that are read as a page of a kind is right, unless memory runs out
abbrev pub Judges : Kind → List ℕ → Result Page PageErr → Type 0
Judges kind bytes (Ok one) = IsPageAs kind bytes one
Judges kind bytes (Err (Refused why)) = RefusesAs kind bytes why × (is_of_memory why ≡ false)
Judges kind bytes (Err NoMemory) = ⊤

-- so is the answer on a deck
abbrev pub JudgesDeck : Deck → Result Page PageErr → Type 0
JudgesDeck deck (Ok one) = IsDeck deck one
JudgesDeck deck (Err (Refused why)) = IsDeckRefused deck why × (is_of_memory why ≡ false)
JudgesDeck deck (Err NoMemory) = ⊤
