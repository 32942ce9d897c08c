-- What an error says of bytes that are read as a document, as a unit or as a source: why they are
-- refused, and that they are none. Memory that ran out says nothing.
use Rattle.std.proofs.Common.{◌≡◌, ◌≢◌, ℕ, List, Result, Ok, Err, refl, subst}
use Rattle.std.specs.Prelude.{Some}
use Rattle.wap_tokens.specs.declared.markup.document.Document.{Document}
use Rattle.wap_tokens.specs.declared.markup.deck.Deck.{Deck}
use Rattle.wap_tokens.specs.markup.Documents.{IsDocument}
use Rattle.wap_tokens.specs.markup.Decks.{deck_of}
use Rattle.wap_wbxml.specs.Refusal as documents
use Rattle.wap_wbxml.specs.declared.fault.DocFault.{DocFault}
use Rattle.wap_wbxml.specs.declared.fault.DocFault.TheVariants as document
use Rattle.wap_deckcheck.specs.Faults.{faults, first_fault}
use Rattle.wap_deckcheck.specs.declared.fault.DeckFault.{DeckFault}
use Rattle.wap_deckcheck.specs.declared.fault.DeckFault.TheVariants as deck
use Rattle.wap_unit.specs.declared.unit.Unit.{Unit}
use Rattle.wap_unit.specs.Units.{IsUnit}
use Rattle.wap_unit.specs.Refusal as units
use Rattle.wap_unit.specs.declared.fault.UnitFault.{UnitFault}
use Rattle.wap_unit.specs.declared.fault.UnitFault.TheVariants as unit
use Rattle.wap_verify.specs.Faults.{IsFault}
use Rattle.wap_verify.specs.declared.fault.VerifyFault.{VerifyFault}
use Rattle.wap_verify.specs.declared.fault.VerifyFault.TheVariants as verify
use Rattle.wap_grammar.specs.declared.program.program.Program.{Program}
use Rattle.wap_meaning.specs.compiled.Units.{compiled}
use Rattle.wap_codegen.specs.Faults.{IsCompileFault}
use Rattle.wap_codegen.specs.declared.fault.CompileFault.{CompileFault}
use Rattle.wap_codegen.specs.declared.fault.CompileFault.TheVariants as compile
use Rattle.wap_pages.specs.declared.fault.PageErr.{PageErr}
use Rattle.wap_pages.specs.declared.fault.PageErr.TheVariants.{Refused, NoMemory}
use Rattle.wap_pages.specs.declared.fault.PageFault.{PageFault}
use Rattle.wap_pages.specs.declared.fault.PageFault.TheVariants as page
use Rattle.wap_pages.specs.Faults.{document_error, deck_error, unit_error, verify_error}
use Rattle.wap_pages.specs.Faults.{source_error}
use Rattle.wap_pages.specs.Refusals.{RefusesSource, RefusesUnit, RefusesVerify, RefusesDocument}
use Rattle.wap_pages.specs.Refusals.{IsDeckRefused, RefusesCheck}
use Rattle.wap_pages.proofs.Errors.{document_cases, deck_cases, unit_cases, verify_cases}
use Rattle.wap_pages.proofs.Errors.{source_cases}

-- ---- the bytes are no unit

-- the error of a call that should have given a value
abbrev pub Only : {X : Type 0} → X → PageErr → Type 0
Only {X} x error = error ≢ NoMemory → ◌≡◌ {A = Result X PageErr} (Ok x) (Err error)

module _ (bytes : List ℕ) (fault : UnitFault) where
  -- bytes that are a unit aren't refused
  pub unit_only : (one : Unit)
      → (fault ≢ unit.NoMemory → ◌≡◌ {A = Result Unit UnitFault} (Ok one) (Err fault))
      → Only one (unit_error fault)
  unit_only one is =
      unit_cases (Only one) fault (λ none e. absurd (e refl)) (λ some e. absurd (no_both (is some)))
    where
      no_both : ◌≡◌ {A = Result Unit UnitFault} (Ok one) (Err fault) → ⊥
      no_both e = cc

  -- bytes that are refused are no unit
  pub unit_refused : (why : PageFault) → (fault ≢ unit.NoMemory → units.IsRefused bytes fault)
      → unit_error fault ≡ Refused why → RefusesUnit bytes why
  unit_refused why is = unit_cases (λ error. error ≡ Refused why → RefusesUnit bytes why) fault
      (λ none e. absurd cc)
      (λ some e.
      subst (RefusesUnit bytes) (inner (page.Unit fault) e) (RefusesUnit.unit fault (is some)))
    where
      inner : (one : PageFault) → Refused one ≡ Refused why → one ≡ why
      inner one e = cc

-- ---- the bytes are no source

module _ (bytes : List ℕ) (fault : CompileFault) where
  -- bytes that are compiled aren't refused
  pub source_only : (p : Program)
      → (fault ≢ compile.NoMemory
      → ◌≡◌ {A = Result Unit CompileFault} (Ok (compiled p)) (Err fault))
      → Only (compiled p) (source_error fault)
  source_only p is =
      source_cases (Only (compiled p)) fault (λ none e. absurd (e refl))
      (λ some e. absurd (no_both (is some)))
    where
      no_both : ◌≡◌ {A = Result Unit CompileFault} (Ok (compiled p)) (Err fault) → ⊥
      no_both e = cc

  -- bytes that are refused have this fault
  pub source_refused : (why : PageFault) → IsCompileFault bytes fault
      → source_error fault ≡ Refused why → RefusesSource bytes why
  source_refused why is =
      source_cases (λ error. error ≡ Refused why → RefusesSource bytes why) fault
      (λ none e. absurd cc)
      (λ some e.
      subst (RefusesSource bytes) (inner (page.Source fault) e)
      (RefusesSource.source fault (record { cause = is; some = some })))
    where
      inner : (one : PageFault) → Refused one ≡ Refused why → one ≡ why
      inner one e = cc

-- ---- the bytes are no document

module _ (bytes : List ℕ) (fault : DocFault) where
  -- bytes that are refused are no document
  pub document_refused : (why : PageFault)
      → (fault ≢ document.NoMemory → documents.IsRefused bytes fault)
      → document_error fault ≡ Refused why → RefusesDocument bytes why
  document_refused why is =
      document_cases (λ error. error ≡ Refused why → RefusesDocument bytes why) fault
      (λ none e. absurd cc)
      (λ some e.
      subst (RefusesDocument bytes) (inner (page.Document fault) e)
      (RefusesDocument.document fault (is some)))
    where
      inner : (one : PageFault) → Refused one ≡ Refused why → one ≡ why
      inner one e = cc

-- ---- the deck isn't good

module _ (one : Deck) (fault : DeckFault) where
  -- a deck that is refused has this fault first
  pub deck_refused : (why : PageFault)
      → (fault ≢ deck.NoMemory → first_fault (faults one) ≡ Some fault)
      → deck_error fault ≡ Refused why → IsDeckRefused one why
  deck_refused why is = deck_cases (λ error. error ≡ Refused why → IsDeckRefused one why) fault
      (λ none e. absurd cc)
      (λ some e.
      subst (IsDeckRefused one) (inner (page.Deck fault) e) (IsDeckRefused.deck fault (is some)))
    where
      inner : (one : PageFault) → Refused one ≡ Refused why → one ≡ why
      inner one e = cc

-- what refuses bytes as a document refuses them as a deck
pub by_document : (bytes : List ℕ) (why : PageFault) → RefusesDocument bytes why
    → RefusesCheck bytes why
by_document bytes why (RefusesDocument.document fault is) = RefusesCheck.document fault is

-- and so does what refuses the deck of their document
pub by_deck : (bytes : List ℕ) (one : Document) (why : PageFault) → IsDocument bytes one
    → IsDeckRefused (deck_of one) why → RefusesCheck bytes why
by_deck bytes one why spells (IsDeckRefused.deck fault is) = RefusesCheck.deck one fault spells is

-- ---- the unit may not be run

-- what refuses bytes as a unit refuses them as one that may be run
pub by_unit : (bytes : List ℕ) (why : PageFault) → RefusesUnit bytes why → RefusesVerify bytes why
by_unit bytes why (RefusesUnit.unit fault is) = RefusesVerify.unit fault is

module _ (bytes : List ℕ) (one : Unit) (spells : IsUnit bytes one) (fault : VerifyFault) where
  -- a unit without a fault isn't refused
  pub verify_only : {X : Type 0} (x : X) → (fault ≢ verify.NoMemory → ⊥)
      → Only x (verify_error fault)
  verify_only x is =
      verify_cases (Only x) fault (λ none e. absurd (e refl)) (λ some e. absurd (is some))

  -- a unit that is refused has this fault
  pub verify_refused : (why : PageFault) → (fault ≢ verify.NoMemory → IsFault one fault)
      → verify_error fault ≡ Refused why → RefusesVerify bytes why
  verify_refused why is =
      verify_cases (λ error. error ≡ Refused why → RefusesVerify bytes why) fault
      (λ none e. absurd cc)
      (λ some e.
      subst (RefusesVerify bytes) (inner (page.Verify fault) e)
      (RefusesVerify.verify one fault spells (is some)))
    where
      inner : (one : PageFault) → Refused one ≡ Refused why → one ≡ why
      inner one e = cc

-- ---- values and errors

-- two results with a value have one value
pub ok_is : {X E : Type 0} (x y : X) → ◌≡◌ {A = Result X E} (Ok x) (Ok y) → x ≡ y
ok_is x y is = cc

-- and two with a fault one fault
pub err_is : {X E : Type 0} (e f : E) → ◌≡◌ {A = Result X E} (Err e) (Err f) → e ≡ f
err_is e f is = cc
