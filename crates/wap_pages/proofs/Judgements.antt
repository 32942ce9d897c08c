-- What bytes are judged, by the relations of bytes, documents, decks, units and sources.
use Rattle.std.proofs.Common.{◌≡◌, ◌≢◌, ◌↔◌, ℕ, ◌<◌, ◌^◌, Bool, true, false, cond, List, [], ◌∷◌}
use Rattle.std.proofs.Common.{length, Option, Some, None, Result, Ok, Err, refl, sym, ap, subst}
use Rattle.std.proofs.Common.{◌∙◌, ◌⊎◌, inl, inr}
use Rattle.std.specs.Prelude.{All, IfOk}
use Rattle.std.specs.Cmp.Lexicographic.{bytes_decides}
use Rattle.std.specs.Map.{keys_of}
use Rattle.std.proofs.lemmas.List.Elements.{All-nil, All-cons}
use Rattle.wap_base.specs.Texts.{is_same_text, AreDistinct}
use Rattle.wap_base.specs.Contents.{Contents, names_of, page_named}
use Rattle.wap_base.specs.Charsets.{text_in}
use Rattle.wap_base.specs.Outcome.{Meets}
use Rattle.wap_base.specs.declared.charset.Charset.TheVariants.{Utf8}
use Rattle.wap_base.proofs.Choices.{ok_same, err_same, some_same}
use Rattle.wap_tokens.specs.declared.markup.document.Document.{Document}
use Rattle.wap_tokens.specs.declared.markup.deck.Deck.{Deck}
use Rattle.wap_tokens.specs.declared.markup.mark.DocumentType.TheVariants.{Wml}
use Rattle.wap_tokens.specs.markup.Documents.{IsDocument}
use Rattle.wap_tokens.specs.markup.Decks.{deck_of}
use Rattle.wap_tokens.specs.markup.Good.{IsGood}
use Rattle.wap_wbxml.specs.reading.Whole.{document_at}
use Rattle.wap_wbxml.specs.declared.fault.DocFault.{DocFault}
use Rattle.wap_wbxml.specs.Refusal.{IsRefused}
use Rattle.wap_wbxml.proofs.DocumentLaws as documents
use Rattle.wap_deck.proofs.DocumentsLemmas.Normality.{deck_is_normal}
use Rattle.wap_deckcheck.specs.Faults.{faults, first_fault}
use Rattle.wap_deckcheck.specs.declared.fault.DeckFault.{DeckFault}
use Rattle.wap_deckcheck.specs.declared.fault.DeckFault.TheVariants as deck_fault
use Rattle.wap_deckcheck.proofs.GoodDecks.{good_without_faults}
use Rattle.wap_deckcheck.proofs.Completeness.{no_faults_where_good}
use Rattle.wap_unit.specs.declared.unit.Unit.{Unit}
use Rattle.wap_unit.specs.Units.{IsUnit}
use Rattle.wap_unit.specs.declared.fault.UnitFault.{UnitFault}
use Rattle.wap_unit.specs.reading.UnitReading.{unit_at}
use Rattle.wap_unit.proofs.UnitLaws.{unit_takes, unit_again, unit_stops, unit_fails}
use Rattle.wap_verify.specs.declared.fault.VerifyFault.{VerifyFault}
use Rattle.wap_verify.specs.Sound.{IsVerified}
use Rattle.wap_verify.specs.Faults.{IsFault}
use Rattle.wap_verify.specs.runnable.Runnable.{may_run, AreAlike}
use Rattle.wap_verify.proofs.RunnableLemmas.Deciding.{passes, fails}
use Rattle.wap_verify.proofs.RunnableLemmas.Alike.{alike}
use Rattle.wap_grammar.specs.declared.program.program.Program.{Program}
use Rattle.wap_meaning.specs.compiled.Units.{compiled}
use Rattle.wap_meaning.specs.accepted.AcceptedPrograms.{accepted_in}
use Rattle.wap_meaning.proofs.AcceptedLemmas.Accepting as accepting
use Rattle.wap_codegen.specs.declared.fault.CompileFault.{CompileFault}
use Rattle.wap_codegen.proofs.SourceFaultsLemmas.Finding.{found}
use Rattle.wap_codegen.proofs.SourceFaultsLemmas.Alike as sources
use Rattle.wap_world.specs.site.Pages.{page_of, IsThere, AreSitePages}
use Rattle.wap_world.specs.declared.site.page.Page.{Page}
use Rattle.wap_world.specs.declared.site.page.Page.TheVariants as page
use Rattle.wap_pages.specs.declared.kind.Kind.{Kind}
use Rattle.wap_pages.specs.declared.kind.Kind.TheVariants as kind
use Rattle.wap_pages.specs.declared.fault.PageErr.{PageErr}
use Rattle.wap_pages.specs.declared.fault.PageErr.TheVariants as error
use Rattle.wap_pages.specs.declared.fault.PageFault.{PageFault}
use Rattle.wap_pages.specs.declared.fault.PageFault.TheVariants as fault
use Rattle.wap_pages.specs.Refusals.{RefusesCheck, RefusesSource, RefusesVerify, IsDeckRefused}
use Rattle.wap_pages.specs.Judged.{kind_of, page_of_deck, page_of_document, page_of_unit}
use Rattle.wap_pages.specs.Judged.{page_of_program, page_of_text, page_as, page_of_bytes, judged}
use Rattle.wap_pages.specs.Judged.{page_where, AreBytes, IsDeckPage, IsUnitPage, IsSourcePage}
use Rattle.wap_pages.specs.Judged.{IsScriptPage, IsTextPage, RefusesText}
use Rattle.wap_pages.specs.Judged.{RefusesAs, Refuses, may_differ}
use Rattle.wap_pages.specs.inside.Judging.{IsDeckIn, IsUnitIn, IsSourceIn, IsTextIn, IsPageAs}
use Rattle.wap_pages.specs.Memory.{is_of_memory, RefusesForFault}
use Rattle.wap_pages.specs.inside.Judging.{Judges, JudgesDeck}
use Rattle.wap_pages.specs.Faults.{deck_error}
use Rattle.wap_pages.proofs.Errors.{deck_cases}
use Rattle.wap_pages.proofs.Memory.{deck_alone}
use Rattle.wap_pages.proofs.Refusing.{by_deck}

-- ---- documents

-- what is read is a document
document_takes : (bytes : List ℕ) (document : Document) → document_at bytes ≡ Ok document
    → IsDocument bytes document
document_takes = documents.document_takes Wml

-- and a document is read
document_again : (bytes : List ℕ) (document : Document) → IsDocument bytes document
    → document_at bytes ≡ Ok document
document_again = documents.document_again Wml

-- what isn't read is refused
document_stops : (bytes : List ℕ) (why : DocFault) → document_at bytes ≡ Err why
    → IsRefused bytes why
document_stops = documents.document_stops Wml

-- and what is refused isn't read
document_fails : (bytes : List ℕ) (why : DocFault) → IsRefused bytes why
    → document_at bytes ≡ Err why
document_fails = documents.document_fails Wml

-- ---- decks

none_first : (some : List DeckFault) → first_fault some ≡ None → some ≡ []
none_first [] is = refl
none_first (first ∷ others) is = absurd cc

good_deck : (deck : Deck) → first_fault (faults deck) ≡ None → IsGood deck
good_deck deck none = good_without_faults deck (none_first (faults deck) none)

faultless : (document : Document) → IsGood (deck_of document)
    → first_fault (faults (deck_of document)) ≡ None
faultless document good =
    ap first_fault (no_faults_where_good (deck_of document) (deck_is_normal document) good)

-- ---- bytes are a page, or refused

-- the page that they are judged is the page that they are, or they are refused
abbrev Known : Kind → List ℕ → Page → Type 0
Known k bytes one =
    IsPageAs k bytes one
    ⊎ ((one ≡ page.Refused)
    × (length bytes < 2 ^ 31 → (why : PageFault) × RefusesAs k bytes why))

deck_known : (bytes : List ℕ) (document : Document) → IsDocument bytes document
    → (first : Option DeckFault) → first_fault (faults (deck_of document)) ≡ first
    → Known kind.Deck bytes (page_of_deck (deck_of document) first)
deck_known bytes document spells None is = inl (record {
  document = document;
  spells = spells;
  deck = record { is = refl; good = good_deck (deck_of document) is };
})
deck_known bytes document spells (Some why) is =
    inr (refl, λ few. (fault.Deck why, RefusesCheck.deck document why spells is))

document_known : (bytes : List ℕ) (read : Result Document DocFault) → document_at bytes ≡ read
    → Known kind.Deck bytes (page_of_document read)
document_known bytes (Ok document) is =
    deck_known bytes document (document_takes bytes document is)
    (first_fault (faults (deck_of document))) refl
document_known bytes (Err why) is =
    inr (
      refl,
      λ few.
          (fault.Document why, RefusesCheck.document why (document_stops bytes why is)),
    )

text_known : (bytes : List ℕ) (read : Option (List ℕ)) → text_in Utf8 bytes ≡ read
    → Known kind.Words bytes (page_of_text read)
text_known bytes (Some text) is = inl (record { text = text; spells = is; is = refl })
text_known bytes None is = inr (refl, λ few. (fault.NotText, RefusesText.not_text is))

run_known : (bytes : List ℕ) (unit : Unit) → IsUnit bytes unit → (may : Bool)
    → may_run unit ≡ may
    → Known kind.Unit bytes (cond may (page.Script unit) page.Refused)
run_known bytes unit spells true is =
    inl (record { unit = unit; spells = spells; verified = (passes unit).0 is; is = refl })
run_known bytes unit spells false is =
    let found = (fails unit).0 is in
    inr (refl, λ few. (fault.Verify found.0, RefusesVerify.verify unit found.0 spells found.1))

unit_known : (bytes : List ℕ) → AreBytes bytes → (read : Result Unit UnitFault)
    → unit_at bytes ≡ read → Known kind.Unit bytes (page_of_unit read)
unit_known bytes are (Ok unit) is =
    run_known bytes unit (unit_takes bytes unit are is) (may_run unit) refl
unit_known bytes are (Err why) is =
    inr (refl, λ few. (fault.Unit why, RefusesVerify.unit why (unit_stops bytes why is)))

source_known : (bytes : List ℕ) (read : Option Program) → accepted_in bytes ≡ read
    → Known kind.Source bytes (page_of_program read)
source_known bytes (Some p) is =
    inl (record { program = p; accepted = (accepting.some bytes p).0 is; is = refl })
source_known bytes None is = inr (
  refl,
  λ few. elim (found bytes few) [
    | inl accepted ↦ absurd ((accepting.none bytes).0 is accepted.0 accepted.1)
    | inr refused ↦ (fault.Source refused.0, RefusesSource.source refused.0 refused.1)
  ],
)

known : (k : Kind) (bytes : List ℕ) → AreBytes bytes → Known k bytes (page_as k bytes)
unfolding page_as
known kind.Deck bytes are = document_known bytes (document_at bytes) refl
known kind.Words bytes are = text_known bytes (text_in Utf8 bytes) refl
known kind.Unit bytes are = unit_known bytes are (unit_at bytes) refl
known kind.Source bytes are = source_known bytes (accepted_in bytes) refl

-- ---- and what they are, they are judged

pub page_is : (k : Kind) (bytes : List ℕ) (one : Page) → IsPageAs k bytes one
    → page_as k bytes ≡ one
unfolding page_as
page_is kind.Deck bytes one is =
    ap page_of_document (document_again bytes is.document is.spells)
    ∙ ap (page_of_deck (deck_of is.document)) (faultless is.document is.deck.good) ∙ sym is.deck.is
page_is kind.Words bytes one is = ap page_of_text is.spells ∙ sym is.is
page_is kind.Unit bytes one is =
    ap page_of_unit (unit_again bytes is.unit is.spells)
    ∙ ap (λ (b : Bool). cond b (page.Script is.unit) page.Refused) ((passes is.unit).1 is.verified)
    ∙ sym is.is
page_is kind.Source bytes one is =
    ap page_of_program ((accepting.some bytes is.program).1 is.accepted) ∙ sym is.is

refused_as : (k : Kind) (bytes : List ℕ) (why : PageFault) → RefusesAs k bytes why
    → page_as k bytes ≡ page.Refused
unfolding page_as
refused_as kind.Deck bytes _ (RefusesCheck.document why refused) =
    ap page_of_document (document_fails bytes why refused)
refused_as kind.Deck bytes _ (RefusesCheck.deck document why spells first) =
    ap page_of_document (document_again bytes document spells)
    ∙ ap (page_of_deck (deck_of document)) first
refused_as kind.Words bytes _ (RefusesText.not_text none) = ap page_of_text none
refused_as kind.Unit bytes _ (RefusesVerify.unit why refused) =
    ap page_of_unit (unit_fails bytes why refused)
refused_as kind.Unit bytes _ (RefusesVerify.verify unit why spells found) =
    ap page_of_unit (unit_again bytes unit spells)
    ∙ ap (λ (b : Bool). cond b (page.Script unit) page.Refused) ((fails unit).1 (why, found))
refused_as kind.Source bytes _ (RefusesSource.source why of) =
    ap page_of_program ((accepting.none bytes).1
    (λ p accepted. sources.accepted_apart bytes p why accepted of))

-- a page that bytes are is none that is refused
accepted_as : (k : Kind) (bytes : List ℕ) (one : Page) → IsPageAs k bytes one
    → one ≢ page.Refused
accepted_as kind.Deck bytes one is = λ so. cc (sym is.deck.is ∙ so)
accepted_as _ bytes one is = λ so. cc (sym is.is ∙ so)

-- ---- two faults

-- two faults of a page are the same, or both are such that any may be named
abbrev pub MayBoth : PageFault → PageFault → Type 0
MayBoth one other = (one ≡ other) ⊎ ((may_differ one ≡ true) × (may_differ other ≡ true))

of_verify : (one other : VerifyFault) → AreAlike one other
    → MayBoth (fault.Verify one) (fault.Verify other)
of_verify one other (inl same) = inl (ap (λ (why : VerifyFault). fault.Verify why) same)
of_verify one other (inr both) = inr both

module _ (bytes : List ℕ) where
  deck_faults : (one other : PageFault) → RefusesCheck bytes one → RefusesCheck bytes other
      → one ≡ other
  deck_faults _ _ (RefusesCheck.document why refused) (RefusesCheck.document why' refused') =
      ap (λ (f : DocFault). fault.Document f)
      (err_same {A = Document} why why'
      (sym (document_fails bytes why refused) ∙ document_fails bytes why' refused'))
  deck_faults _ _ (RefusesCheck.document why refused)
      (RefusesCheck.deck document why' spells first) =
      absurd (cc (sym (document_fails bytes why refused)
      ∙ document_again bytes document spells))
  deck_faults _ _ (RefusesCheck.deck document why spells first)
      (RefusesCheck.document why' refused) =
      absurd (cc (sym (document_fails bytes why' refused)
      ∙ document_again bytes document spells))
  deck_faults _ _ (RefusesCheck.deck document why spells first)
      (RefusesCheck.deck document' why' spells' first') =
      let same =
      ok_same {E = DocFault} document document'
      (sym (document_again bytes document spells)
      ∙ document_again bytes document' spells') in
      ap (λ (f : DeckFault). fault.Deck f) (some_same why why'
      (sym first ∙ ap (λ (d : Document). first_fault (faults (deck_of d))) same ∙ first'))

  unit_faults : (one other : PageFault) → RefusesVerify bytes one → RefusesVerify bytes other
      → MayBoth one other
  unit_faults _ _ (RefusesVerify.unit why refused) (RefusesVerify.unit why' refused') =
      inl (ap (λ (f : UnitFault). fault.Unit f)
      (err_same {A = Unit} why why'
      (sym (unit_fails bytes why refused) ∙ unit_fails bytes why' refused')))
  unit_faults _ _ (RefusesVerify.unit why refused) (RefusesVerify.verify unit why' spells found) =
      absurd (cc (sym (unit_fails bytes why refused) ∙ unit_again bytes unit spells))
  unit_faults _ _ (RefusesVerify.verify unit why spells found) (RefusesVerify.unit why' refused) =
      absurd (cc (sym (unit_fails bytes why' refused) ∙ unit_again bytes unit spells))
  unit_faults _ _ (RefusesVerify.verify unit why spells found)
      (RefusesVerify.verify unit' why' spells' found') =
      let same =
      ok_same {E = UnitFault} unit' unit
      (sym (unit_again bytes unit' spells') ∙ unit_again bytes unit spells) in
      of_verify why why' (alike unit why why' found
      (subst (λ (u : Unit). IsFault u why') same found'))

  text_faults : (one other : PageFault) → RefusesText bytes one → RefusesText bytes other
      → one ≡ other
  text_faults _ _ (RefusesText.not_text none) (RefusesText.not_text none') = refl

  source_faults : (one other : PageFault) → RefusesSource bytes one → RefusesSource bytes other
      → one ≡ other
  source_faults _ _ (RefusesSource.source why is) (RefusesSource.source other so) =
      ap (λ (f : CompileFault). fault.Source f) (sources.alike bytes why other is so)

  faults_as : (k : Kind) (one other : PageFault) → RefusesAs k bytes one → RefusesAs k bytes other
      → MayBoth one other
  faults_as kind.Deck one other first second = inl (deck_faults one other first second)
  faults_as kind.Words one other first second = inl (text_faults one other first second)
  faults_as kind.Unit one other first second = unit_faults one other first second
  faults_as kind.Source one other first second = inl (source_faults one other first second)

-- ---- pages

-- a unit that was read, or none, is no deck and no text
script_or_refused : (read : Result Unit UnitFault) (P : Page → Type 0)
    → ((unit : Unit) → P (page.Script unit)) → P page.Refused → P (page_of_unit read)
script_or_refused (Err why) P script none = none
script_or_refused (Ok unit) P script none =
    by_test (may_run unit)
  where
    by_test : (b : Bool) → P (cond b (page.Script unit) page.Refused)
    by_test true = script unit
    by_test false = none

-- a source that was read, or none, is no deck and no text
program_or_refused : (read : Option Program) (P : Page → Type 0)
    → ((p : Program) → P (page.Script (compiled p))) → P page.Refused → P (page_of_program read)
program_or_refused (Some p) P script none = script p
program_or_refused None P script none = none

-- a text that was read, or none, is no deck and no script
words_or_refused : (read : Option (List ℕ)) (P : Page → Type 0)
    → ((text : List ℕ) → P (page.Words text)) → P page.Refused → P (page_of_text read)
words_or_refused (Some text) P words none = words text
words_or_refused None P words none = none

-- a deck that was read, or none, is no text and no script
deck_or_refused : (read : Result Document DocFault) (P : Page → Type 0)
    → ((deck : Deck) → P (page.Deck deck)) → P page.Refused → P (page_of_document read)
deck_or_refused (Err why) P deck none = none
deck_or_refused (Ok document) P deck none = by_first (first_fault (faults (deck_of document)))
  where
    by_first : (first : Option DeckFault) → P (page_of_deck (deck_of document) first)
    by_first None = deck (deck_of document)
    by_first (Some why) = none

module _ (name bytes : List ℕ) where
  -- what the page is by its kind
  by_kind : (k : Kind) → kind_of name ≡ k → page_of_bytes name bytes ≡ page_as k bytes
  by_kind k is = ap (λ (k : Kind). page_as k bytes) is

  pub deck_page : (deck : Deck) → IsDeckPage name bytes deck
      → page_of_bytes name bytes ≡ page.Deck deck
  deck_page deck is =
      by_kind kind.Deck is.kind ∙ page_is kind.Deck bytes (page.Deck deck) (record {
        document = is.document;
        spells = is.spells;
        deck = record {
          is = ap (λ (d : Deck). page.Deck d) (sym is.means);
          good = subst IsGood (sym is.means) is.good;
        };
      })

  pub unit_page : (unit : Unit) → IsUnitPage name bytes unit
      → page_of_bytes name bytes ≡ page.Script unit
  unit_page unit is =
      by_kind kind.Unit is.kind ∙ page_is kind.Unit bytes (page.Script unit)
      (record { unit = unit; spells = is.spells; verified = is.verified; is = refl })

  pub source_page : (p : Program) → IsSourcePage name bytes p
      → page_of_bytes name bytes ≡ page.Script (compiled p)
  source_page p is =
      by_kind kind.Source is.kind ∙ page_is kind.Source bytes (page.Script (compiled p))
      (record { program = p; accepted = is.accepted; is = refl })

  pub script_page : (unit : Unit) → IsScriptPage name bytes unit
      → page_of_bytes name bytes ≡ page.Script unit
  script_page unit (inl is) = unit_page unit is
  script_page unit (inr (p, is, same)) =
      source_page p is ∙ ap (λ (u : Unit). page.Script u) (sym same)

  pub text_page : (text : List ℕ) → IsTextPage name bytes text
      → page_of_bytes name bytes ≡ page.Words text
  text_page text is =
      by_kind kind.Words is.kind ∙ page_is kind.Words bytes (page.Words text)
      (record { text = text; spells = is.spells; is = refl })

  -- a deck that the bytes are
  deck_in : kind_of name ≡ kind.Deck → (one : Page) → IsDeckIn bytes one → (deck : Deck)
      → one ≡ page.Deck deck → IsDeckPage name bytes deck
  deck_in is one of deck so =
      let same = inner (sym of.deck.is ∙ so) in
      record {
        kind = is;
        document = of.document;
        spells = of.spells;
        means = same;
        good = subst IsGood same of.deck.good;
      }
    where
      inner : page.Deck (deck_of of.document) ≡ page.Deck deck → deck_of of.document ≡ deck
      inner e = cc

  deck_as : (k : Kind) → kind_of name ≡ k → (deck : Deck) → page_as k bytes ≡ page.Deck deck
      → IsDeckPage name bytes deck
  unfolding page_as
  deck_as kind.Deck is deck so =
      elim (document_known bytes (document_at bytes) refl) [
        | inl of ↦ deck_in is (page_of_document (document_at bytes)) of deck so
        | inr none ↦ absurd (cc (sym none.0 ∙ so))
      ]
  deck_as kind.Words is deck so =
      absurd (words_or_refused (text_in Utf8 bytes) (λ (one : Page). one ≡ page.Deck deck → ⊥)
      (λ text e. cc e) (λ e. cc e) so)
  deck_as kind.Unit is deck so =
      absurd (script_or_refused (unit_at bytes) (λ (one : Page). one ≡ page.Deck deck → ⊥)
      (λ unit e. cc e) (λ e. cc e) so)
  deck_as kind.Source is deck so =
      absurd (program_or_refused (accepted_in bytes) (λ (one : Page). one ≡ page.Deck deck → ⊥)
      (λ p e. cc e) (λ e. cc e) so)

  pub page_deck : (deck : Deck) → page_of_bytes name bytes ≡ page.Deck deck
      → IsDeckPage name bytes deck
  page_deck = deck_as (kind_of name) refl

  -- a text that the bytes are
  text_of : kind_of name ≡ kind.Words → (one : Page) → IsTextIn bytes one → (text : List ℕ)
      → one ≡ page.Words text → IsTextPage name bytes text
  text_of is one of text so =
      record {
        kind = is;
        spells = of.spells
            ∙ ap (λ (t : List ℕ). Some t) (inner (sym of.is ∙ so));
      }
    where
      inner : page.Words of.text ≡ page.Words text → of.text ≡ text
      inner e = cc

  text_as : (k : Kind) → kind_of name ≡ k → (text : List ℕ) → page_as k bytes ≡ page.Words text
      → IsTextPage name bytes text
  unfolding page_as
  text_as kind.Deck is text so =
      absurd (deck_or_refused (document_at bytes) (λ (one : Page). one ≡ page.Words text → ⊥)
      (λ deck e. cc e) (λ e. cc e) so)
  text_as kind.Words is text so =
      elim (text_known bytes (text_in Utf8 bytes) refl) [
        | inl of ↦ text_of is (page_of_text (text_in Utf8 bytes)) of text so
        | inr none ↦ absurd (cc (sym none.0 ∙ so))
      ]
  text_as kind.Unit is text so =
      absurd (script_or_refused (unit_at bytes) (λ (one : Page). one ≡ page.Words text → ⊥)
      (λ unit e. cc e) (λ e. cc e) so)
  text_as kind.Source is text so =
      absurd (program_or_refused (accepted_in bytes) (λ (one : Page). one ≡ page.Words text → ⊥)
      (λ p e. cc e) (λ e. cc e) so)

  pub page_text_is : (text : List ℕ) → page_of_bytes name bytes ≡ page.Words text
      → IsTextPage name bytes text
  page_text_is = text_as (kind_of name) refl

  -- a unit that the bytes are
  unit_of : kind_of name ≡ kind.Unit → (one : Page) → IsUnitIn bytes one → (unit : Unit)
      → one ≡ page.Script unit → IsUnitPage name bytes unit
  unit_of is one of unit so =
      let same = inner (sym of.is ∙ so) in
      record {
        kind = is;
        spells = subst (IsUnit bytes) same of.spells;
        verified = subst IsVerified same of.verified;
      }
    where
      inner : page.Script of.unit ≡ page.Script unit → of.unit ≡ unit
      inner e = cc

  -- a unit that a source is compiled to
  source_of : kind_of name ≡ kind.Source → (one : Page) → IsSourceIn bytes one → (unit : Unit)
      → one ≡ page.Script unit
      → (p : Program) × IsSourcePage name bytes p × (unit ≡ compiled p)
  source_of is one of unit so =
      (of.program, record { kind = is; accepted = of.accepted }, inner (sym so ∙ of.is))
    where
      inner : page.Script unit ≡ page.Script (compiled of.program) → unit ≡ compiled of.program
      inner e = cc

  unit_as : AreBytes bytes → (k : Kind) → kind_of name ≡ k → (unit : Unit)
      → page_as k bytes ≡ page.Script unit → IsScriptPage name bytes unit
  unfolding page_as
  unit_as are kind.Deck is unit so =
      absurd (deck_or_refused (document_at bytes) (λ (one : Page). one ≡ page.Script unit → ⊥)
      (λ deck e. cc e) (λ e. cc e) so)
  unit_as are kind.Words is unit so =
      absurd (words_or_refused (text_in Utf8 bytes) (λ (one : Page). one ≡ page.Script unit → ⊥)
      (λ text e. cc e) (λ e. cc e) so)
  unit_as are kind.Unit is unit so =
      elim (unit_known bytes are (unit_at bytes) refl) [
        | inl of ↦ inl (unit_of is (page_of_unit (unit_at bytes)) of unit so)
        | inr none ↦ absurd (cc (sym none.0 ∙ so))
      ]
  unit_as are kind.Source is unit so =
      elim (source_known bytes (accepted_in bytes) refl) [
        | inl of ↦ inr (source_of is (page_of_program (accepted_in bytes)) of unit so)
        | inr none ↦ absurd (cc (sym none.0 ∙ so))
      ]

  pub page_script : AreBytes bytes → (unit : Unit) → page_of_bytes name bytes ≡ page.Script unit
      → IsScriptPage name bytes unit
  page_script are = unit_as are (kind_of name) refl

  -- ---- refusals

  pub refused_is : (why : PageFault) → Refuses name bytes why
      → page_of_bytes name bytes ≡ page.Refused
  refused_is = refused_as (kind_of name) bytes

  pub some_fault : AreBytes bytes → length bytes < 2 ^ 31
      → page_of_bytes name bytes ≡ page.Refused → (why : PageFault) × Refuses name bytes why
  some_fault are few so = elim (known (kind_of name) bytes are) [
    | inl of ↦ absurd (accepted_as (kind_of name) bytes (page_of_bytes name bytes) of so)
    | inr none ↦ none.1 few
  ]

  pub refused_page : AreBytes bytes → length bytes < 2 ^ 31
      → (page_of_bytes name bytes ≡ page.Refused) ↔ ((why : PageFault) × Refuses name bytes why)
  refused_page are few = (some_fault are few, λ some. refused_is some.0 some.1)

  pub one_fault : (why other : PageFault) → Refuses name bytes why
      → Refuses name bytes other → MayBoth why other
  one_fault = faults_as bytes (kind_of name)

  -- a page that is none of the others is refused
  abbrev pub IsNone : Type 0
  IsNone = ((deck : Deck) → ¬ IsDeckPage name bytes deck)
      × ((unit : Unit) → ¬ IsUnitPage name bytes unit)
      × ((p : Program) → ¬ IsSourcePage name bytes p)
      × ((text : List ℕ) → ¬ IsTextPage name bytes text)

  no_page : (k : Kind) → kind_of name ≡ k → (one : Page) → IsPageAs k bytes one → IsNone → ⊥
  no_page kind.Deck is one of none =
      none.0 (deck_of of.document) (deck_in is one of (deck_of of.document) of.deck.is)
  no_page kind.Words is one of none = none.3 of.text (text_of is one of of.text of.is)
  no_page kind.Unit is one of none = none.1 of.unit (unit_of is one of of.unit of.is)
  no_page kind.Source is one of none =
      none.2 of.program (record { kind = is; accepted = of.accepted })

  pub neither_page : AreBytes bytes → (page_of_bytes name bytes ≡ page.Refused) ↔ IsNone
  neither_page are = (
    λ refused. (
      λ deck is. no_deck deck (sym refused ∙ deck_page deck is),
      λ unit is. no_unit unit (sym refused ∙ unit_page unit is),
      λ p is. no_unit (compiled p) (sym refused ∙ source_page p is),
      λ text is. no_text text (sym refused ∙ text_page text is),
    ),
    λ neither. elim (known (kind_of name) bytes are) [
      | inl of ↦ absurd (no_page (kind_of name) refl (page_of_bytes name bytes) of neither)
      | inr none ↦ none.0
    ],
  )
    where
      no_deck : (deck : Deck) → page.Refused ≡ page.Deck deck → ⊥
      no_deck deck e = cc

      no_unit : (unit : Unit) → page.Refused ≡ page.Script unit → ⊥
      no_unit unit e = cc

      no_text : (text : List ℕ) → page.Refused ≡ page.Words text → ⊥
      no_text text e = cc

  there : (k : Kind) → page_as k bytes ≢ page.Missing
  unfolding page_as
  there kind.Deck =
      deck_or_refused (document_at bytes) (λ (one : Page). one ≢ page.Missing) (λ deck e. cc e)
      (λ e. cc e)
  there kind.Words =
      words_or_refused (text_in Utf8 bytes) (λ (one : Page). one ≢ page.Missing) (λ text e. cc e)
      (λ e. cc e)
  there kind.Unit =
      script_or_refused (unit_at bytes) (λ (one : Page). one ≢ page.Missing) (λ unit e. cc e)
      (λ e. cc e)
  there kind.Source =
      program_or_refused (accepted_in bytes) (λ (one : Page). one ≢ page.Missing) (λ p e. cc e)
      (λ e. cc e)

  pub page_there : page_of_bytes name bytes ≢ page.Missing
  page_there = there (kind_of name)

  -- ---- what a call answers

  pub answer_page : (answer : Result Page PageErr) → Judges (kind_of name) bytes answer
      → IfOk answer (λ (one : Page). one ≡ page_of_bytes name bytes)
  answer_page (Ok one) is = sym (page_is (kind_of name) bytes one is)
  answer_page (Err why) is = tt

  accepted_judged : (one : Page) → IsPageAs (kind_of name) bytes one
      → (why : PageFault) → ¬ Refuses name bytes why
  accepted_judged one is why refused =
      accepted_as (kind_of name) bytes one is
      (sym (page_is (kind_of name) bytes one is) ∙ refused_is why refused)

  pub answer_accepted : (answer : Result Page PageErr) → Judges (kind_of name) bytes answer
      → IfOk answer (λ (one : Page). (why : PageFault) → ¬ Refuses name bytes why)
  answer_accepted (Ok one) is = accepted_judged one is
  answer_accepted (Err why) is = tt

  pub refused_judged : (answer : Result Page PageErr) → Judges (kind_of name) bytes answer
      → (why : PageFault) → answer ≡ Err (error.Refused why) → Refuses name bytes why
  refused_judged (Ok one) is why so = absurd cc
  refused_judged (Err (error.Refused other)) is why so = subst (Refuses name bytes) same is.0
    where
      same : other ≡ why
      same = cc
  refused_judged (Err error.NoMemory) is why so = absurd cc

  pub fault_judged : (answer : Result Page PageErr) → Judges (kind_of name) bytes answer
      → RefusesForFault answer
  fault_judged (Ok one) is why so = absurd cc
  fault_judged (Err (error.Refused other)) is why so =
      subst (λ (f : PageFault). is_of_memory f ≡ false) same is.1
    where
      same : other ≡ why
      same = cc
  fault_judged (Err error.NoMemory) is why so = absurd cc

  pub only_judged : (answer : Result Page PageErr) → Judges (kind_of name) bytes answer
      → (why : PageFault) → Refuses name bytes why → may_differ why ≡ false
      → Meets error.NoMemory (λ (one : Page). one) answer (Err (error.Refused why))
  only_judged (Ok one) is why refused alone = absurd (accepted_judged one is why refused)
  only_judged (Err (error.Refused other)) is why refused alone =
      λ some. elim (one_fault why other refused is.0) [
        | inl same ↦ ap (λ (f : PageFault). Err (error.Refused f)) same
        | inr both ↦ absurd (cc (sym both.0 ∙ alone))
      ]
  only_judged (Err error.NoMemory) is why refused alone = λ some. absurd (some refl)

-- ---- the pages of a store

named : (name : List ℕ) (entry : List ℕ × List ℕ) (contents : Contents) (b : Bool)
    → is_same_text entry.0 name ≡ b
    → page_of name (judged contents) ≡ page_where name (page_named name contents)
    → page_of name (judged (entry ∷ contents))
    ≡ page_where name (page_named name (entry ∷ contents))
named name entry contents true same rest =
    let is : entry.0 ≡ name = (bytes_decides entry.0 name).0 same in
    rw same (ap (λ (n : List ℕ). page_of_bytes n entry.1) is)
named name entry contents false same rest = rw same rest

pub page_of-judged : (name : List ℕ) (contents : Contents)
    → page_of name (judged contents) ≡ page_where name (page_named name contents)
page_of-judged name [] = refl
page_of-judged name (entry ∷ contents) =
    named name entry contents (is_same_text entry.0 name) refl (page_of-judged name contents)

names_judged : (contents : Contents) → keys_of (judged contents) ≡ names_of contents
names_judged [] = refl
names_judged (entry ∷ contents) =
    ap (λ (names : List (List ℕ)). entry.0 ∷ names) (names_judged contents)

-- no judged page is missing
pub judged_there : (contents : Contents)
    → All (λ (one : List ℕ × Page). IsThere one.1) (judged contents)
judged_there [] = All-nil (λ (one : List ℕ × Page). IsThere one.1)
judged_there (entry ∷ contents) =
    All-cons (λ (one : List ℕ × Page). IsThere one.1)
    (entry.0, page_of_bytes entry.0 entry.1) (judged contents)
    (page_there entry.0 entry.1) (judged_there contents)

pub judged_pages_fit : (contents : Contents) → AreDistinct (names_of contents)
    → AreSitePages (judged contents)
judged_pages_fit contents distinct = record {
  distinct = subst AreDistinct (sym (names_judged contents)) distinct;
  there = judged_there contents;
}

-- ---- calls, step by step

-- bytes that aren't read are no page of the kind
pub unread : (k : Kind) (bytes : List ℕ) (why : PageErr)
    → ((found : PageFault) → why ≡ error.Refused found → RefusesAs k bytes found)
    → ((found : PageFault) → why ≡ error.Refused found → is_of_memory found ≡ false)
    → Judges k bytes (Err why)
unread k bytes (error.Refused found) is for_fault = (is found refl, for_fault found refl)
unread k bytes error.NoMemory is for_fault = tt

-- what the deck of a document is judged, its bytes are
pub document_read : (bytes : List ℕ) (document : Document) → IsDocument bytes document
    → (answer : Result Page PageErr) → JudgesDeck (deck_of document) answer
    → Judges kind.Deck bytes answer
document_read bytes document spells (Ok one) is =
    record { document = document; spells = spells; deck = is }
document_read bytes document spells (Err (error.Refused why)) is =
    (by_deck bytes document why spells is.0, is.1)
document_read bytes document spells (Err error.NoMemory) is = tt

-- a deck that isn't good is refused for the first fault
pub deck_refused_for : (deck : Deck) (why : DeckFault)
    → (why ≢ deck_fault.NoMemory → first_fault (faults deck) ≡ Some why)
    → JudgesDeck deck (Err (deck_error why))
deck_refused_for deck why is =
    deck_cases (λ (e : PageErr). JudgesDeck deck (Err e)) why (λ none. tt)
    (λ some. (IsDeckRefused.deck why (is some), deck_alone why some))
