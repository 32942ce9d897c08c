-- What bytes spell can be written: documents.
use Rattle.std.proofs.Common.{◌≡◌, ℕ, suc, ◌^◌, ◌<◌, Bool, true, false, cond, eqb}
use Rattle.std.proofs.Common.{leb, ltb, List, [], ◌∷◌, ◌++◌, get_or, Some, None}
use Rattle.std.proofs.Common.{refl, sym, ap, subst, ◌∙◌, arith, lt-ltb}
use Rattle.std.specs.Prelude.{◌&&◌, encode_utf8_all}
use Rattle.std.specs.List.{AllByRecursion, list_all}
use Rattle.std.specs.Str.{all_scalars}
use Rattle.std.proofs.lemmas.Bool.{eqb-true, not-false, and_from, and_parts}
use Rattle.std.proofs.lemmas.List.Folds.{list_all-append}
use lib.Utf8.{encode, scalar}
use Rattle.wap_base.proofs.Choices.{some_same}
use Rattle.wap_base.specs.declared.charset.Charset.{Charset}
use Rattle.wap_base.specs.declared.charset.Charset.TheVariants.{Ascii, Latin1, Utf8}
use Rattle.wap_tokens.specs.declared.markup.codes.TheConstants.{END, PI}
use Rattle.wap_tokens.specs.declared.markup.document.TheConstants.{LEVEL_LIMIT}
use Rattle.wap_tokens.specs.declared.markup.document.Document.{Document}
use Rattle.wap_tokens.specs.declared.markup.document.Element.{Element}
use Rattle.wap_tokens.specs.declared.markup.document.Attr.{Attr}
use Rattle.wap_tokens.specs.declared.markup.mark.Lead.{Lead}
use Rattle.wap_tokens.specs.declared.markup.mark.DocumentType.TheVariants.{Wml}
use Rattle.wap_tokens.specs.declared.markup.mark.Identifier.{Identifier}
use Rattle.wap_tokens.specs.declared.markup.mark.ContentMark.{ContentMark}
use Rattle.wap_tokens.specs.declared.markup.mark.ContentMark.TheVariants as content
use Rattle.wap_tokens.specs.markup.Codes.{content_mark}
use Rattle.wap_tokens.specs.markup.Charsets.{IsText}
use Rattle.wap_tokens.specs.markup.Strings.{Strings, is_not_zero}
use Rattle.wap_tokens.specs.markup.Grammar.{State, table_size}
use Rattle.wap_tokens.specs.markup.Documents.{is_public, public_named, IsIdentifierBehind, IsPublic}
use Rattle.wap_tokens.specs.markup.Documents.{IsOuter, IsRootBehind, IsRoot, first_state, into_root}
use Rattle.wap_tokens.specs.markup.Documents.{IsBody, IsDocument, IsDocumentOf}
use Rattle.wap_wbxml.specs.spelling.Names.{with_attr, with_element, names_of}
use Rattle.wap_wbxml.specs.spelling.Spellable.{HasNoZero, IsString, FitsElement, IsSpellable}
use Rattle.wap_wbxml.specs.spelling.Spellable.{HasTexts}
use Rattle.wap_wbxml.proofs.SpellingLemmas.Taken.{Went, split_of, many_taken, attribute_taken}
use Rattle.wap_wbxml.proofs.SpellingLemmas.TakenElements.{Taken, element_taken}

-- ---- texts

all_behind : (front rest : List ℕ) → list_all is_not_zero (front ++ rest) ≡ true
    → list_all is_not_zero rest ≡ true
all_behind front rest all =
    (and_parts (list_all is_not_zero front) (list_all is_not_zero rest)
    (sym (list_all-append is_not_zero front rest) ∙ all)).1

not_zero_by : (c : ℕ) (b : Bool) → is_not_zero c ≡ b → (rest : List ℕ)
    → list_all is_not_zero (encode c ++ rest) ≡ true
    → (is_not_zero c ≡ true) × (list_all is_not_zero rest ≡ true)
unfolding encode
not_zero_by c true e rest all = (e, all_behind (encode c) rest all)
not_zero_by c false e rest all =
    let zero_is : c ≡ 0 = eqb-true c 0 (not-false (eqb c 0) e) in
    let never : false ≡ true =
    sym (ap (λ (n : ℕ). list_all is_not_zero (encode n ++ rest)) zero_is) ∙ all in
    absurd cc

pub text_not_zero : (text : List ℕ) → list_all is_not_zero (encode_utf8_all text) ≡ true
    → HasNoZero text
text_not_zero [] all = refl
text_not_zero (c ∷ text) all =
    let parts = not_zero_by c (is_not_zero c) refl (encode_utf8_all text) all in
    and_from (is_not_zero c) (list_all is_not_zero text) parts.0 (text_not_zero text parts.1)

pub no_zero_right : (charset : Charset) (string text : List ℕ)
    → AllByRecursion (λ byte. Unit {0}) string
    → list_all is_not_zero string ≡ true → IsText charset string text → HasNoZero text
no_zero_right Ascii string text all no_zero is = ap (list_all is_not_zero) is.1 ∙ no_zero
no_zero_right Latin1 string text all no_zero is = ap (list_all is_not_zero) is ∙ no_zero
no_zero_right Utf8 string text all no_zero is =
    text_not_zero text (ap (list_all is_not_zero) is.1 ∙ no_zero)

abbrev pub IsByte : ℕ → Type 0
IsByte byte = byte < 256

byte_scalar : (byte : ℕ) → byte < 256 → scalar byte ≡ true
byte_scalar byte small =
    ap (λ (b : Bool). cond b true (leb 57344 byte && ltb byte 1114112))
    (lt-ltb byte 55296 (omega arith))

bytes_scalar : (bytes : List ℕ) → AllByRecursion IsByte bytes → all_scalars bytes ≡ true
bytes_scalar [] all = refl
bytes_scalar (byte ∷ bytes) all =
    and_from (scalar byte) (all_scalars bytes) (byte_scalar byte all.0) (bytes_scalar bytes all.1)

pub string_right : (charset : Charset) (string text : List ℕ) → AllByRecursion IsByte string
    → list_all is_not_zero string ≡ true → IsText charset string text → IsString text
string_right Ascii string text all no_zero is =
    (ap (list_all is_not_zero) is.1 ∙ no_zero, ap all_scalars is.1 ∙ bytes_scalar string all)
string_right Latin1 string text all no_zero is =
    (ap (list_all is_not_zero) is ∙ no_zero, ap all_scalars is ∙ bytes_scalar string all)
string_right Utf8 string text all no_zero is =
    (text_not_zero text (ap (list_all is_not_zero) is.1 ∙ no_zero), is.0)

-- ---- identifiers

named_public : (a b c : Bool) (public : ℕ)
    → cond a (Some 4) (cond b (Some 9) (cond c (Some 10) None)) ≡ Some public
    → is_public public ≡ true
named_public true b c public e = ap is_public (sym (some_same 4 public e))
named_public false true c public e = ap is_public (sym (some_same 9 public e))
named_public false false true public e = ap is_public (sym (some_same 10 public e))
named_public false false false public e = absurd cc

public_by : (number : ℕ) (b : Bool) (bytes : List ℕ) (identifier : Identifier)
    → IsIdentifierBehind Wml number b bytes identifier
    → (table rest : List ℕ) (public : ℕ) → IsPublic table identifier rest public
    → is_public public ≡ true
unfolding public_named
public_by number true bytes identifier is table rest public names =
    let named = subst (λ (i : Identifier). IsPublic table i rest public) is.made names in
    named_public _ _ _ public named.1
public_by number false bytes identifier is table rest public names =
    let given = subst (λ (i : Identifier). IsPublic table i rest public) is.0.1 names in
    ap is_public given.1 ∙ is.1

module _ (Byte : ℕ → Type 0) (Is : List ℕ → Type 0)
    (right : (charset : Charset) (string text : List ℕ) → AllByRecursion Byte string
    → list_all is_not_zero string ≡ true
    → IsText charset string text → Is text) where
  module _ (strings : Strings) (in_table : AllByRecursion Byte strings.table) where
    outer_taken : (before : State) (bytes : List ℕ) (attr : Attr) (after : State)
        → AllByRecursion Byte bytes
        → IsOuter strings before bytes (attr, after)
        → Unit {0} × Went (λ names. with_attr names attr) before after
    outer_taken before bytes attr after all is =
        let rest = split_of Byte bytes (PI ∷ []) is.0 is.1 all in
        let inside = split_of Byte is.0 is.2.0 (END ∷ []) is.2.1 rest.1 in (
          tt,
          (attribute_taken Byte Is strings in_table
              (right strings.charset) before is.2.0 attr after inside.0 is.2.2).1,
        )

    root_behind : (before : State) (lead : Lead) (m : ContentMark) → content_mark lead ≡ m
        → (bytes : List ℕ) (root : Element)
        (after : State) → AllByRecursion Byte bytes
        → IsRootBehind strings before lead m bytes (root, after)
        → FitsElement Is LEVEL_LIMIT root
        × Went (λ names. with_element LEVEL_LIMIT names root) before after
    unfolding Taken
    root_behind before lead content.Element e bytes root after all is =
        element_taken Byte Is strings in_table
        (right strings.charset) LEVEL_LIMIT before lead bytes root after all e is
    root_behind before lead _ e bytes root after all is = absurd is

    body_taken : (bytes : List ℕ) (root : Element) → AllByRecursion Byte bytes
        → IsBody strings bytes root
        → FitsElement Is LEVEL_LIMIT root × (table_size (with_element LEVEL_LIMIT [] root) < 2 ^ 32)
    unfolding IsBody IsRoot table_size
    body_taken bytes root all is =
        let parts = split_of Byte bytes is.front is.rest is.spelled all in
        let outers =
        many_taken Byte (IsOuter strings)
        (λ attr. Unit {0}) with_attr outer_taken first_state is.front is.a.0 is.a.1
        is.first parts.0 in
        let others = is.next in
        let inside = split_of Byte is.rest others.front others.rest others.spelled parts.1 in
        let lead =
        split_of Byte others.front others.first.front others.first.rest
        others.first.spelled inside.0 in
        let inner =
        root_behind (into_root is.a.1) others.first.a
        (content_mark others.first.a) refl others.first.rest
        others.a.0 others.a.1 lead.1 others.first.next in
        let none : is.a.1.names ≡ [] = outers.1.names in
        let fits : table_size others.a.1.names < 2 ^ 32 =
        inner.1.fits
        (subst (λ (names : List (List ℕ)). table_size names < 2 ^ 32) (sym none) (omega arith)) in
        let named : others.a.1.names ≡ with_element LEVEL_LIMIT [] others.a.0 =
        inner.1.names
        ∙ ap (λ (names : List (List ℕ)). with_element LEVEL_LIMIT names others.a.0) none in
        subst (λ (root : Element).
        FitsElement Is LEVEL_LIMIT root × (table_size (with_element LEVEL_LIMIT [] root) < 2 ^ 32))
        (sym others.next.made)
        (inner.0, subst (λ (names : List (List ℕ)). table_size names < 2 ^ 32) named fits)

  pub document_taken : (bytes : List ℕ) (document : Document) → AllByRecursion Byte bytes
      → IsDocument bytes document
      → (is_public document.public ≡ true) × FitsElement Is LEVEL_LIMIT document.root
      × (table_size (names_of document) < 2 ^ 32)
  unfolding IsDocumentOf
  document_taken bytes document all is =
      let after_version = (split_of Byte bytes is.front is.rest is.spelled all).1 in
      let identifier = is.next in
      let after_identifier =
      (split_of Byte is.rest identifier.front identifier.rest identifier.spelled after_version).1 in
      let charset = identifier.next in
      let after_charset =
      (split_of Byte identifier.rest charset.front charset.rest charset.spelled
      after_identifier).1 in
      let table = charset.next in
      let tables = split_of Byte charset.rest table.front table.rest table.spelled after_charset in
      let content =
      (split_of Byte table.front table.first.front table.first.rest
      table.first.spelled tables.0).1 in
      let in_table : AllByRecursion Byte table.a =
      subst (AllByRecursion Byte) (sym table.first.next.1) content in
      let public = table.next in
      let after_public =
      (split_of Byte table.rest public.front public.rest public.spelled tables.1).1 in
      let strings : Strings = record { charset = charset.a.1; table = table.a } in
      let body =
      body_taken strings in_table public.rest public.next.a after_public public.next.is in
      let is_one =
      public_by identifier.first.a
      (eqb identifier.first.a 0) identifier.first.rest identifier.a identifier.first.next
      table.a public.front public.a public.first in
      subst
      (λ (d : Document).
      (is_public d.public ≡ true) × FitsElement Is LEVEL_LIMIT d.root
      × (table_size (names_of d) < 2 ^ 32))
      (sym public.next.made) (is_one, body.0, body.1)

pub all_bytes : (bytes : List ℕ) → ((i : ℕ) → get_or bytes i 0 < 256) → AllByRecursion IsByte bytes
all_bytes [] each = tt
all_bytes (byte ∷ bytes) each = (each 0, all_bytes bytes (λ i. each (suc i)))

all_units : (bytes : List ℕ) → AllByRecursion (λ byte. Unit {0}) bytes
all_units [] = tt
all_units (byte ∷ bytes) = (tt, all_units bytes)

pub spellable_taken : (bytes : List ℕ) (document : Document) → IsDocument bytes document
    → IsSpellable document
spellable_taken bytes document is =
    let taken =
    document_taken (λ byte. Unit {0}) HasNoZero no_zero_right bytes document (all_units bytes) is in
    record { public = taken.0; root = taken.1; names = taken.2 }

pub texts_taken : (bytes : List ℕ) (document : Document) → AllByRecursion IsByte bytes
    → IsDocument bytes document
    → HasTexts document
texts_taken bytes document all is =
    (document_taken IsByte IsString string_right bytes document all is).1
