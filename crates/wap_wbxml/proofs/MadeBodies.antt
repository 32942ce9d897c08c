-- What a builder makes of the body of a document, and of the whole.
use Rattle.std.proofs.Common.{◌≡◌, ℕ, List, [], ◌∷◌, length, Ok, Err, refl, sym, ap, ◌∙◌}
use Rattle.wap_base.specs.Outcome.{◌>>=◌}
use Rattle.wap_base.specs.declared.charset.Charset.{Charset}
use Rattle.wap_tokens.specs.declared.markup.document.Attr.{Attr}
use Rattle.wap_tokens.specs.declared.markup.document.Document.{Document}
use Rattle.wap_tokens.specs.declared.markup.document.Element.{Element}
use Rattle.wap_tokens.specs.declared.markup.mark.DocumentType.{DocumentType}
use Rattle.wap_tokens.specs.declared.markup.mark.Identifier.{Identifier}
use Rattle.wap_tokens.specs.markup.Documents.{first_state, into_root, out_of_root}
use Rattle.wap_tokens.specs.markup.Grammar.{State}
use Rattle.wap_wbxml.specs.Places.{Input, input_of}
use Rattle.wap_wbxml.specs.reading.ByteReading.{Reading, told}
use Rattle.wap_wbxml.specs.reading.Fronts.{opaque_at}
use Rattle.wap_wbxml.specs.reading.Whole.{version_at, identifier_at, charset_at, public_of}
use Rattle.wap_wbxml.specs.reading.Whole.{outers_at, root_at, body_at, whole_at, typed_at}
use Rattle.wap_wbxml.specs.reading.Whole as whole
use Rattle.wap_wbxml.specs.reading.Gathering.{read_as, gathered}
use Rattle.wap_wbxml.specs.reading.Making.{Makes, unit, passed, root_made, body_made_at}
use Rattle.wap_wbxml.specs.reading.Making.{whole_made, alone_in, all_made}

-- nothing is made of what stands outside the root
pub none_passed : (attrs : List Attr) → gathered passed unit attrs ≡ unit
none_passed [] = refl
none_passed (attr ∷ attrs) = none_passed attrs

-- an input of these parts
same_input : (input : Input) (total : ℕ) (charset : ℕ × Charset) (table : List ℕ)
    → input.total ≡ total → input.strings.charset ≡ charset.1 → input.strings.table ≡ table
    → input_of total charset table ≡ input
same_input input total charset table total_is charset_is table_is =
    let made : ℕ → Charset → List ℕ → Input =
    λ t s b. record { total = t; strings = record { charset = s; table = b } } in
    ap (λ t. made t charset.1 table) (sym total_is)
    ∙ ap (λ s. made input.total s table) (sym charset_is)
    ∙ ap (made input.total input.strings.charset) (sym table_is)

module _ {T A R C N W : Type 0} (makes : Makes T A R C N W) where
  -- what stands after the root is left out
  outers_dropped : (root : Element) (outers : Reading (List Attr × State))
      → told (root_made makes) (told (λ after. root) outers)
      ≡ told (λ after. root_made makes root) (read_as (λ attrs. unit) outers)
  outers_dropped root (Ok x) = refl
  outers_dropped root (Err fault) = refl

  -- the root, before what is left out after it
  after_root : (outers : State → List ℕ → Reading (List Attr × State))
      (root : Reading (Element × State))
      → told (root_made makes) (root >>= λ root.
      told (λ after. root.0.0) (outers (out_of_root root.0.1) root.1))
      ≡ (read_as (root_made makes) root >>= λ root.
      told (λ after. root.0.0) (read_as (λ attrs. unit) (outers (out_of_root root.0.1) root.1)))
  after_root outers (Ok x) = outers_dropped x.0.0 (outers (out_of_root x.0.1) x.1)
  after_root outers (Err fault) = refl

  -- the root, after what is left out before it
  before_root : (outers : State → List ℕ → Reading (List Attr × State))
      (root : State → List ℕ → Reading (Element × State)) (before : Reading (List Attr × State))
      → told (root_made makes) (before >>= λ before. root (into_root before.0.1) before.1
      >>= λ root. told (λ after. root.0.0) (outers (out_of_root root.0.1) root.1))
      ≡ (read_as (λ attrs. unit) before >>= λ before.
      read_as (root_made makes) (root (into_root before.0.1) before.1) >>= λ root.
      told (λ after. root.0.0) (read_as (λ attrs. unit) (outers (out_of_root root.0.1) root.1)))
  before_root outers root (Ok x) = after_root outers (root (into_root x.0.1) x.1)
  before_root outers root (Err fault) = refl

  -- what is made of the root, between what is left out
  body_read : (input : Input) (bytes : List ℕ)
      → told (root_made makes) (body_at input bytes) ≡ body_made_at makes input bytes
  unfolding body_at body_made_at
  body_read input bytes =
      before_root (outers_at input) (root_at input) (outers_at input first_state bytes)

  -- a document of a root
  root_whole : (version public : ℕ) (charset : ℕ × Charset) (body : Reading Element)
      → told (whole_made makes) (told (whole.document_of version public charset) body)
      ≡ told (makes.whole version public charset.0) (told (root_made makes) body)
  root_whole version public charset (Ok x) = refl
  root_whole version public charset (Err fault) = refl

  -- a document whose header is this
  pub whole_read : (kind : DocumentType) (total version public : ℕ) (identifier : Identifier)
      (charset : ℕ × Charset)
      (table bytes after_version after_identifier after_charset rest : List ℕ) (input : Input)
      → version_at total bytes ≡ Ok (version, after_version)
      → identifier_at kind total after_version ≡ Ok (identifier, after_identifier)
      → charset_at total after_identifier ≡ Ok (charset, after_charset)
      → opaque_at total after_charset ≡ Ok (table, rest) → public_of table identifier ≡ Ok public
      → input.total ≡ total → input.strings.charset ≡ charset.1 → input.strings.table ≡ table
      → told (whole_made makes) (whole_at kind total bytes)
      ≡ told (makes.whole version public charset.0) (body_made_at makes input rest)
  unfolding whole_at
  whole_read kind total version public identifier charset table bytes after_version
      after_identifier after_charset rest input version_is identifier_is charset_is table_is
      public_is same_total same_charset same_table =
      rw (version_is, identifier_is, charset_is, table_is, public_is)
      (root_whole version public charset (body_at (input_of total charset table) rest)
      ∙ ap (told (makes.whole version public charset.0))
      (body_read (input_of total charset table) rest
      ∙ ap (λ (input : Input). body_made_at makes input rest)
      (same_input input total charset table same_total same_charset same_table)))

  -- nothing after the document, or the fault that there is something
  alone : (total : ℕ) (read : Reading Document)
      → alone_in total (told (whole_made makes) read) ≡ all_made makes (alone_in total read)
  alone total (Ok (document, [])) = refl
  alone total (Ok (document, byte ∷ rest)) = refl
  alone total (Err fault) = refl

  -- what is made of the document that is read
  pub whole_alone : (kind : DocumentType) (bytes : List ℕ)
      → alone_in (length bytes) (told (whole_made makes) (whole_at kind (length bytes) bytes))
      ≡ all_made makes (typed_at kind bytes)
  unfolding typed_at
  whole_alone kind bytes = alone (length bytes) (whole_at kind (length bytes) bytes)
