-- Reading a whole document from the left. This project's own.
use Rattle.std.specs.Prelude.{ℕ, Bool, true, false, ◌==◌, if◌then◌else◌, List, [], ◌∷◌}
use Rattle.std.specs.Prelude.{length, Option, Some, None, Result, Ok, Err}
use Rattle.wap_base.specs.Outcome.{◌>>=◌}
use Rattle.wap_tokens.specs.declared.markup.codes.TheConstants.{PI}
use Rattle.wap_tokens.specs.declared.markup.document.Attr.{Attr}
use Rattle.wap_tokens.specs.declared.markup.document.TheConstants.{LEVEL_LIMIT}
use Rattle.wap_tokens.specs.declared.markup.document.Document.{Document}
use Rattle.wap_tokens.specs.declared.markup.document.Element.{Element}
use Rattle.wap_base.specs.declared.charset.Charset.{Charset}
use Rattle.wap_tokens.specs.declared.markup.mark.Lead.{Lead}
use Rattle.wap_tokens.specs.declared.markup.mark.DocumentType.{DocumentType}
use Rattle.wap_tokens.specs.declared.markup.mark.DocumentType.TheVariants.{Wml}
use Rattle.wap_tokens.specs.declared.markup.mark.Identifier.{Identifier}
use Rattle.wap_tokens.specs.declared.markup.mark.Identifier.TheVariants.{Numbered, Named}
use Rattle.wap_tokens.specs.declared.markup.mark.ContentMark.{ContentMark}
use Rattle.wap_tokens.specs.declared.markup.mark.ContentMark.TheVariants as content
use Rattle.wap_base.specs.formats.ByteReading.{Reader, byte_at, passing, made_if}
use Rattle.wap_tokens.specs.markup.Codes.{content_mark}
use Rattle.wap_tokens.specs.markup.Strings.{string_from}
use Rattle.wap_tokens.specs.markup.Grammar.{State}
use Rattle.wap_tokens.specs.markup.Documents.{is_version, is_numbered, is_by_name, public_named}
use Rattle.wap_tokens.specs.markup.Documents.{first_state, into_root, out_of_root}
use Rattle.wap_wbxml.specs.declared.fault.DocFault.{DocFault}
use Rattle.wap_wbxml.specs.declared.fault.DocFault.TheVariants as fault
use Rattle.wap_wbxml.specs.Places.{Input, place, charset_from, input_of}
use Rattle.wap_wbxml.specs.reading.ByteReading.{Reading, Next, some, told, all_by}
use Rattle.wap_wbxml.specs.reading.Fronts.{lead_at, number_at, opaque_at}
use Rattle.wap_wbxml.specs.reading.BodyReading.{no_token, as_none, instruction_at, element_at}

-- ---- the header

-- the version byte
unfoldable pub version_at : Reader DocFault ℕ
version_at = passing is_version (λ at. fault.Version) (byte_at fault.Short)

-- a public identifier after its number: 0 stands before the index of its name
abbrev pub identifier_from : DocumentType → ℕ → ℕ → Bool → List ℕ → Reading Identifier
identifier_from kind total number true rest = told Named (number_at total rest)
identifier_from kind total number false rest =
    if is_numbered kind number then Ok (Numbered number, rest) else Err fault.PublicId

-- a public identifier
unfoldable pub identifier_at : DocumentType → ℕ → List ℕ → Reading Identifier
identifier_at kind total bytes =
    number_at total bytes >>= λ number.
    identifier_from kind total number.0 (is_by_name kind number.0) number.1

-- a character set, by its number and as it is
unfoldable pub charset_at : Reader DocFault (ℕ × Charset)
charset_at = made_if charset_from (λ at. fault.Charset) number_at

-- a public identifier of WML, or the fault that it is none
abbrev pub or_not_public : Option ℕ → Result ℕ DocFault
or_not_public (Some number) = Ok number
or_not_public None = Err fault.PublicId

-- the number of a public identifier, which may be named in the string table
unfoldable pub public_of : List ℕ → Identifier → Result ℕ DocFault
public_of table (Numbered number) = Ok number
public_of table (Named index) = or_not_public (public_named (string_from table index))

-- ---- the body

-- the next processing instruction outside the root, or none
abbrev pub outer_from : Input → State → List ℕ → Bool → List ℕ → Reading (Option Attr × State)
outer_from input before bytes true rest = told some (instruction_at input before rest)
outer_from input before bytes false rest = Ok ((None, before), bytes)

-- the next processing instruction outside the root, or none
unfoldable pub next_outer : Input → Next Attr State
next_outer input before [] = Ok ((None, before), [])
next_outer input before (byte ∷ rest) = outer_from input before (byte ∷ rest) (byte == PI) rest

-- the processing instructions outside the root, as many as there are
unfoldable pub outers_at : Input → State → List ℕ → Reading (List Attr × State)
outers_at input = all_by (next_outer input) as_none

-- the root after its byte, which has to begin an element
abbrev pub root_from : Input → State → Lead → ContentMark → List ℕ → Reading (Element × State)
root_from input before lead content.Element rest = element_at input LEVEL_LIMIT before lead rest
root_from input before lead _ rest = no_token input.total rest

-- the root, of so many levels as elements may have
unfoldable pub root_at : Input → State → List ℕ → Reading (Element × State)
root_at input before bytes =
    lead_at input.total before.tag_page bytes >>= λ lead.
    root_from input before lead.0 (content_mark lead.0) lead.1

-- the body: its root, between processing instructions that are left out
unfoldable pub body_at : Input → List ℕ → Reading Element
body_at input bytes =
    outers_at input first_state bytes >>= λ before.
    root_at input (into_root before.0.1) before.1 >>= λ root.
    told (λ after. root.0.0) (outers_at input (out_of_root root.0.1) root.1)

-- ---- the whole

-- the document of these parts
abbrev pub document_of : ℕ → ℕ → ℕ × Charset → Element → Document
document_of version public charset root =
    record { version = version; public = public; charset = charset.0; root = root }

-- a document, and what follows it
unfoldable pub whole_at : DocumentType → ℕ → List ℕ → Reading Document
whole_at kind total bytes =
    version_at total bytes >>= λ version.
    identifier_at kind total version.1 >>= λ identifier.
    charset_at total identifier.1 >>= λ charset.
    opaque_at total charset.1 >>= λ table.
    public_of table.0 identifier.0 >>= λ public.
    told (document_of version.0 public charset.0)
    (body_at (input_of total charset.0 table.0) table.1)

-- nothing may follow it
abbrev pub all_of_it : {A : Type 0} → ℕ → A × List ℕ → Result A DocFault
all_of_it total (whole, []) = Ok whole
all_of_it total (whole, byte ∷ rest) = Err (fault.Rest (place total (byte ∷ rest)))

-- the document of a type that the bytes spell, or the first fault from the left
unfoldable pub typed_at : DocumentType → List ℕ → Result Document DocFault
typed_at kind bytes = whole_at kind (length bytes) bytes >>= all_of_it (length bytes)

-- the document of WML that the bytes spell, or the first fault from the left
abbrev pub document_at : List ℕ → Result Document DocFault
document_at = typed_at Wml
