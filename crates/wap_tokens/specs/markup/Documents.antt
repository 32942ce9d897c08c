-- Documents and the bytes that spell them (WAP-192, section 5).
use Rattle.std.specs.Prelude.{◌≡◌, ℕ, Bool, true, false, ◌==◌, ◌||◌, ◌&&◌, nat_le}
use Rattle.std.specs.Prelude.{if◌then◌else◌, codes, List, [], ◌∷◌, Option, Some, None}
use Rattle.wap_base.specs.Numbers.{IsMb}
use Rattle.wap_base.specs.Texts.{is_same_text}
use Rattle.wap_tokens.specs.declared.markup.codes.TheConstants.{PI, VERSION, WML_1_1, WML_1_2}
use Rattle.wap_tokens.specs.declared.markup.codes.TheConstants.{WML_1_3}
use Rattle.wap_tokens.specs.declared.markup.document.Document.{Document}
use Rattle.wap_tokens.specs.declared.markup.document.TheConstants.{LEVEL_LIMIT}
use Rattle.wap_tokens.specs.declared.markup.document.Element.{Element}
use Rattle.wap_tokens.specs.declared.markup.document.Attr.{Attr}
use Rattle.wap_base.specs.declared.charset.Charset.{Charset}
use Rattle.wap_tokens.specs.declared.markup.mark.Lead.{Lead}
use Rattle.wap_tokens.specs.declared.markup.mark.DocumentType.{DocumentType}
use Rattle.wap_tokens.specs.declared.markup.mark.DocumentType.TheVariants.{Wml, Other}
use Rattle.wap_tokens.specs.declared.markup.mark.Identifier.{Identifier}
use Rattle.wap_tokens.specs.declared.markup.mark.Identifier.TheVariants.{Numbered, Named}
use Rattle.wap_tokens.specs.declared.markup.mark.ContentMark.{ContentMark}
use Rattle.wap_tokens.specs.declared.markup.mark.ContentMark.TheVariants as content
use Rattle.wap_base.specs.Charsets.{charset_of}
use Rattle.wap_tokens.specs.markup.Codes.{content_mark}
use Rattle.wap_tokens.specs.markup.Spellings.{Then, Told, Given, Never, ManyOf}
use Rattle.wap_tokens.specs.markup.Strings.{Strings, string_from}
use Rattle.wap_tokens.specs.markup.Grammar.{State, IsLead, IsOpaque, IsInstruction, IsElement}

-- WBXML 1.1 to 1.3
abbrev pub is_version : ℕ → Bool
is_version byte = nat_le 1 byte && nat_le byte VERSION

-- the version byte (section 5.4)
abbrev pub IsVersion : List ℕ → ℕ → Type 0
IsVersion bytes version = (bytes ≡ version ∷ []) × (is_version version ≡ true)

-- WML 1.1 to 1.3, by number and by name (section 7.2)
abbrev pub is_public : ℕ → Bool
is_public number = number == WML_1_1 || (number == WML_1_2 || number == WML_1_3)

-- the number of a public identifier of WML by its name
unfoldable pub public_named : List ℕ → Option ℕ
public_named name =
    if is_same_text name (codes "-//WAPFORUM//DTD WML 1.1//EN") then Some WML_1_1 else
    if is_same_text name (codes "-//WAPFORUM//DTD WML 1.2//EN") then Some WML_1_2 else
    if is_same_text name (codes "-//WAPFORUM//DTD WML 1.3//EN") then Some WML_1_3 else None

-- whether a number is a public identifier of a document type
abbrev pub is_numbered : DocumentType → ℕ → Bool
is_numbered Wml number = is_public number
is_numbered (Other only) number = number == only

-- whether the index of a name in the string table stands after this number: only names of WML are
-- known
abbrev pub is_by_name : DocumentType → ℕ → Bool
is_by_name Wml number = number == 0
is_by_name (Other only) number = false

-- 0 stands before the index of a name in the string table
abbrev pub IsIdentifierBehind : DocumentType → ℕ → Bool → List ℕ → Identifier → Type 0
IsIdentifierBehind kind number true bytes identifier = Told Named IsMb bytes identifier
IsIdentifierBehind kind number false bytes identifier =
    Given (Numbered number) bytes identifier × (is_numbered kind number ≡ true)

-- a public identifier, by its number or by the index of its name (section 5.5)
abbrev pub IsIdentifier : DocumentType → List ℕ → Identifier → Type 0
IsIdentifier kind =
    Then IsMb (λ number. IsIdentifierBehind kind number (is_by_name kind number))

-- the number that an identifier stands for, which takes no bytes
abbrev pub IsPublic : List ℕ → Identifier → List ℕ → ℕ → Type 0
IsPublic table (Numbered number) bytes public = Given number bytes public
IsPublic table (Named index) bytes public =
    (bytes ≡ []) × (public_named (string_from table index) ≡ Some public)

-- a character set by its number
abbrev pub IsCharset : List ℕ → ℕ × Charset → Type 0
IsCharset bytes charset = IsMb bytes charset.0 × (charset_of charset.0 ≡ Some charset.1)

-- ---- the body: processing instructions, the root and processing instructions

-- a processing instruction outside the root
abbrev pub IsOuter : Strings → State → List ℕ → Attr × State → Type 0
IsOuter strings before bytes x =
    (rest : List ℕ) × (bytes ≡ PI ∷ rest) × IsInstruction strings before rest x

-- the root after its byte, which has to begin an element
abbrev pub IsRootBehind : Strings → State → Lead → ContentMark → List ℕ → Element × State → Type 0
IsRootBehind strings before lead content.Element = IsElement strings LEVEL_LIMIT before lead
IsRootBehind strings before lead _ = Never

-- the root: an element, of at most so many levels as elements may have
unfoldable pub IsRoot : Strings → State → List ℕ → Element × State → Type 0
IsRoot strings before =
    Then (IsLead before.tag_page) (λ lead. IsRootBehind strings before lead (content_mark lead))

-- the body begins on page 0, outside the root
abbrev pub first_state : State
first_state = record { tag_page = 0; attribute_page = 0; in_root = false; names = [] }

-- names count from here on
abbrev pub into_root : State → State
into_root state = record state { in_root = true }

-- names count no more
abbrev pub out_of_root : State → State
out_of_root state = record state { in_root = false }

-- the root, between processing instructions, which are left out (section 5.3)
unfoldable pub IsBody : Strings → List ℕ → Element → Type 0
IsBody strings =
    Then (ManyOf (IsOuter strings) first_state) (λ before.
    Then (IsRoot strings (into_root before.1)) (λ root.
    Told (λ after. root.0) (ManyOf (IsOuter strings) (out_of_root root.1))))

-- ---- the whole

-- the bytes spell the document, which is of this type
unfoldable pub IsDocumentOf : DocumentType → List ℕ → Document → Type 0
IsDocumentOf kind =
    Then IsVersion (λ version.
    Then (IsIdentifier kind) (λ identifier.
    Then IsCharset (λ charset.
    Then IsOpaque (λ table.
    Then (IsPublic table identifier) (λ public.
    Told (λ root. record { version = version; public = public; charset = charset.0; root = root })
    (IsBody (record { charset = charset.1; table = table })))))))

-- the bytes spell the document, which is one of WML
abbrev pub IsDocument : List ℕ → Document → Type 0
IsDocument = IsDocumentOf Wml
