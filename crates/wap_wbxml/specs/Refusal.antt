-- What is refused: a prefix of whole parts, and after it what can't stand there. Places are counted
-- from the beginning of the input, of which these bytes are the last. This project's own.
use Rattle.std.specs.Prelude.{◌≡◌, ◌≢◌, ℕ, zero, suc, ◌<◌, Bool, true, false}
use Rattle.std.specs.Prelude.{List, [], ◌∷◌, ◌++◌, length, None}
use Rattle.std.specs.List.{list_all}
use Rattle.wap_base.specs.Numbers.{IsMb}
use Rattle.wap_base.specs.formats.Sequences.{IsByte, Passing}
use Rattle.wap_base.specs.formats.Refusal as formats
use Rattle.wap_base.specs.formats.Refusal.{LacksByte, LacksBytes, RefusesNumber, RefusesPassing}
use Rattle.wap_base.specs.formats.Refusal.{RefusesMadeIf}
use Rattle.wap_base.specs.Charsets.{text_in}
use Rattle.wap_tokens.specs.declared.markup.codes.TheConstants.{SWITCH_PAGE, PI}
use Rattle.wap_tokens.specs.declared.markup.document.Attr.{Attr}
use Rattle.wap_tokens.specs.declared.markup.document.TheConstants.{LEVEL_LIMIT}
use Rattle.wap_tokens.specs.declared.markup.mark.DocumentType.{DocumentType}
use Rattle.wap_tokens.specs.declared.markup.mark.DocumentType.TheVariants.{Wml}
use Rattle.wap_tokens.specs.declared.markup.mark.Identifier.{Identifier}
use Rattle.wap_tokens.specs.declared.markup.mark.Identifier.TheVariants.{Numbered, Named}
use Rattle.wap_tokens.specs.declared.markup.mark.Lead.{Lead}
use Rattle.wap_tokens.specs.declared.markup.mark.LeafMark.{LeafMark}
use Rattle.wap_tokens.specs.declared.markup.mark.LeafMark.TheVariants as mark
use Rattle.wap_tokens.specs.declared.markup.mark.ContentMark.{ContentMark}
use Rattle.wap_tokens.specs.declared.markup.mark.ContentMark.TheVariants as content
use Rattle.wap_tokens.specs.declared.markup.mark.AttributeMark.{AttributeMark}
use Rattle.wap_tokens.specs.declared.markup.mark.AttributeMark.TheVariants as attribute
use Rattle.wap_tokens.specs.markup.Charsets.{is_character}
use Rattle.wap_tokens.specs.markup.Codes.{content_mark, attribute_mark, is_end, begins_piece}
use Rattle.wap_tokens.specs.markup.Codes.{is_named, has_attributes, has_content}
use Rattle.wap_tokens.specs.markup.Spellings.{When, ManyOf}
use Rattle.wap_tokens.specs.markup.Strings.{Strings, IsIndexed, is_not_zero, string_from}
use Rattle.wap_tokens.specs.markup.Grammar as grammar
use Rattle.wap_tokens.specs.markup.Grammar.{State, IsLead, IsPiece, IsAttribute, IsAttributes}
use Rattle.wap_tokens.specs.markup.Grammar.{IsKid, IsElement, Elements, on_attribute_page}
use Rattle.wap_tokens.specs.markup.Grammar.{on_tag_page}
use Rattle.wap_tokens.specs.markup.Documents as documents
use Rattle.wap_tokens.specs.markup.Documents.{is_version, is_numbered, is_by_name, public_named}
use Rattle.wap_tokens.specs.markup.Documents.{IsVersion, IsIdentifier, IsCharset, IsPublic, IsOuter}
use Rattle.wap_tokens.specs.markup.Documents.{IsRoot, first_state, into_root, out_of_root}
use Rattle.wap_wbxml.specs.declared.fault.DocFault.{DocFault}
use Rattle.wap_wbxml.specs.declared.fault.DocFault.TheVariants as doc
use Rattle.wap_wbxml.specs.Places.{Input, place, place_before, just_before, is_index, text_at}
use Rattle.wap_wbxml.specs.Places.{still_fit, charset_from, input_of}
use Rattle.wap_wbxml.specs.Refusals.{Refusal, NotRefused, EitherRefused, BehindWhole}
use Rattle.wap_wbxml.specs.Refusals.{Behind, RefusedThen, RefusedAmong, Anything}

-- ---- the byte that an item begins with, numbers, strings and names

-- too few bytes for an item to begin
abbrev pub IsCut : List ℕ → Type 0
IsCut [] = Unit {0}
IsCut (byte ∷ []) = byte ≡ SWITCH_PAGE
IsCut (byte ∷ page ∷ []) = byte ≡ SWITCH_PAGE
IsCut (byte ∷ page ∷ next ∷ rest) = ⊥

-- the input ends before an item begins
abbrev pub RefusedLead : ℕ → Refusal
RefusedLead total bytes fault = IsCut bytes × (fault ≡ doc.Short total)

-- the input ends inside a number, or the number is too long (WAP-192, section 5.1)
abbrev pub RefusedNumber : formats.Refusal DocFault
RefusedNumber = RefusesNumber doc.Short doc.Number

-- the number of some bytes is refused, or fewer follow it
unfoldable pub RefusedOpaque : ℕ → Refusal
RefusedOpaque total =
    RefusedThen IsMb (RefusedNumber total) (λ count. LacksBytes doc.Short count total)

-- a character: its number is refused, or is none of a character
abbrev pub RefusedCharacter : formats.Refusal DocFault
RefusedCharacter = RefusesPassing is_character (just_before doc.Text) IsMb RefusedNumber

-- a string, and the 0 that ends it
abbrev pub IsZeroEnded : List ℕ → List ℕ → Type 0
IsZeroEnded bytes string =
    (bytes ≡ string ++ (0 ∷ [])) × (list_all is_not_zero string ≡ true)

-- no byte is 0
abbrev pub RefusedString : formats.Refusal DocFault
RefusedString total bytes fault = (list_all is_not_zero bytes ≡ true) × (fault ≡ doc.Short total)

-- a string in place without its 0, or of no text in the character set
abbrev pub RefusedInline : Strings → formats.Refusal DocFault
RefusedInline strings =
    RefusesMadeIf (text_in strings.charset) (just_before doc.Text) IsZeroEnded RefusedString

-- an index of the string table: a number that is refused, one past the table, or of no text
abbrev pub RefusedIndexed : Strings → formats.Refusal DocFault
RefusedIndexed strings =
    RefusesMadeIf (text_at strings) (just_before doc.Text) (Passing (is_index strings) IsMb)
    (RefusesPassing (is_index strings) (just_before doc.Index) IsMb RefusedNumber)

-- a name of the string table: its index is refused, or the names of the root are too many with it
unfoldable pub RefusedName : Strings → State → formats.Refusal DocFault
RefusedName strings state =
    RefusesPassing (still_fit state) (just_before doc.Table) (IsIndexed strings)
    (RefusedIndexed strings)

-- after a byte that can't stand there
abbrev pub NoToken : ℕ → Refusal
NoToken total rest fault = fault ≡ doc.Token (place_before total rest)

-- a string, a character, a reference or opaque data, after the byte that says which it is
unfoldable pub RefusedLeaf : Input → LeafMark → Refusal
RefusedLeaf input (mark.Inline role) = RefusedInline input.strings input.total
RefusedLeaf input (mark.Indexed role) = RefusedIndexed input.strings input.total
RefusedLeaf input mark.Entity = RefusedCharacter input.total
RefusedLeaf input mark.Opaque = RefusedOpaque input.total
RefusedLeaf input (mark.Extension number) = NotRefused

-- ---- attributes

-- the start of an attribute, after its byte: a name that is refused, or a byte that starts none
unfoldable pub RefusedStart : Input → State → AttributeMark → Refusal
RefusedStart input before attribute.Coded = NotRefused
RefusedStart input before attribute.Named = RefusedName input.strings before input.total
RefusedStart input before _ = NoToken input.total

-- a part of a value after its byte; a byte that begins none is not refused here
abbrev pub RefusedPieceBehind : Input → AttributeMark → Refusal
RefusedPieceBehind input (attribute.Leaf mark) = RefusedLeaf input mark
RefusedPieceBehind input _ = NotRefused

-- a part of a value
abbrev pub RefusedPiece : Input → State → Refusal
RefusedPiece input before =
    Behind (IsLead before.attribute_page) (λ lead. RefusedPieceBehind input (attribute_mark lead))

-- no further part of a value begins here
abbrev pub ValueEnds : State → List ℕ → Type 0
ValueEnds state rest =
    (front behind : List ℕ) (lead : Lead) → rest ≡ front ++ behind
    → IsLead state.attribute_page front lead
    → begins_piece (attribute_mark lead) ≡ false

-- no further part of the attribute's value begins here
abbrev pub AttributeEnds : Attr × State → List ℕ → Type 0
AttributeEnds x rest = ValueEnds x.1 rest

-- the value of an attribute: one of its parts is refused
abbrev pub RefusedValue : Input → State → Refusal
RefusedValue input = RefusedAmong (IsPiece input.strings) Anything (RefusedPiece input)

-- an attribute after the byte that it begins with
unfoldable pub RefusedAttribute : Input → State → Lead → Refusal
RefusedAttribute input before lead =
    RefusedThen (grammar.IsStartBehind input.strings (on_attribute_page lead.page before) lead
    (attribute_mark lead))
    (RefusedStart input (on_attribute_page lead.page before) (attribute_mark lead))
    (λ start. RefusedValue input start.1)

-- an attribute, or the end of attributes; the end isn't refused
abbrev pub RefusedUnless : Bool → Refusal → Refusal
RefusedUnless true Refused = NotRefused
RefusedUnless false Refused = Refused

-- the next attribute is refused, or the input ends before it or the end of attributes begins
unfoldable pub RefusedNext : Input → State → Refusal
RefusedNext input before =
    RefusedThen (IsLead before.attribute_page) (RefusedLead input.total)
    (λ lead. RefusedUnless (is_end (attribute_mark lead)) (RefusedAttribute input before lead))

-- a list of attributes, up to its end: one of them is refused, or there is no end
unfoldable pub RefusedAttributes : Input → State → Refusal
RefusedAttributes input = RefusedAmong (IsAttribute input.strings) AttributeEnds (RefusedNext input)

-- an end
abbrev pub RefusedEnd : ℕ → State → Refusal
RefusedEnd total state =
    RefusedThen (IsLead state.attribute_page) (RefusedLead total)
    (λ lead. RefusedUnless (is_end (attribute_mark lead)) (NoToken total))

-- a processing instruction after its byte
unfoldable pub RefusedInstruction : Input → State → Refusal
RefusedInstruction input before =
    EitherRefused (RefusedThen (IsLead before.attribute_page) (RefusedLead input.total)
    (RefusedAttribute input before))
    (BehindWhole (IsAttribute input.strings before) AttributeEnds (λ x. RefusedEnd input.total x.1))

-- ---- elements

-- a tag after its byte: a name of the string table may be refused, a code is not
unfoldable pub RefusedTag : Input → State → Bool → Refusal
RefusedTag input before true = RefusedName input.strings before input.total
RefusedTag input before false = NotRefused

-- a part that may be absent, and is not refused then
abbrev pub RefusedWhen : Bool → Refusal → Refusal
RefusedWhen true Refused = Refused
RefusedWhen false Refused = NotRefused

-- which elements are refused, after the byte of their tags
abbrev pub ElementRefusal : Type 1
ElementRefusal = State → Lead → Refusal

-- a part of content after the byte that says which it is
abbrev pub RefusedKidBehind : Input → ElementRefusal → State → Lead → ContentMark → Refusal
RefusedKidBehind input Inner before lead content.End = NotRefused
RefusedKidBehind input Inner before lead content.Element = Inner before lead
RefusedKidBehind input Inner before lead content.Pi = RefusedInstruction input before
RefusedKidBehind input Inner before lead (content.Leaf mark) = RefusedLeaf input mark
RefusedKidBehind input Inner before lead content.Nothing = NoToken input.total

-- a part of content, or its end; the end isn't refused
unfoldable pub RefusedKid : Input → ElementRefusal → State → Refusal
RefusedKid input Inner before =
    RefusedThen (IsLead before.tag_page) (RefusedLead input.total)
    (λ lead. RefusedKidBehind input Inner before lead (content_mark lead))

-- the content of an element, up to its end: one of its parts is refused, or there is no end
abbrev pub RefusedContent : Input → Elements → ElementRefusal → State → Refusal
RefusedContent input Is Inner =
    RefusedAmong (IsKid input.strings Is) Anything (RefusedKid input Inner)

-- an element after its tag's byte: its name, its attributes or its content is refused
unfoldable pub RefusedElementOf : Input → Elements → ElementRefusal → ElementRefusal
RefusedElementOf input Is Inner before lead =
    RefusedThen (grammar.IsTagBehind input.strings (on_tag_page lead.page before) lead.byte
    (is_named lead.byte))
    (RefusedTag input (on_tag_page lead.page before) (is_named lead.byte)) (λ tag.
    RefusedThen (When (has_attributes lead.byte) tag.1 (IsAttributes input.strings))
    (RefusedWhen (has_attributes lead.byte) (RefusedAttributes input tag.1)) (λ attributes.
    RefusedWhen (has_content lead.byte) (RefusedContent input Is Inner attributes.1)))

-- an element of more than so many levels, or with a part that is refused
unfoldable pub RefusedElement : Input → ℕ → ElementRefusal
RefusedElement input zero before lead bytes fault =
    fault ≡ doc.Depth (place_before input.total bytes)
RefusedElement input (suc levels) before lead bytes fault =
    RefusedElementOf input (IsElement input.strings levels)
    (RefusedElement input levels) before lead bytes fault

-- ---- the header

-- the version byte is missing, or is none of WBXML 1.1 to 1.3 (WAP-192, section 5.4)
abbrev pub RefusedVersion : formats.Refusal DocFault
RefusedVersion = RefusesPassing is_version (λ at. doc.Version) IsByte (LacksByte doc.Short)

-- a public identifier after its number: 0 stands before an index, and another number has to be one
-- of the document type (WAP-192, section 5.5)
abbrev pub RefusedIdentifierBehind : DocumentType → ℕ → ℕ → Bool → Refusal
RefusedIdentifierBehind kind total number true rest fault = RefusedNumber total rest fault
RefusedIdentifierBehind kind total number false rest fault =
    (is_numbered kind number ≡ false) × (fault ≡ doc.PublicId)

-- a public identifier: its number or its index is refused, or the number is another type's
unfoldable pub RefusedIdentifier : DocumentType → ℕ → Refusal
RefusedIdentifier kind total =
    RefusedThen IsMb (RefusedNumber total) (λ number.
    RefusedIdentifierBehind kind total number (is_by_name kind number))

-- a character set: its number is refused, or is not known (WAP-192, section 5.6)
abbrev pub RefusedCharset : formats.Refusal DocFault
RefusedCharset = RefusesMadeIf charset_from (λ at. doc.Charset) IsMb RefusedNumber

-- a name of no document type
abbrev pub RefusedPublic : List ℕ → Identifier → Refusal
RefusedPublic table (Numbered number) rest fault = ⊥
RefusedPublic table (Named index) rest fault =
    (public_named (string_from table index) ≡ None) × (fault ≡ doc.PublicId)

-- ---- the body

-- a processing instruction outside the root
abbrev pub RefusedOuter : Input → State → Refusal
RefusedOuter input before [] fault = ⊥
RefusedOuter input before (byte ∷ rest) fault =
    (byte ≡ PI) × RefusedInstruction input before rest fault

-- no further processing instruction begins here
abbrev pub InstructionsEnd : List ℕ → Type 0
InstructionsEnd [] = Unit {0}
InstructionsEnd (byte ∷ rest) = byte ≢ PI

-- no further processing instruction begins after these
abbrev pub OutersEnd : List Attr × State → List ℕ → Type 0
OutersEnd x rest = InstructionsEnd rest

-- processing instructions outside the root: one of them is refused
unfoldable pub RefusedOuters : Input → State → Refusal
RefusedOuters input = RefusedAmong (IsOuter input.strings) Anything (RefusedOuter input)

-- the root after its byte: an element that is refused, or a byte that begins no element
abbrev pub RefusedRootBehind : Input → State → Lead → ContentMark → Refusal
RefusedRootBehind input before lead content.Element = RefusedElement input LEVEL_LIMIT before lead
RefusedRootBehind input before lead _ = NoToken input.total

-- the root is missing, no element begins there, or the element is refused
unfoldable pub RefusedRoot : Input → State → Refusal
RefusedRoot input before =
    RefusedThen (IsLead before.tag_page) (RefusedLead input.total)
    (λ lead. RefusedRootBehind input before lead (content_mark lead))

-- the body: a processing instruction before the root is refused, or the root, or one after it
unfoldable pub RefusedBody : Input → Refusal
RefusedBody input =
    EitherRefused (RefusedOuters input first_state)
    (BehindWhole (ManyOf (IsOuter input.strings) first_state) OutersEnd (λ before.
    RefusedThen (IsRoot input.strings (into_root before.1)) (RefusedRoot input (into_root before.1))
    (λ root.
    RefusedOuters input (out_of_root root.1))))

-- ---- the whole

-- a document, part by part from the left: version, public identifier, character set, string table
-- and body
unfoldable pub RefusedWhole : DocumentType → ℕ → Refusal
RefusedWhole kind total =
    RefusedThen IsVersion (RefusedVersion total) (λ version.
    RefusedThen (IsIdentifier kind) (RefusedIdentifier kind total) (λ identifier.
    RefusedThen IsCharset (RefusedCharset total) (λ charset.
    RefusedThen grammar.IsOpaque (RefusedOpaque total) (λ table.
    RefusedThen (IsPublic table identifier) (RefusedPublic table identifier) (λ public.
    RefusedBody (input_of total charset table))))))

-- bytes after a document that goes on no further
abbrev pub RefusedRest : DocumentType → ℕ → Refusal
RefusedRest kind total =
    BehindWhole (documents.IsDocumentOf kind) (λ document. InstructionsEnd)
    (λ document rest fault. (0 < length rest) × (fault ≡ doc.Rest (place total rest)))

-- the bytes are no document of this type: this is the first thing in them that can't stand where
-- it does
unfoldable pub IsRefusedAs : DocumentType → List ℕ → DocFault → Type 0
IsRefusedAs kind bytes =
    EitherRefused (RefusedWhole kind (length bytes)) (RefusedRest kind (length bytes)) bytes

-- the bytes are no document of WML, for the first thing in them that can't stand where it does
abbrev pub IsRefused : List ℕ → DocFault → Type 0
IsRefused = IsRefusedAs Wml
