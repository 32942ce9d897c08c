-- Reading the body of a document: what bytes begin with, and what follows it. This project's own.
use Rattle.std.specs.Prelude.{ℕ, zero, suc, ◌%◌, Bool, true, false, List, []}
use Rattle.std.specs.Prelude.{Option, Some, None, Result, Ok, Err}
use Rattle.wap_base.specs.Outcome.{◌>>=◌}
use Rattle.wap_tokens.specs.declared.markup.document.Attr.{Attr}
use Rattle.wap_tokens.specs.declared.markup.document.Piece.{Piece}
use Rattle.wap_tokens.specs.declared.markup.document.Piece.TheVariants as piece
use Rattle.wap_tokens.specs.declared.markup.document.Token.{Token}
use Rattle.wap_tokens.specs.declared.markup.document.Token.TheVariants.{Code}
use Rattle.wap_tokens.specs.declared.markup.document.Element.{Element}
use Rattle.wap_tokens.specs.declared.markup.document.Kid.{Kid}
use Rattle.wap_tokens.specs.declared.markup.document.Kid.TheVariants as kid
use Rattle.wap_tokens.specs.declared.markup.mark.Lead.{Lead}
use Rattle.wap_tokens.specs.declared.markup.mark.Leaf.{Leaf}
use Rattle.wap_tokens.specs.declared.markup.mark.Leaf.TheVariants as leaf
use Rattle.wap_tokens.specs.declared.markup.mark.LeafMark.{LeafMark}
use Rattle.wap_tokens.specs.declared.markup.mark.LeafMark.TheVariants as mark
use Rattle.wap_tokens.specs.declared.markup.mark.ContentMark.{ContentMark}
use Rattle.wap_tokens.specs.declared.markup.mark.ContentMark.TheVariants as content
use Rattle.wap_tokens.specs.declared.markup.mark.AttributeMark.{AttributeMark}
use Rattle.wap_tokens.specs.declared.markup.mark.AttributeMark.TheVariants as attribute
use Rattle.wap_tokens.specs.markup.Codes.{content_mark, attribute_mark, is_end}
use Rattle.wap_tokens.specs.markup.Codes.{is_named, has_attributes, has_content}
use Rattle.wap_tokens.specs.markup.Grammar.{State, on_tag_page, on_attribute_page, leaf_of, literal}
use Rattle.wap_tokens.specs.markup.Grammar.{piece_of, kid_of, of_kid, attribute_of, element_of}
use Rattle.wap_wbxml.specs.declared.fault.DocFault.{DocFault}
use Rattle.wap_wbxml.specs.declared.fault.DocFault.TheVariants as fault
use Rattle.wap_wbxml.specs.Places.{Input, place_before}
use Rattle.wap_wbxml.specs.reading.ByteReading.{Reading, Next, some, told, all_by}
use Rattle.wap_wbxml.specs.reading.Fronts.{lead_in, lead_at, inline_at, indexed_at}
use Rattle.wap_wbxml.specs.reading.Fronts.{character_at, opaque_at, name_at}

-- after a byte that can't stand there
abbrev pub no_token : {A : Type 0} → ℕ → List ℕ → Reading A
no_token total rest = Err (fault.Token (place_before total rest))

-- no items are left to be read; where they have to end, the input is too short
abbrev pub as_none : {A S : Type 0} → S → List ℕ → Reading (List A × S)
as_none state bytes = Ok (([], state), bytes)

-- the input is too short for items that have to end
abbrev pub as_short : {A S : Type 0} → ℕ → S → List ℕ → Reading (List A × S)
as_short total state bytes = Err (fault.Short total)

-- a string, a character, a reference, an extension or opaque data, after the byte that says which
-- it is
unfoldable pub leaf_at : Input → LeafMark → List ℕ → Reading Leaf
leaf_at input (mark.Inline role) bytes =
    told (leaf_of role) (inline_at input.strings input.total bytes)
leaf_at input (mark.Indexed role) bytes =
    told (leaf_of role) (indexed_at input.strings input.total bytes)
leaf_at input mark.Entity bytes = told leaf.Entity (character_at input.total bytes)
leaf_at input mark.Opaque bytes = told leaf.Opaque (opaque_at input.total bytes)
leaf_at input (mark.Extension number) bytes = Ok (leaf.Ext number, bytes)

-- ---- attributes

-- the start of an attribute after its byte: a code, or a name of the string table
unfoldable pub start_at : Input → State → Lead → AttributeMark → List ℕ → Reading (Token × State)
start_at input before lead attribute.Coded bytes = Ok ((Code lead.byte, before), bytes)
start_at input before lead attribute.Named bytes =
    told literal (name_at input.strings before input.total bytes)
start_at input before lead _ bytes = no_token input.total bytes

-- the next part of a value, or none
abbrev pub some_piece : Lead → State → Piece → Option Piece × State
some_piece lead before piece = (Some piece, on_attribute_page lead.page before)

-- the next part of a value by what its byte says, or none where the byte begins no part; that byte
-- is left then
abbrev pub piece_from : Input → State → Lead → AttributeMark → List ℕ → List ℕ
    → Reading (Option Piece × State)
piece_from input before lead attribute.Value bytes rest =
    Ok (some_piece lead before (piece.Code lead.page lead.byte), rest)
piece_from input before lead (attribute.Leaf mark) bytes rest =
    told (λ leaf. some_piece lead before (piece_of leaf)) (leaf_at input mark rest)
piece_from input before lead _ bytes rest = Ok ((None, before), bytes)

-- the same by the byte that it begins with, if there is one
abbrev pub piece_led : Input → State → List ℕ → Option (Lead × List ℕ)
    → Reading (Option Piece × State)
piece_led input before bytes (Some lead) =
    piece_from input before lead.0 (attribute_mark lead.0) bytes lead.1
piece_led input before bytes None = Ok ((None, before), bytes)

-- the next part of a value, or none
unfoldable pub next_piece : Input → Next Piece State
next_piece input before bytes = piece_led input before bytes (lead_in before.attribute_page bytes)

-- the parts of a value, as many as there are
unfoldable pub pieces_at : Input → State → List ℕ → Reading (List Piece × State)
pieces_at input = all_by (next_piece input) as_none

-- an attribute after its byte: its start, and the parts of its value
unfoldable pub attribute_behind : Input → State → Lead → List ℕ → Reading (Attr × State)
attribute_behind input before lead bytes =
    start_at input (on_attribute_page lead.page before) lead (attribute_mark lead) bytes
    >>= λ start.
    told (attribute_of lead start.0.0) (pieces_at input start.0.1 start.1)

-- the next attribute, or none where attributes end
abbrev pub attribute_from : Input → State → Lead → Bool → List ℕ → Reading (Option Attr × State)
attribute_from input before lead true rest = Ok ((None, before), rest)
attribute_from input before lead false rest = told some (attribute_behind input before lead rest)

-- the next attribute, or the end of attributes
unfoldable pub next_attribute : Input → Next Attr State
next_attribute input before bytes =
    lead_at input.total before.attribute_page bytes >>= λ lead.
    attribute_from input before lead.0 (is_end (attribute_mark lead.0)) lead.1

-- attributes up to their end, which has to be there
unfoldable pub attributes_at : Input → State → List ℕ → Reading (List Attr × State)
attributes_at input = all_by (next_attribute input) (as_short input.total)

-- what follows an end, which has to stand there
abbrev pub end_from : ℕ → Bool → List ℕ → Result (List ℕ) DocFault
end_from total true rest = Ok rest
end_from total false rest = Err (fault.Token (place_before total rest))

-- an end, on the page of attributes
unfoldable pub end_at : ℕ → State → List ℕ → Result (List ℕ) DocFault
end_at total state bytes =
    lead_at total state.attribute_page bytes >>= λ lead.
    end_from total (is_end (attribute_mark lead.0)) lead.1

-- a processing instruction after its byte
unfoldable pub instruction_at : Input → State → List ℕ → Reading (Attr × State)
instruction_at input before bytes =
    lead_at input.total before.attribute_page bytes >>= λ lead.
    attribute_behind input before lead.0 lead.1 >>= λ attribute.
    end_at input.total attribute.0.1 attribute.1 >>= λ rest.
    Ok (attribute.0, rest)

-- ---- elements

-- a tag after its byte: a name of the string table, or the code in its low six bits
unfoldable pub tag_at : Input → State → ℕ → Bool → List ℕ → Reading (Token × State)
tag_at input before byte true bytes = told literal (name_at input.strings before input.total bytes)
tag_at input before byte false bytes = Ok ((Code (byte % 64), before), bytes)

-- a list where there is one
abbrev pub when : {A S : Type 0} → Bool → (S → List ℕ → Reading (List A × S)) → S → List ℕ
    → Reading (List A × S)
when true read before bytes = read before bytes
when false read before bytes = Ok (([], before), bytes)

-- reading elements after the byte of their tags
abbrev pub ElementReader : Type 0
ElementReader = State → Lead → List ℕ → Reading (Element × State)

-- the next part of content by what its byte says, or none where content ends
abbrev pub kid_from : Input → ElementReader → State → Lead → ContentMark → List ℕ
    → Reading (Option Kid × State)
kid_from input inner before lead content.End rest = Ok ((None, before), rest)
kid_from input inner before lead content.Element rest =
    told (λ x. some (of_kid kid.Element x)) (inner before lead rest)
kid_from input inner before lead content.Pi rest =
    told (λ x. some (of_kid kid.Pi x)) (instruction_at input before rest)
kid_from input inner before lead (content.Leaf mark) rest =
    told (λ leaf. some (kid_of leaf, on_tag_page lead.page before)) (leaf_at input mark rest)
kid_from input inner before lead content.Nothing rest = no_token input.total rest

-- the next part of content, or its end
unfoldable pub next_kid : Input → ElementReader → Next Kid State
next_kid input inner before bytes =
    lead_at input.total before.tag_page bytes >>= λ lead.
    kid_from input inner before lead.0 (content_mark lead.0) lead.1

-- content up to its end, which has to be there
unfoldable pub kids_at : Input → ElementReader → State → List ℕ → Reading (List Kid × State)
kids_at input inner = all_by (next_kid input inner) (as_short input.total)

-- an element after its tag's byte, its elements read so: tag, attributes and content, if it has
-- them
unfoldable pub element_by : Input → ElementReader → ElementReader
element_by input inner before lead bytes =
    tag_at input (on_tag_page lead.page before) lead.byte (is_named lead.byte) bytes >>= λ tag.
    when (has_attributes lead.byte) (attributes_at input) tag.0.1 tag.1 >>= λ attributes.
    told (element_of lead tag.0.0 attributes.0.0)
    (when (has_content lead.byte) (kids_at input inner) attributes.0.1 attributes.1)

-- elements of so many levels
unfoldable pub element_at : Input → ℕ → ElementReader
element_at input zero before lead bytes = Err (fault.Depth (place_before input.total bytes))
element_at input (suc levels) before lead bytes =
    element_by input (element_at input levels) before lead bytes
