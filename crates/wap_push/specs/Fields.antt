-- What the attributes and the content of an indication say (WAP-167, section 5.2). What is passed
-- over, how a value that stands twice counts, and the digits of a time are this project's own.
use Rattle.std.specs.Prelude.{ℕ, zero, suc, ◌+◌, ◌*◌, ◌/◌, ◌%◌, Bool, false, ◌&&◌}
use Rattle.std.specs.Prelude.{nat_le, if◌then◌else◌, unwrap_or, List, [], ◌∷◌, ◌++◌, length}
use Rattle.std.specs.Prelude.{find, get_or, Option, Some, None}
use Rattle.std.specs.List.{flat_map, filter_map, list_all}
use Rattle.std.specs.Option.{option_map, option_and_then}
use lib.Utf8.{scalar}
use Rattle.wap_tokens.specs.declared.markup.document.Attr.{Attr}
use Rattle.wap_tokens.specs.declared.markup.document.Element.{Element}
use Rattle.wap_tokens.specs.declared.markup.document.Piece.{Piece}
use Rattle.wap_tokens.specs.declared.markup.document.Piece.TheVariants as piece
use Rattle.wap_tokens.specs.declared.markup.document.Kid.{Kid, out-Kid}
use Rattle.wap_tokens.specs.declared.markup.document.Kid.TheOpen.{Kid-F}
use Rattle.wap_tokens.specs.markup.Decks.{KidLevel}
use Rattle.wap_push.specs.declared.indication.Action.{Action}
use Rattle.wap_push.specs.declared.indication.Action.TheVariants as action
use Rattle.wap_push.specs.declared.names.PushTag.{PushTag}
use Rattle.wap_push.specs.declared.names.PushField.{PushField}
use Rattle.wap_push.specs.declared.names.PushField.TheVariants as field
use Rattle.wap_push.specs.Tables.{Start, tag_in, is_same_tag, start_in, is_same_field}
use Rattle.wap_push.specs.Tables.{value_of, action_named}

-- ---- texts

-- a character by its number; a number of none is passed over
abbrev pub character : ℕ → List ℕ
character number = if scalar number then number ∷ [] else []

-- the text of a part of a value: what is no code of this page, no string and no character is passed
-- over
abbrev pub piece_text : Piece → List ℕ
piece_text (piece.Code page code) = unwrap_or (value_of page code) []
piece_text (piece.Str text) = text
piece_text (piece.Entity number) = character number
piece_text _ = []

-- the text of an opened part of content: what is no string and no character is passed over
abbrev pub text_from : KidLevel → List ℕ
text_from (Kid-F.Str text) = text
text_from (Kid-F.Entity number) = character number
text_from _ = []

-- the text of a part of content
abbrev pub kid_text : Kid → List ℕ
kid_text kid = text_from (out-Kid kid)

-- the text of content
abbrev pub content_text : List Kid → List ℕ
content_text = flat_map kid_text

-- ---- elements in content

-- an opened part of content as an element, if it is one
abbrev pub element_from : KidLevel → Option Element
element_from (Kid-F.Element element) = Some element
element_from _ = None

-- a part of content as an element, if it is one
abbrev pub element_of : Kid → Option Element
element_of kid = element_from (out-Kid kid)

-- the elements among parts of content
abbrev pub elements_of : List Kid → List Element
elements_of = filter_map element_of

-- whether there is a tag, and it is this one
abbrev pub is_tag : PushTag → Option PushTag → Bool
is_tag tag None = false
is_tag tag (Some other) = is_same_tag other tag

-- whether an element has this tag
abbrev pub is_tagged : PushTag → Element → Bool
is_tagged tag element = is_tag tag (tag_in element.page element.tag)

-- ---- attributes

-- whether there is a start, and it is one of this attribute
abbrev pub starts : PushField → Option Start → Bool
starts name None = false
starts name (Some start) = is_same_field start.0 name

-- whether an attribute is this one
abbrev pub is_named : PushField → Attr → Bool
is_named name attr = starts name (start_in attr.page attr.start)

-- the first attribute of this name, which counts
abbrev pub first_of : PushField → List Attr → Option Attr
first_of name attrs = find (is_named name) attrs

-- the text with which the value of an attribute begins
abbrev pub start_text : Attr → List ℕ
start_text attr = unwrap_or (option_map (λ start. start.1) (start_in attr.page attr.start)) []

-- the text of an attribute's value
abbrev pub value_text : Attr → List ℕ
value_text attr = start_text attr ++ flat_map piece_text attr.value

-- the text of the first attribute of this name; without one, nothing
abbrev pub text_of : PushField → List Attr → List ℕ
text_of name attrs = unwrap_or (option_map value_text (first_of name attrs)) []

-- what the start of an attribute says of how an indication is to be met; what follows it is passed
-- over
abbrev pub action_in : Attr → Option Action
action_in attr = action_named (start_text attr)

-- how an indication is to be met: where nothing is said, as one of the middle
abbrev pub action_of : List Attr → Action
action_of attrs = unwrap_or (option_and_then action_in (first_of field.Action attrs)) action.Medium

-- a text, if it has a character
abbrev pub if_any : List ℕ → Option (List ℕ)
if_any [] = None
if_any (c ∷ cs) = Some (c ∷ cs)

-- the URL, as it is spelled; an empty one is none
abbrev pub href_of : List Attr → Option (List ℕ)
href_of attrs = if_any (text_of field.Href attrs)

-- an identifier, if it has a character, or else the URL
abbrev pub identifier_or : Option (List ℕ) → List ℕ → Option (List ℕ)
identifier_or href [] = href
identifier_or href (c ∷ cs) = Some (c ∷ cs)

-- the identifier, or else the URL
abbrev pub identifier_of : List Attr → Option (List ℕ)
identifier_of attrs = identifier_or (href_of attrs) (text_of field.SiId attrs)

-- ---- the time at which an indication was made

-- whether a byte is two decimal digits, four bits each
abbrev pub is_pair : ℕ → Bool
is_pair byte = nat_le (byte / 16) 9 && nat_le (byte % 16) 9

-- the number of two digits
abbrev pub pair : ℕ → ℕ
pair byte = byte / 16 * 10 + byte % 16

-- the number of so many pairs of digits; those that are missing are zeros
unfoldable pub digits_of : List ℕ → ℕ → ℕ
digits_of bytes zero = 0
digits_of bytes (suc count) = digits_of bytes count * 100 + pair (get_or bytes count 0)

-- whether bytes are a time: one to seven pairs of digits
abbrev pub is_time : List ℕ → Bool
is_time bytes = nat_le 1 (length bytes) && (nat_le (length bytes) 7 && list_all is_pair bytes)

-- the time that bytes say: seven pairs of digits, YYYYMMDDhhmmss
abbrev pub time_of : List ℕ → Option ℕ
time_of bytes = if is_time bytes then Some (digits_of bytes 7) else None

-- the time that a value says, which is bytes alone
abbrev pub time_in : List Piece → Option ℕ
time_in (piece.Opaque bytes ∷ []) = time_of bytes
time_in _ = None

-- the time that an attribute says; without one it is 0
abbrev pub time_from : Option Attr → Option ℕ
time_from None = Some 0
time_from (Some attr) = time_in attr.value

-- the time at which an indication was made, if attributes say one that can be
abbrev pub created_of : List Attr → Option ℕ
created_of attrs = time_from (first_of field.Created attrs)
