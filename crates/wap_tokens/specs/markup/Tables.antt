-- WML's names and their codes (WAP-191, section 14.3), as this crate's tables list them. The codes
-- are those of page 0; no other page has any. All these texts are of US-ASCII, so their bytes are
-- their characters.
use Rattle.std.specs.Prelude.{ℕ, Bool, ◌==◌, ◌&&◌, nat_eq, if◌then◌else◌, map}
use Rattle.std.specs.Prelude.{unwrap_or, List, [], Option, None}
use Rattle.std.specs.Map.{lookup}
use Rattle.wap_base.specs.Texts.{is_same_text}
use Rattle.wap_tokens.specs.declared.markup.name.Tag.{Tag}
use Rattle.wap_tokens.specs.declared.markup.name.AttrName.{AttrName}
use Rattle.wap_tokens.specs.declared.markup.tables.TheConstants.{TAGS, ATTR_NAMES, ATTR_STARTS}
use Rattle.wap_tokens.specs.declared.markup.tables.TheConstants.{ATTR_VALUES}
use Rattle.wap_tokens.specs.contracts.markup.name.Tag as tags
use Rattle.wap_tokens.specs.contracts.markup.name.AttrName as names
use denote.Enum.Bare.{sameb}

-- ---- tags

-- whether two tags are the same
abbrev pub is_same_tag : Tag → Tag → Bool
is_same_tag = sameb tags.the_type

-- a code, a tag and its name
abbrev pub TagRow : Type 0
TagRow = ℕ × Tag × List ℕ

-- a row by its code, for the tag
abbrev pub tag_by_code : TagRow → ℕ × Tag
tag_by_code row = (row.0, row.1)

-- a row by its name, for the tag
abbrev pub tag_by_name : TagRow → List ℕ × Tag
tag_by_name row = (row.2, row.1)

-- a row by its tag, for the code
abbrev pub code_by_tag : TagRow → Tag × ℕ
code_by_tag row = (row.1, row.0)

-- a row by its tag, for the name
abbrev pub name_by_tag : TagRow → Tag × List ℕ
name_by_tag row = (row.1, row.2)

-- the tags, as the program's table lists them
unfoldable pub tag_rows : List TagRow
tag_rows = map (λ row. (row.0, row.1, row.2.now)) TAGS

-- the tag of a code, and of a name
unfoldable pub tag_of : ℕ → ℕ → Option Tag
tag_of page code = if page == 0 then lookup (nat_eq code) (map tag_by_code tag_rows) else None

-- the tag of a name
unfoldable pub tag_named : List ℕ → Option Tag
tag_named name = lookup (is_same_text name) (map tag_by_name tag_rows)

-- the code of a tag, and its name; without one, 0 and nothing
unfoldable pub code_of : Tag → ℕ
code_of tag = unwrap_or (lookup (is_same_tag tag) (map code_by_tag tag_rows)) 0

-- the name of a tag; without one, nothing
unfoldable pub name_of_tag : Tag → List ℕ
name_of_tag tag = unwrap_or (lookup (is_same_tag tag) (map name_by_tag tag_rows)) []

-- ---- attributes

-- whether two attributes are the same
abbrev pub is_same_attr : AttrName → AttrName → Bool
is_same_attr = sameb names.the_type

-- an attribute and its name
abbrev pub NameRow : Type 0
NameRow = AttrName × List ℕ

-- a row by its name, for the attribute
abbrev pub attr_by_name : NameRow → List ℕ × AttrName
attr_by_name row = (row.1, row.0)

-- the attributes, as the program's table lists them
unfoldable pub name_rows : List NameRow
name_rows = map (λ row. (row.0, row.1.now)) ATTR_NAMES

-- the attribute of a name
unfoldable pub attr_named : List ℕ → Option AttrName
attr_named name = lookup (is_same_text name) (map attr_by_name name_rows)

-- the name of an attribute
unfoldable pub name_of_attr : AttrName → List ℕ
name_of_attr attr = unwrap_or (lookup (is_same_attr attr) name_rows) []

-- ---- starts of attributes: an attribute, and the text with which its value begins

-- an attribute, and the text with which its value begins
abbrev pub Start : Type 0
Start = AttrName × List ℕ

-- whether two starts are the same
abbrev pub is_same_start : Start → Start → Bool
is_same_start a b = is_same_attr a.0 b.0 && is_same_text a.1 b.1

-- a code and its start
abbrev pub StartRow : Type 0
StartRow = ℕ × AttrName × List ℕ

-- a row by its code, for the start
abbrev pub start_by_code : StartRow → ℕ × Start
start_by_code row = (row.0, (row.1, row.2))

-- a row by its start, for the code
abbrev pub code_by_start : StartRow → Start × ℕ
code_by_start row = ((row.1, row.2), row.0)

-- a row by its attribute, for the code
abbrev pub code_by_attr : StartRow → AttrName × ℕ
code_by_attr row = (row.1, row.0)

-- the starts, as the program's table lists them
unfoldable pub start_rows : List StartRow
start_rows = map (λ row. (row.0, row.1, row.2.now)) ATTR_STARTS

-- the start of a code; only page 0 has any
unfoldable pub attr_start : ℕ → ℕ → Option Start
attr_start page code =
    if page == 0 then lookup (nat_eq code) (map start_by_code start_rows) else None

-- the code of a start, and the first of an attribute
unfoldable pub code_of_start : Start → Option ℕ
code_of_start start = lookup (is_same_start start) (map code_by_start start_rows)

-- the first code that starts an attribute
unfoldable pub first_code : AttrName → Option ℕ
first_code attr = lookup (is_same_attr attr) (map code_by_attr start_rows)

-- the code of an attribute with nothing before its value; without one, its first
abbrev pub start_code : AttrName → ℕ
start_code attr = unwrap_or (code_of_start (attr, [])) (unwrap_or (first_code attr) 0)

-- ---- parts of values: a code and its text

-- a code and its text
abbrev pub ValueRow : Type 0
ValueRow = ℕ × List ℕ

-- the parts of values, as the program's table lists them
unfoldable pub value_rows : List ValueRow
value_rows = map (λ row. (row.0, row.1.now)) ATTR_VALUES

-- the text of a code; only page 0 has any
unfoldable pub attr_value : ℕ → ℕ → Option (List ℕ)
attr_value page code = if page == 0 then lookup (nat_eq code) value_rows else None
