-- The one spelling that is written for a document (WAP-192, section 5): WBXML 1.3 in UTF-8, a table
-- of the names alone, strings in place, the shortest numbers, and no switch of the page, no bit of
-- a tag and no end that isn't needed. This project's own choice among those that the grammar
-- allows.
use Rattle.std.specs.Prelude.{ℕ, zero, suc, ◌+◌, List, [], ◌∷◌, ◌++◌, length}
use Rattle.wap_base.specs.Numbers.{mb_spelling}
use Rattle.wap_base.specs.declared.name.Conv.{Conv}
use Rattle.wap_base.specs.declared.name.Conv.TheVariants.{Escape, Unescape, Plain}
use Rattle.wap_tokens.specs.declared.markup.codes.TheConstants.{END, ENTITY, STR_I, LITERAL}
use Rattle.wap_tokens.specs.declared.markup.codes.TheConstants.{EXT_I_0, EXT_I_1, EXT_I_2, PI}
use Rattle.wap_tokens.specs.declared.markup.codes.TheConstants.{EXT_0, OPAQUE, VERSION, CHARSET}
use Rattle.wap_tokens.specs.declared.markup.document.TheConstants.{LEVEL_LIMIT}
use Rattle.wap_tokens.specs.declared.markup.document.Document.{Document}
use Rattle.wap_tokens.specs.declared.markup.document.Element.{Element}
use Rattle.wap_tokens.specs.declared.markup.document.Attr.{Attr}
use Rattle.wap_tokens.specs.declared.markup.document.Token.{Token}
use Rattle.wap_tokens.specs.declared.markup.document.Token.TheVariants.{Code, Literal}
use Rattle.wap_tokens.specs.declared.markup.document.Piece.{Piece}
use Rattle.wap_tokens.specs.declared.markup.document.Piece.TheVariants as piece
use Rattle.wap_tokens.specs.declared.markup.document.Kid.{Kid, out-Kid}
use Rattle.wap_tokens.specs.declared.markup.document.Kid.TheOpen.{Kid-F}
use Rattle.wap_wbxml.specs.declared.spelling.output.Pages.{Pages}
use Rattle.wap_wbxml.specs.spelling.Writings.{Writing, plain, ◌⨾◌, each, ended}
use Rattle.wap_wbxml.specs.spelling.Writings.{on_tag_page, on_attribute_page}
use Rattle.wap_wbxml.specs.spelling.Names.{KidLevel, string, table_of, place_of, names_of}

-- ---- strings, characters, references to variables, extensions and opaque data

-- their number, and the bytes
abbrev pub sized : List ℕ → List ℕ
sized bytes = mb_spelling (length bytes) ++ bytes

-- the byte before the name of a variable in place
abbrev pub variable : Conv → ℕ
variable Escape = EXT_I_0
variable Unescape = EXT_I_1
variable Plain = EXT_I_2

-- ---- attributes; names stand in the table of all names

-- the start of an attribute: its code, or the index of its name in the table of all names
abbrev pub start_spelling : List (List ℕ) → Token → List ℕ
start_spelling names (Code code) = code ∷ []
start_spelling names (Literal name) = LITERAL ∷ mb_spelling (place_of names name)

-- a part of a value; strings and names of variables stand in place
abbrev pub piece_spelling : Piece → Writing
piece_spelling (piece.Code page code) = on_attribute_page page ⨾ plain (code ∷ [])
piece_spelling (piece.Str text) = plain (STR_I ∷ string text)
piece_spelling (piece.Entity number) = plain (ENTITY ∷ mb_spelling number)
piece_spelling (piece.Var name conv) = plain (variable conv ∷ string name)
piece_spelling (piece.Ext number) = plain ((EXT_0 + number) ∷ [])
piece_spelling (piece.Opaque bytes) = plain (OPAQUE ∷ sized bytes)

-- an attribute: its start, and the parts of its value
abbrev pub attr_spelling : List (List ℕ) → Attr → Writing
attr_spelling names attr =
    on_attribute_page attr.page
    ⨾ plain (start_spelling names attr.start)
    ⨾ each piece_spelling attr.value

-- a processing instruction
abbrev pub instruction_spelling : List (List ℕ) → Attr → Writing
instruction_spelling names attr = plain (PI ∷ []) ⨾ attr_spelling names attr ⨾ plain (END ∷ [])

-- ---- elements

-- a bit that says whether there are any
abbrev pub bit : {A : Type 0} → ℕ → List A → ℕ
bit value [] = 0
bit value (x ∷ xs) = value

-- bit 7 of a tag says whether attributes follow, bit 6 whether content does
abbrev pub bits : Element → ℕ
bits element = bit 128 element.attrs + bit 64 element.kids

-- a tag with the bits that say what follows: its code, or the index of its name in the table
abbrev pub tag_spelling : List (List ℕ) → ℕ → Token → List ℕ
tag_spelling names follows (Code code) = (code + follows) ∷ []
tag_spelling names follows (Literal name) = (LITERAL + follows) ∷ mb_spelling (place_of names name)

-- a part of content, by how elements are spelled
abbrev pub opened_spelling : List (List ℕ) → (Element → Writing) → KidLevel → Writing
opened_spelling names inner (Kid-F.Element element) = inner element
opened_spelling names inner (Kid-F.Str text) = plain (STR_I ∷ string text)
opened_spelling names inner (Kid-F.Entity number) = plain (ENTITY ∷ mb_spelling number)
opened_spelling names inner (Kid-F.Var name conv) = plain (variable conv ∷ string name)
opened_spelling names inner (Kid-F.Ext number) = plain ((EXT_0 + number) ∷ [])
opened_spelling names inner (Kid-F.Opaque bytes) = plain (OPAQUE ∷ sized bytes)
opened_spelling names inner (Kid-F.Pi attr) = instruction_spelling names attr

-- the same of a part of content that isn't opened yet
abbrev pub kid_spelling : List (List ℕ) → (Element → Writing) → Kid → Writing
kid_spelling names inner kid = opened_spelling names inner (out-Kid kid)

-- an element, by how those in it are spelled: its tag, its attributes and its content
abbrev pub element_by : List (List ℕ) → (Element → Writing) → Element → Writing
element_by names inner element =
    on_tag_page element.page
    ⨾ plain (tag_spelling names (bits element) element.tag)
    ⨾ ended (attr_spelling names) element.attrs
    ⨾ ended (kid_spelling names inner) element.kids

-- an element of so many levels
unfoldable pub element_spelling : List (List ℕ) → ℕ → Element → Writing
element_spelling names zero element = plain []
element_spelling names (suc levels) element =
    element_by names (element_spelling names levels) element

-- ---- documents

-- the pages of codes that count at first
abbrev pub first_pages : Pages
first_pages = record { tag = 0; attribute = 0 }

-- the version, the public identifier and the character set by their numbers, and the table of names
abbrev pub header_spelling : ℕ → List (List ℕ) → List ℕ
header_spelling public names =
    VERSION ∷ (mb_spelling public ++ (mb_spelling CHARSET ++ sized (table_of names)))

-- the root, with these names in the string table
abbrev pub root_spelling : List (List ℕ) → Element → List ℕ
root_spelling names root = (element_spelling names LEVEL_LIMIT root first_pages).0

-- a document in WBXML 1.3 and UTF-8: the header with the string table, and the root
unfoldable pub spelling : Document → List ℕ
spelling document =
    let names = names_of document in
    header_spelling document.public names ++ root_spelling names document.root

-- the document as it is read again
abbrev pub canon : Document → Document
canon document = record document { version = VERSION; charset = CHARSET }
