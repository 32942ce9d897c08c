-- The names that a document has in place of codes, and the string table that is written for them
-- (WAP-192, section 5.7).
use Rattle.std.specs.Prelude.{ℕ, zero, suc, List, [], ◌∷◌, ◌++◌, length}
use Rattle.std.specs.Prelude.{fold, flat_map, encode_utf8_all}
use Rattle.std.specs.List.{before_first}
use Rattle.wap_base.specs.Texts.{is_same_text}
use Rattle.wap_tokens.specs.declared.markup.document.TheConstants.{LEVEL_LIMIT}
use Rattle.wap_tokens.specs.declared.markup.document.Document.{Document}
use Rattle.wap_tokens.specs.declared.markup.document.Element.{Element}
use Rattle.wap_tokens.specs.declared.markup.document.Attr.{Attr}
use Rattle.wap_tokens.specs.declared.markup.document.Token.{Token}
use Rattle.wap_tokens.specs.declared.markup.document.Token.TheVariants.{Code, Literal}
use Rattle.wap_tokens.specs.declared.markup.document.Kid.{Kid, out-Kid}
use Rattle.wap_tokens.specs.declared.markup.document.Kid.TheOpen.{Kid-F}
use Rattle.wap_tokens.specs.markup.Grammar.{with_name}

-- ---- names, each once, in the order of first use: a tag before its attributes, attributes in
-- order, then content

-- names, and that of a token, if it is one
abbrev pub with_token : List (List ℕ) → Token → List (List ℕ)
with_token names (Code code) = names
with_token names (Literal name) = with_name names name

-- names, and that with which an attribute starts
abbrev pub with_attr : List (List ℕ) → Attr → List (List ℕ)
with_attr names attr = with_token names attr.start

-- names, and those of an element
abbrev pub Naming : Type 0
Naming = List (List ℕ) → Element → List (List ℕ)

-- a kid, opened
abbrev pub KidLevel : Type 0
KidLevel = Kid-F Kid Element

-- names, and those of a part of content, by how those of elements are added
abbrev pub with_opened : Naming → List (List ℕ) → KidLevel → List (List ℕ)
with_opened inner names (Kid-F.Element element) = inner names element
with_opened inner names (Kid-F.Pi attr) = with_attr names attr
with_opened inner names _ = names

-- names, and those of a part of content
abbrev pub with_kid : Naming → List (List ℕ) → Kid → List (List ℕ)
with_kid inner names kid = with_opened inner names (out-Kid kid)

-- names, and those of an element, whose own elements are named so: the tag, the attributes, the
-- content
abbrev pub with_element_of : Naming → Naming
with_element_of inner names element =
    fold (with_kid inner) (fold with_attr (with_token names element.tag) element.attrs) element.kids

-- an element of so many levels
unfoldable pub with_element : ℕ → Naming
with_element zero names element = names
with_element (suc levels) names element = with_element_of (with_element levels) names element

-- the names of a document in place of codes, each once, in the order of first use
abbrev pub names_of : Document → List (List ℕ)
names_of document = with_element LEVEL_LIMIT [] document.root

-- ---- their table

-- a string: its UTF-8, and a 0 after it
abbrev pub string : List ℕ → List ℕ
string text = encode_utf8_all text ++ 0 ∷ []

-- the string table of names (WAP-192, section 5.7)
unfoldable pub table_of : List (List ℕ) → List ℕ
table_of names = flat_map string names

-- where a name stands in the table: after the names before it
unfoldable pub place_of : List (List ℕ) → List ℕ → ℕ
place_of names name = length (table_of (before_first (is_same_text name) names))
