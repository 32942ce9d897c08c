-- Documents and the decks that they mean (WAP-191: elements, sections 11.1 to 11.5; references to
-- variables, section 10; codes, section 14; the rules for what is unknown are this project's own).
-- A deck has the elements and attributes that have names, their texts and their references to
-- variables. Another element stands for its content; another attribute, a reference whose name is
-- none of a variable, a processing instruction, an extension and opaque data are left out.
use Rattle.std.specs.Prelude.{ℕ, zero, suc, ◌-◌, if◌then◌else◌, unwrap_or, List}
use Rattle.std.specs.Prelude.{[], ◌∷◌, ◌++◌, Option, Some, None}
use Rattle.std.specs.List.{filter_map, flat_map, cons_option}
use Rattle.std.specs.Option.{option_map, option_and_then}
use lib.Utf8.{scalar}
use Rattle.wap_tokens.specs.declared.markup.document.TheConstants.{LEVEL_LIMIT}
use Rattle.wap_base.specs.declared.name.Part.{Part}
use Rattle.wap_base.specs.declared.name.Part.TheVariants.{Lit, Var}
use Rattle.wap_base.specs.declared.name.Conv.{Conv}
use Rattle.wap_base.specs.Names.{is_name}
use Rattle.wap_tokens.specs.declared.markup.document.Document.{Document}
use Rattle.wap_tokens.specs.declared.markup.document.Element.{Element}
use Rattle.wap_tokens.specs.declared.markup.document.Attr.{Attr}
use Rattle.wap_tokens.specs.declared.markup.document.Piece.{Piece}
use Rattle.wap_tokens.specs.declared.markup.document.Piece.TheVariants as piece
use Rattle.wap_tokens.specs.declared.markup.document.Token.{Token}
use Rattle.wap_tokens.specs.declared.markup.document.Token.TheVariants.{Code, Literal}
use Rattle.wap_tokens.specs.declared.markup.document.Kid.{Kid, out-Kid}
use Rattle.wap_tokens.specs.declared.markup.document.Kid.TheOpen.{Kid-F}
use Rattle.wap_tokens.specs.declared.markup.deck.Deck.{Deck}
use Rattle.wap_tokens.specs.declared.markup.deck.Node.{Node}
use Rattle.wap_tokens.specs.declared.markup.deck.Item.{Item}
use Rattle.wap_tokens.specs.declared.markup.deck.Item.TheVariants as item
use Rattle.wap_tokens.specs.declared.markup.name.Tag.{Tag}
use Rattle.wap_tokens.specs.declared.markup.name.Tag.TheVariants as tags
use Rattle.wap_tokens.specs.declared.markup.name.AttrName.{AttrName}
use Rattle.wap_tokens.specs.markup.Tables.{Start, tag_of, tag_named, attr_start, attr_named}
use Rattle.wap_tokens.specs.markup.Tables.{attr_value}
use Rattle.wap_tokens.specs.markup.Trees.{words_of}

-- ---- parts of values and texts

-- a literal, if it has a character
abbrev pub literal : List ℕ → Option Part
literal [] = None
literal (c ∷ cs) = Some (Lit (c ∷ cs))

-- a character by its number
abbrev pub character : ℕ → Option Part
character number = if scalar number then Some (Lit (number ∷ [])) else None

-- a reference, if its name is one of a variable
abbrev pub reference : List ℕ → Conv → Option Part
reference name conv = if is_name name then Some (Var name conv) else None

-- a part before others; two literals are one
abbrev pub before : Part → List Part → List Part
before (Lit text) (Lit more ∷ parts) = Lit (text ++ more) ∷ parts
before part parts = part ∷ parts

-- parts, neighbouring literals joined
abbrev pub joined : List Part → List Part
joined [] = []
joined (part ∷ parts) = before part (joined parts)

-- ---- attributes

-- what a part of a value gives
abbrev pub piece_part : Piece → Option Part
piece_part (piece.Code page code) = option_and_then literal (attr_value page code)
piece_part (piece.Str text) = literal text
piece_part (piece.Entity number) = character number
piece_part (piece.Var name conv) = reference name conv
piece_part (piece.Ext index) = None
piece_part (piece.Opaque bytes) = None

-- what a token starts: codes are those of its page, names are known on every page
abbrev pub start_of : ℕ → Token → Option Start
start_of page (Code code) = attr_start page code
start_of page (Literal name) = option_map (λ attr. (attr, [])) (attr_named name)

-- the value begins with the text of its start
abbrev pub value_after : List ℕ → List Piece → List Part
value_after text value = joined (cons_option (literal text) (filter_map piece_part value))

-- the attribute of a start with its value; where nothing starts, none
abbrev pub attribute_from : Option Start → List Piece → Option (AttrName × List Part)
attribute_from None value = None
attribute_from (Some start) value = Some (start.0, value_after start.1 value)

-- the attribute that one of a document means, if it is known
abbrev pub attribute : Attr → Option (AttrName × List Part)
attribute attr = attribute_from (start_of attr.page attr.start) attr.value

-- ---- content, as parts of texts and nodes

-- what content is made of: parts of texts, and nodes
pub data Mark : Type 0 where
  part : Part → Mark
  node : Node → Mark

-- a part before an item, which it joins if that is a text, and before those after it
abbrev pub text_before : Part → Item → Option (List Part) → List Item → List Item
text_before first next None items = item.Text (first ∷ []) ∷ next ∷ items
text_before first next (Some parts) items = item.Text (before first parts) ∷ items

-- a part before items; it joins the text that follows
abbrev pub part_before : Part → List Item → List Item
part_before first [] = item.Text (first ∷ []) ∷ []
part_before first (next ∷ items) = text_before first next (words_of next) items

-- a part or a node before items
abbrev pub mark_before : Mark → List Item → List Item
mark_before (part first) items = part_before first items
mark_before (node first) items = item.Node first ∷ items

-- the items of content: neighbouring parts are one text
abbrev pub items_of : List Mark → List Item
items_of [] = []
items_of (mark ∷ marks) = mark_before mark (items_of marks)

-- a part, if there is one
abbrev pub part_marks : Option Part → List Mark
part_marks None = []
part_marks (Some one) = part one ∷ []

-- a kid, opened
abbrev pub KidLevel : Type 0
KidLevel = Kid-F Kid Element

-- what a part of content gives, opened, by what elements in it give
abbrev pub marks_from : (Element → List Mark) → KidLevel → List Mark
marks_from inner (Kid-F.Element element) = inner element
marks_from inner (Kid-F.Str text) = part_marks (literal text)
marks_from inner (Kid-F.Entity number) = part_marks (character number)
marks_from inner (Kid-F.Var name conv) = part_marks (reference name conv)
marks_from inner _ = []

-- what a kid gives, and what kids give, by what their elements give
abbrev pub kid_marks : (Element → List Mark) → Kid → List Mark
kid_marks inner kid = marks_from inner (out-Kid kid)

-- what the parts of content give, in order
abbrev pub kids_marks : (Element → List Mark) → List Kid → List Mark
kids_marks inner kids = flat_map (kid_marks inner) kids

-- ---- elements

-- the tag of a token: codes are those of its page, names are known on every page
abbrev pub tag_in : ℕ → Token → Option Tag
tag_in page (Code code) = tag_of page code
tag_in page (Literal name) = tag_named name

-- what an element gives: a node of its tag, or its content where the tag is unknown
abbrev pub element_from : Option Tag → List Attr → List Mark → List Mark
element_from None attrs content = content
element_from (Some tag) attrs content =
    node (record { tag = tag; attrs = filter_map attribute attrs; kids = items_of content }) ∷ []

-- what an element gives, of so many levels
abbrev pub element_marks : ℕ → Element → List Mark
element_marks zero element = []
element_marks (suc levels) element =
    element_from (tag_in element.page element.tag) element.attrs
    (kids_marks (element_marks levels) element.kids)

-- the deck that a document means
abbrev pub deck_of : Document → Deck
deck_of document =
    let root = document.root in
    record {
      root = record {
        tag = unwrap_or (tag_in root.page root.tag) tags.Other;
        attrs = filter_map attribute root.attrs;
        kids = items_of (kids_marks (element_marks (LEVEL_LIMIT - 1)) root.kids);
      };
    }
