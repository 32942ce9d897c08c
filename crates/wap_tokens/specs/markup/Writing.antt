-- The document of a deck: codes where there are some, and else names. This project's own.
use Rattle.std.specs.Prelude.{ℕ, zero, suc, ◌-◌, map, List, [], ◌∷◌, Option, Some, None}
use Rattle.std.specs.List.{flat_map}
use Rattle.std.specs.Option.{option_and_then}
use Rattle.wap_tokens.specs.declared.markup.codes.TheConstants.{VERSION, CHARSET, WML_1_3}
use Rattle.wap_tokens.specs.declared.markup.document.TheConstants.{LEVEL_LIMIT}
use Rattle.wap_base.specs.declared.name.Part.{Part}
use Rattle.wap_base.specs.declared.name.Part.TheVariants.{Lit, Var}
use Rattle.wap_tokens.specs.declared.markup.document.Document.{Document}
use Rattle.wap_tokens.specs.declared.markup.document.Element.{Element}
use Rattle.wap_tokens.specs.declared.markup.document.Attr.{Attr}
use Rattle.wap_tokens.specs.declared.markup.document.Piece.{Piece}
use Rattle.wap_tokens.specs.declared.markup.document.Piece.TheVariants as piece
use Rattle.wap_tokens.specs.declared.markup.document.Token.TheVariants.{Code, Literal}
use Rattle.wap_tokens.specs.declared.markup.document.Kid.{Kid}
use Rattle.wap_tokens.specs.declared.markup.document.Kid.TheVariants as kid
use Rattle.wap_tokens.specs.declared.markup.deck.Deck.{Deck}
use Rattle.wap_tokens.specs.declared.markup.deck.Node.{Node}
use Rattle.wap_tokens.specs.declared.markup.deck.Item.{Item, out-Item}
use Rattle.wap_tokens.specs.declared.markup.deck.Item.TheOpen.{Item-F}
use Rattle.wap_tokens.specs.declared.markup.name.AttrName.{AttrName}
use Rattle.wap_tokens.specs.markup.Tables.{code_of, code_of_start, name_of_attr}
use Rattle.wap_tokens.specs.markup.Trees.{ItemLevel, plain_text}

-- ---- texts

-- a character before the strings of a text
abbrev pub run_before : ℕ → List (Option (List ℕ)) → List (Option (List ℕ))
run_before c (Some text ∷ runs) = Some (c ∷ text) ∷ runs
run_before c runs = Some (c ∷ []) ∷ runs

-- the strings of a text, and nothing for each U+0000, which no string has
abbrev pub runs_of : List ℕ → List (Option (List ℕ))
runs_of [] = []
runs_of (zero ∷ cs) = None ∷ runs_of cs
runs_of (suc c ∷ cs) = run_before (suc c) (runs_of cs)

-- a string of a text, or the character U+0000, as a part of a value
abbrev pub run_piece : Option (List ℕ) → Piece
run_piece None = piece.Entity 0
run_piece (Some text) = piece.Str text

-- the same as a part of content
abbrev pub run_kid : Option (List ℕ) → Kid
run_kid None = kid.Entity 0
run_kid (Some text) = kid.Str text

-- ---- attributes

-- a part of a value, as it is written: a literal by its strings, a reference as it is
abbrev pub part_pieces : Part → List Piece
part_pieces (Lit text) = map run_piece (runs_of text)
part_pieces (Var name conv) = piece.Var name conv ∷ []

-- an attribute that a code starts
abbrev pub coded_attr : ℕ → List Piece → Attr
coded_attr code value = record { page = 0; start = Code code; value = value }

-- by the code of the whole value, or by its name
abbrev pub attr_without : Option ℕ → AttrName → List Piece → Attr
attr_without (Some code) attr value = coded_attr code []
attr_without None attr value =
    record { page = 0; start = Literal (name_of_attr attr); value = value }

-- the code of an attribute with this whole value, where that is plain
abbrev pub whole_code : AttrName → List Part → Option ℕ
whole_code attr parts = option_and_then (λ text. code_of_start (attr, text)) (plain_text parts)

-- an attribute by the code of its name alone, if it has one
abbrev pub attr_with : Option ℕ → AttrName → List Part → Attr
attr_with (Some code) attr parts = coded_attr code (flat_map part_pieces parts)
attr_with None attr parts = attr_without (whole_code attr parts) attr (flat_map part_pieces parts)

-- by the code of an attribute alone, if it has one
abbrev pub attr_of : AttrName × List Part → Attr
attr_of attribute = attr_with (code_of_start (attribute.0, [])) attribute.0 attribute.1

-- ---- content

-- a part of a text, as it is written
abbrev pub part_kids : Part → List Kid
part_kids (Lit text) = map run_kid (runs_of text)
part_kids (Var name conv) = kid.Var name conv ∷ []

-- the content that an opened item is written as, by how nodes are
abbrev pub kids_from : (Node → List Kid) → ItemLevel → List Kid
kids_from inner (Item-F.Text parts) = flat_map part_kids parts
kids_from inner (Item-F.Node node) = inner node

-- the content that an item is written as, by how nodes are
abbrev pub item_kids : (Node → List Kid) → Item → List Kid
item_kids inner item = kids_from inner (out-Item item)

-- the content that items are written as, by how nodes are
abbrev pub items_kids : (Node → List Kid) → List Item → List Kid
items_kids inner items = flat_map (item_kids inner) items

-- the element of a node with this content; its tag and its attributes by their codes
abbrev pub element_of : Node → List Kid → Element
element_of node kids =
    record { page = 0; tag = Code (code_of node.tag); attrs = map attr_of node.attrs; kids = kids }

-- a node of so many levels
abbrev pub node_kids : ℕ → Node → List Kid
node_kids zero node = []
node_kids (suc levels) node =
    kid.Element (element_of node (items_kids (node_kids levels) node.kids)) ∷ []

-- WML 1.3 in UTF-8, by WBXML 1.3
abbrev pub document_of : Deck → Document
document_of deck = record {
  version = VERSION;
  public = WML_1_3;
  charset = CHARSET;
  root = element_of deck.root (items_kids (node_kids (LEVEL_LIMIT - 1)) deck.root.kids);
}
