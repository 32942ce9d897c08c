-- What is made of a document as it is read is the deck that it means.
use Rattle.std.proofs.Common.{◌≡◌, ℕ, zero, suc, ◌-◌, List, [], ◌∷◌, ◌++◌, Option, Some, None}
use Rattle.std.proofs.Common.{refl, sym, ap, ap₂, ◌∙◌, append_assoc}
use Rattle.std.specs.List.{filter_map, cons_option}
use Rattle.std.proofs.lemmas.List.{append-nil}
use Rattle.wap_base.specs.declared.name.Part.{Part}
use Rattle.wap_tokens.specs.declared.markup.document.Attr.{Attr}
use Rattle.wap_tokens.specs.declared.markup.document.Document.{Document}
use Rattle.wap_tokens.specs.declared.markup.document.Element.{Element}
use Rattle.wap_tokens.specs.declared.markup.document.Kid.{Kid, out-Kid}
use Rattle.wap_tokens.specs.declared.markup.document.Kid.TheOpen.{Kid-F}
use Rattle.wap_tokens.specs.declared.markup.document.Piece.{Piece}
use Rattle.wap_tokens.specs.declared.markup.document.TheConstants.{LEVEL_LIMIT}
use Rattle.wap_tokens.specs.declared.markup.deck.Item.{Item}
use Rattle.wap_tokens.specs.declared.markup.deck.Item.TheVariants as item
use Rattle.wap_tokens.specs.declared.markup.deck.Node.{Node}
use Rattle.wap_tokens.specs.declared.markup.name.AttrName.{AttrName}
use Rattle.wap_tokens.specs.declared.markup.name.Tag.{Tag}
use Rattle.wap_tokens.specs.markup.Decks.{KidLevel, start_of, tag_in, value_after, attribute}
use Rattle.wap_tokens.specs.markup.Decks.{attribute_from, marks_from, kid_marks, kids_marks}
use Rattle.wap_tokens.specs.markup.Decks.{items_of, element_from, element_marks, deck_of}
use Rattle.wap_tokens.specs.markup.Tables.{Start}
use Rattle.wap_wbxml.specs.reading.Gathering.{gathered}
use Rattle.wap_wbxml.specs.reading.Making.{pieces_added, attribute_added}
use Rattle.wap_wbxml.specs.reading.Making.{attributes_made, level_added, kids_added}
use Rattle.wap_wbxml.specs.reading.Making.{element_added, element_added_by, whole_made}
use Rattle.wap_deck.specs.documents.Adding.{marks_after}
use Rattle.wap_deck.specs.reading.inside.DeckParts.{Known, begun, deck_parts}
use Rattle.wap_deck.proofs.DocumentsLemmas.Joining.{value_after_added, added_to_none}
use Rattle.wap_deck.proofs.DocumentsLemmas.Joining.{marks_after_append}

-- the attributes of a node
abbrev Attributes : Type 0
Attributes = List (AttrName × List Part)

-- parts of a value after those before them
value_made : (name : AttrName) (text : List ℕ) (known pieces : List Piece)
    → pieces_added deck_parts (Some (name, value_after text known)) pieces
    ≡ Some (name, value_after text (known ++ pieces))
value_made name text known [] =
    ap (λ (pieces : List Piece). Some (name, value_after text pieces)) (sym (append-nil known))
value_made name text known (piece ∷ pieces) =
    ap (λ (value : List Part). pieces_added deck_parts (Some (name, value)) pieces)
    (sym (value_after_added text known piece))
    ∙ value_made name text (known ++ piece ∷ []) pieces
    ∙ ap (λ (pieces : List Piece). Some (name, value_after text pieces))
    (append_assoc known (piece ∷ []) pieces)

-- the value of an attribute that isn't known
none_made : (pieces : List Piece) → pieces_added deck_parts None pieces ≡ None
none_made [] = refl
none_made (piece ∷ pieces) = none_made pieces

-- an attribute by its start
begun_made : (start : Option Start) (pieces : List Piece)
    → pieces_added deck_parts (begun start) pieces ≡ attribute_from start pieces
begun_made None pieces = none_made pieces
begun_made (Some start) pieces = value_made start.0 start.1 [] pieces

-- an attribute, if there is one, before others
cons_append : (first : Known) (attributes : Attributes)
    → cons_option first [] ++ attributes ≡ cons_option first attributes
cons_append None attributes = refl
cons_append (Some first) attributes = refl

-- attributes after those before them
more_attributes : (known : Attributes) (attrs : List Attr)
    → gathered (attribute_added deck_parts) known attrs ≡ known ++ filter_map attribute attrs
more_attributes known [] = sym (append-nil known)
more_attributes known (attr ∷ attrs) =
    ap (λ (first : Known).
    gathered (attribute_added deck_parts) (known ++ cons_option first []) attrs)
    (begun_made (start_of attr.page attr.start) attr.value)
    ∙ more_attributes (known ++ cons_option (attribute attr) []) attrs
    ∙ append_assoc known (cons_option (attribute attr) []) (filter_map attribute attrs)
    ∙ ap (λ (attributes : Attributes). known ++ attributes)
    (cons_append (attribute attr) (filter_map attribute attrs))

-- elements of so many levels give what they mean
abbrev Gives : ℕ → Type 0
Gives levels =
    (items : List Item) (element : Element)
    → element_added deck_parts levels items element
    ≡ marks_after items (element_marks levels element)

-- a part of content, opened
level_made : (levels : ℕ) → Gives levels → (items : List Item) (level : KidLevel)
    → level_added deck_parts (element_added deck_parts levels) items level
    ≡ marks_after items (marks_from (element_marks levels) level)
level_made levels gives items (Kid-F.Element element) = gives items element
level_made levels gives items _ = refl

-- content after items
kids_made : (levels : ℕ) → Gives levels → (items : List Item) (kids : List Kid)
    → kids_added deck_parts levels items kids
    ≡ marks_after items (kids_marks (element_marks levels) kids)
kids_made levels gives items [] = refl
kids_made levels gives items (first ∷ kids) =
    let marks = kid_marks (element_marks levels) first in
    ap (λ (items : List Item). kids_added deck_parts levels items kids)
    (level_made levels gives items (out-Kid first))
    ∙ kids_made levels gives (marks_after items marks) kids
    ∙ sym (marks_after_append items marks (kids_marks (element_marks levels) kids))

-- a node of this tag
node_made : (levels : ℕ) → Gives levels → (tag : Tag) (attrs : List Attr) (kids : List Kid)
    → deck_parts.node tag (attributes_made deck_parts attrs) (kids_added deck_parts levels [] kids)
    ≡ record {
      tag = tag;
      attrs = filter_map attribute attrs;
      kids = items_of (kids_marks (element_marks levels) kids);
    }
node_made levels gives tag attrs kids =
    ap₂ (deck_parts.node tag) (more_attributes [] attrs)
    (kids_made levels gives [] kids ∙ added_to_none (kids_marks (element_marks levels) kids))

-- an element by its tag
tagged_made : (levels : ℕ) → Gives levels → (items : List Item) (tag : Option Tag)
    (attrs : List Attr) (kids : List Kid)
    → element_added_by deck_parts (element_added deck_parts levels) items tag attrs kids
    ≡ marks_after items (element_from tag attrs (kids_marks (element_marks levels) kids))
tagged_made levels gives items None attrs kids = kids_made levels gives items kids
tagged_made levels gives items (Some tag) attrs kids =
    ap (λ (one : Node). items ++ item.Node one ∷ []) (node_made levels gives tag attrs kids)

-- elements of so many levels
gives_marks : (levels : ℕ) → Gives levels
gives_marks zero items element = refl
gives_marks (suc levels) items element =
    tagged_made levels (gives_marks levels) items (tag_in element.page element.tag) element.attrs
    element.kids

-- a document
pub deck_made : (document : Document) → whole_made deck_parts document ≡ deck_of document
deck_made document =
    let root = document.root in
    ap (λ (root : Node). record { root = root })
    (node_made (LEVEL_LIMIT - 1) (gives_marks (LEVEL_LIMIT - 1))
    (deck_parts.root_tag root.page root.tag) root.attrs root.kids)
