-- What stays of the texts, elements and attributes of a deck that is mended, and what changes say
-- is lost. This project's own.
use Rattle.std.specs.Prelude.{◌≡◌, ℕ, zero, suc, ◌+◌, Bool, not, ◌||◌, map}
use Rattle.std.specs.Prelude.{filter, length, List, [], ◌∷◌, ◌++◌}
use Rattle.std.specs.List.{flat_map}
use Rattle.wap_base.specs.declared.name.Part.{Part}
use Rattle.wap_base.specs.declared.name.Part.TheVariants.{Lit, Var}
use Rattle.wap_tokens.specs.declared.markup.deck.Deck.{Deck}
use Rattle.wap_tokens.specs.declared.markup.deck.Node.{Node}
use Rattle.wap_tokens.specs.declared.markup.deck.Item.{Item, out-Item}
use Rattle.wap_tokens.specs.declared.markup.deck.Item.TheOpen.{Item-F}
use Rattle.wap_tokens.specs.declared.markup.name.AttrName.{AttrName}
use Rattle.wap_tokens.specs.declared.markup.name.Tag.{Tag}
use Rattle.wap_tokens.specs.declared.markup.name.Tag.TheVariants as tags
use Rattle.wap_tokens.specs.declared.markup.document.TheConstants.{LEVEL_LIMIT}
use Rattle.wap_tokens.specs.markup.Tables.{is_same_tag}
use Rattle.wap_tokens.specs.markup.Trees.{ItemLevel}
use Rattle.wap_tokens.specs.markup.Good.{is_blank, nodes_in}
use Rattle.wap_mend.specs.declared.change.Change.{Change}

-- ---- signs

-- a character by itself
abbrev pub character : ℕ → Part
character c = Lit (c ∷ [])

-- the signs of a text, one by one: its characters but for blanks, and its references
abbrev pub signs_of : List Part → List Part
signs_of [] = []
signs_of (Lit text ∷ parts) =
    map character (filter (λ c. not (is_blank c)) text) ++ signs_of parts
signs_of (Var name conv ∷ parts) = Var name conv ∷ signs_of parts

-- those of an item, by those of a node
abbrev pub item_signs : (Node → List Part) → ItemLevel → List Part
item_signs inner (Item-F.Text parts) = signs_of parts
item_signs inner (Item-F.Node node) = inner node

-- those in a node of so many levels, and in items of so many levels, in the order of the document
abbrev pub node_signs : ℕ → Node → List Part
node_signs zero node = []
node_signs (suc levels) node =
    flat_map (λ item. item_signs (node_signs levels) (out-Item item)) node.kids

abbrev pub signs_in : ℕ → List Item → List Part
signs_in levels items = flat_map (λ item. item_signs (node_signs levels) (out-Item item)) items

-- those of a deck
abbrev pub signs : Deck → List Part
signs deck = node_signs LEVEL_LIMIT deck.root

-- those that changes say are lost
abbrev pub lost : List Change → List Part
lost changes = flat_map (λ change. signs_of change.lost.texts) changes

-- ---- order and number

-- some of a list, in its order
pub data IsWithin {X : Type 0} : List X → List X → Type 0 where
  nothing : IsWithin [] []
  kept : (x : X) (some all : List X) → IsWithin some all → IsWithin (x ∷ some) (x ∷ all)
  left_out : (x : X) (some all : List X) → IsWithin some all → IsWithin some (x ∷ all)

-- how many pass a test
abbrev pub number : {X : Type 0} → (X → Bool) → List X → ℕ
number test xs = length (filter test xs)

-- whether an element of this tag is a paragraph, preformatted or not
abbrev pub is_paragraph : Tag → Bool
is_paragraph tag = is_same_tag tag tags.P || is_same_tag tag tags.Pre

-- some tags, but for those of paragraphs
abbrev pub but_paragraphs : List Tag → List Tag
but_paragraphs all = filter (λ tag. not (is_paragraph tag)) all

-- the tags of nodes, but for paragraphs
abbrev pub tags_of_nodes : List Node → List Tag
tags_of_nodes nodes = but_paragraphs (map (λ node. node.tag) nodes)

-- the tags of the elements that changes say are gone, but for paragraphs
abbrev pub gone : List Change → List Tag
gone changes = flat_map (λ change. but_paragraphs change.lost.elements) changes

-- ---- attributes

-- an attribute of an element of a tag, with its value
abbrev pub Attribute : Type 0
Attribute = Tag × AttrName × List Part

-- some attributes, but for those of paragraphs
abbrev pub of_no_paragraph : List Attribute → List Attribute
of_no_paragraph all = filter (λ attribute. not (is_paragraph attribute.0)) all

-- those of an element of a tag, if it isn't a paragraph
abbrev pub attributes_of : Tag → List (AttrName × List Part) → List Attribute
attributes_of tag own = of_no_paragraph (map (λ row. (tag, row.0, row.1)) own)

-- those of nodes
abbrev pub attributes_of_nodes : List Node → List Attribute
attributes_of_nodes nodes = flat_map (λ node. attributes_of node.tag node.attrs) nodes

-- those that changes say are gone, and those that they say came
abbrev pub gone_attributes : List Change → List Attribute
gone_attributes changes = flat_map (λ change. of_no_paragraph change.lost.attributes) changes

abbrev pub came : List Change → List Attribute
came changes = flat_map (λ change. of_no_paragraph change.came) changes

-- ---- decks

-- the tags of the elements below the root of a deck, but for paragraphs
abbrev pub elements : Deck → List Tag
elements deck = tags_of_nodes (nodes_in LEVEL_LIMIT deck.root.kids)

-- the attributes of the elements of a deck, but for paragraphs; its root counts as wml
abbrev pub attributes : Deck → List Attribute
attributes deck =
    attributes_of tags.Wml deck.root.attrs
    ++ attributes_of_nodes (nodes_in LEVEL_LIMIT deck.root.kids)

-- a deck is made of another, and changes say what is lost: its signs are some of those that were
-- given, in their order; each sign that was given is in it, or is said to be lost; each element but
-- paragraphs that was given is in it, or is said to be gone; and so is each attribute of those,
-- with its value, but for those that are said to have come
pub record IsMadeOf (given : Deck) (changes : List Change) (made : Deck) : Type 0 where
  pub order : IsWithin (signs made) (signs given)
  pub all : (test : Part → Bool) →
      number test (signs given) ≡ number test (signs made) + number test (lost changes)
  pub elements : (test : Tag → Bool) →
      number test (elements given) ≡ number test (elements made) + number test (gone changes)
  pub attributes : (test : Attribute → Bool) →
      number test (attributes given) + number test (came changes)
      ≡ number test (attributes made) + number test (gone_attributes changes)
