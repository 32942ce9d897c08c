-- Attributes, content and elements as they are put together. This project's own.
use Rattle.std.specs.Prelude.{◌≡◌, ℕ, suc, ◌<◌, true, Bool, map, find, List, [], ◌∷◌, ◌++◌}
use Rattle.std.specs.Prelude.{Option}
use Rattle.std.specs.Option.{option_map}
use Rattle.std.specs.List.{list_any, filter_map, AllByRecursion, IsDistinct}
use Rattle.wap_base.specs.Texts.{AreDistinct}
use Rattle.wap_base.specs.declared.name.Part.{Part}
use Rattle.wap_tokens.specs.declared.markup.deck.Node.{Node}
use Rattle.wap_tokens.specs.declared.markup.deck.Item.{Item}
use Rattle.wap_tokens.specs.declared.markup.name.Tag.{Tag}
use Rattle.wap_tokens.specs.declared.markup.name.AttrName.{AttrName}
use Rattle.wap_tokens.specs.declared.markup.document.TheConstants.{LEVEL_LIMIT}
use Rattle.wap_tokens.specs.markup.Tables.{is_same_attr}
use Rattle.wap_tokens.specs.markup.Trees.{node_of, words_of}
use Rattle.wap_tokens.specs.markup.Normal.{IsAttribute, IsContent, IsNode}
use Rattle.wap_tokens.specs.markup.Good.{Rule, stands, has_forms, holds_dos, nodes_in, IsGoodNode}
use Rattle.wap_deckcheck.specs.Reached.{HasReached}
use Rattle.wap_deckcheck.specs.Places.{names_among}

-- ---- attributes

-- attributes of an element of a tag
pub record Kept : Type 0 where
  pub tag : Tag
  pub rows : List (AttrName × List Part)

-- whether an attribute has this name
abbrev pub is_named : AttrName → AttrName × List Part → Bool
is_named name attribute = is_same_attr attribute.0 name

-- whether one of some attributes has this name
abbrev pub has_name : AttrName → List (AttrName × List Part) → Bool
has_name name rows = list_any (is_named name) rows

-- the value of the first attribute of this name
abbrev pub value_among : AttrName → List (AttrName × List Part) → Option (List Part)
value_among name rows = option_map (λ a. a.1) (find (λ a. is_same_attr a.0 name) rows)

-- an element of this tag may have an attribute
pub record Suits (tag : Tag) (attribute : AttrName × List Part) : Type 0 where
  pub forms : has_forms (record { tag = tag; attrs = attribute ∷ []; kids = [] }) ≡ true

-- what documents can mean, each once, with a value that it may have
pub record IsKept (tag : Tag) (rows : List (AttrName × List Part)) : Type 0 where
  pub normal : AllByRecursion IsAttribute rows
  pub once : IsDistinct is_same_attr (map (λ a. a.0) rows)
  pub suits : AllByRecursion (Suits tag) rows

-- ---- elements

-- an element of so many levels
pub record Built : Type 0 where
  pub levels : ℕ
  pub node : Node

-- the names of the dos in a card or a template are distinct
abbrev pub IsApart : ℕ → Node → Type 0
IsApart levels node =
    holds_dos node.tag ≡ true → AreDistinct (names_among true levels node.kids)

-- an element that documents can mean, which keeps its rule, as all in it do
pub record IsBuilt (levels : ℕ) (node : Node) : Type 0 where
  pub normal : IsNode levels node
  pub good : AllByRecursion IsGoodNode (node ∷ nodes_in levels node.kids)
  pub apart : IsApart levels node

-- ---- content

-- content of an element with this rule, its elements of so many levels
pub record Filled : Type 0 where
  pub rule : Rule
  pub room : ℕ
  pub items : List Item

-- each of some items may stand where it stands, behind those before them
abbrev pub Stand : Rule → List Item → List Item → Type 0
Stand rule earlier [] = Unit {0}
Stand rule earlier (item ∷ items) =
    (stands rule earlier (node_of item) (words_of item) ≡ true)
    × Stand rule (earlier ++ item ∷ []) items

-- content that documents can mean, in which each item may stand and each element keeps its rule
pub record IsFilled (rule : Rule) (reached room : ℕ) (items : List Item) : Type 0 where
  pub deep : room < LEVEL_LIMIT
  pub order : HasReached rule items reached
  pub content : IsContent (IsNode room) items
  pub stand : Stand rule [] items
  pub good : AllByRecursion IsGoodNode (nodes_in (suc room) items)
  pub apart : AllByRecursion (IsApart room) (filter_map node_of items)
