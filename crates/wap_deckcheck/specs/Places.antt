-- The nodes and texts below the root of a deck, each at its place, in the order of the document: a
-- node comes before what is in it. This project's own words for WAP-191, section 11.
use Rattle.std.specs.Prelude.{ℕ, zero, suc, Bool, ◌&&◌, if◌then◌else◌, List, []}
use Rattle.std.specs.Prelude.{◌∷◌, ◌++◌, length, Option, Some, None}
use Rattle.std.specs.List.{filter_map}
use Rattle.std.specs.Option.{option_and_then, option_to_list}
use Rattle.wap_tokens.specs.declared.markup.document.TheConstants.{LEVEL_LIMIT}
use Rattle.wap_tokens.specs.declared.markup.deck.Deck.{Deck}
use Rattle.wap_tokens.specs.declared.markup.deck.Node.{Node}
use Rattle.wap_tokens.specs.declared.markup.deck.Item.{Item}
use Rattle.wap_tokens.specs.declared.markup.name.Tag.TheVariants as tags
use Rattle.wap_tokens.specs.markup.Tables.{is_same_tag}
use Rattle.wap_tokens.specs.markup.Trees.{node_of}
use Rattle.wap_tokens.specs.markup.Cards.{id_of}
use Rattle.wap_tokens.specs.markup.Good.{Rule, rule_of, nodes_in, name_of_do, holds_dos}

-- ---- what is told apart: cards by their ids, and the dos of a card or a template by their names

-- the id of a card
abbrev pub own_id : Node → Option (List ℕ)
own_id node = if is_same_tag node.tag tags.Card then id_of node else None

-- the ids of the cards among items
abbrev pub ids_among : List Item → List (List ℕ)
ids_among items = filter_map own_id (filter_map node_of items)

-- the name of a do, where names are told apart
abbrev pub own_name : Bool → Node → Option (List ℕ)
own_name apart node = if apart && is_same_tag node.tag tags.Do then name_of_do node else None

-- the names of the dos in items, of so many levels
abbrev pub names_among : Bool → ℕ → List Item → List (List ℕ)
names_among apart levels items = filter_map (own_name apart) (nodes_in levels items)

-- ---- places

-- the numbers of the children that lead to an item, from 0, texts included; the rule of the element
-- in which it stands, and what stands before it there; its id or its name, if it has one, and those
-- before it, which have to be others
pub record Place : Type 0 where
  pub path : List ℕ
  pub rule : Rule
  pub earlier : List Item
  pub item : Item
  pub own : Option (List ℕ)
  pub others : List (List ℕ)

-- how the children of a node are told apart: by what, and from which of those before them; and the
-- places in a child, after these ids or names
pub record Level : Type 0 where
  pub own : Node → Option (List ℕ)
  pub others : List Item → List (List ℕ)
  pub inner : List (List ℕ) → List ℕ → Node → List Place

-- the places in a child, if it is a node, by the ids or names before it
abbrev pub inner_places : Level → List (List ℕ) → List ℕ → Option Node → List Place
inner_places level others path None = []
inner_places level others path (Some node) =
    level.inner (others ++ option_to_list (level.own node)) path node

-- the path of the child after these
abbrev pub path_behind : List ℕ → List Item → List ℕ
path_behind path earlier = path ++ length earlier ∷ []

-- the place of an item after earlier ones, in a node at a path
abbrev pub place_of : Level → List ℕ → Rule → List Item → Item → Place
place_of level path rule earlier item = record {
  path = path_behind path earlier;
  rule = rule;
  earlier = earlier;
  item = item;
  own = option_and_then level.own (node_of item);
  others = level.others earlier;
}

-- the places of items after earlier ones, in a node at a path
abbrev pub items_places : Level → List ℕ → Rule → List Item → List Item → List Place
items_places level path rule earlier [] = []
items_places level path rule earlier (item ∷ items) =
    place_of level path rule earlier item ∷
    inner_places level (level.others earlier) (path_behind path earlier) (node_of item) ++
    items_places level path rule (earlier ++ item ∷ []) items

-- ---- in a card or a template, or whatever stands right under the root

-- below a card or a template dos are told apart by their names, if at all, after these names
abbrev pub names_level : (List (List ℕ) → List ℕ → Node → List Place) → Bool → ℕ
    → List (List ℕ) → Level
names_level inner apart levels names = record {
  own = own_name apart;
  others = λ earlier. names ++ names_among apart levels earlier;
  inner = inner;
}

-- the places in a node at a path, of so many levels, after these names
unfoldable pub node_places : ℕ → Bool → List (List ℕ) → List ℕ → Node → List Place
node_places zero apart names path node = []
node_places (suc levels) apart names path node =
    let level = names_level (node_places levels apart) apart (suc levels) names in
    items_places level path (rule_of node.tag) [] node.kids

-- ---- in a deck

-- below the root cards are told apart by their ids, and the dos in each anew
abbrev pub ids_level : Level
ids_level = record {
  own = own_id;
  others = ids_among;
  inner = λ ids path node. node_places LEVEL_LIMIT (holds_dos node.tag) [] path node;
}

-- the places in a deck, in the order of the document
abbrev pub places : Deck → List Place
places deck = items_places ids_level [] (rule_of deck.root.tag) [] deck.root.kids
