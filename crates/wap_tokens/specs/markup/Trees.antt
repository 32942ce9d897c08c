-- What a deck has: its nodes, their texts, and the values of their attributes (WAP-191, section
-- 11). This project's own words.
use Rattle.std.specs.Prelude.{ℕ, Bool, true, false, if◌then◌else◌, List, []}
use Rattle.std.specs.Prelude.{◌∷◌, find, Option, Some, None}
use Rattle.std.specs.Option.{option_map, option_and_then}
use Rattle.std.specs.List.{filter_map}
use Rattle.wap_base.specs.declared.name.Part.{Part}
use Rattle.wap_base.specs.declared.name.Part.TheVariants.{Lit}
use Rattle.wap_base.specs.Texts.{is_same_text}
use Rattle.wap_tokens.specs.declared.markup.deck.Node.{Node}
use Rattle.wap_tokens.specs.declared.markup.deck.Item.{Item, out-Item}
use Rattle.wap_tokens.specs.declared.markup.deck.Item.TheOpen.{Item-F}
use Rattle.wap_tokens.specs.declared.markup.name.Tag.{Tag}
use Rattle.wap_tokens.specs.declared.markup.name.AttrName.{AttrName}
use Rattle.wap_tokens.specs.markup.Tables.{is_same_tag, is_same_attr}

-- ---- items

-- an item, opened
abbrev pub ItemLevel : Type 0
ItemLevel = Item-F Item Node

-- an opened item as a node, if it is one
abbrev pub node_from : ItemLevel → Option Node
node_from (Item-F.Node node) = Some node
node_from (Item-F.Text parts) = None

-- the item as a node, if it is one
abbrev pub node_of : Item → Option Node
node_of item = node_from (out-Item item)

-- an opened item as the parts of a text, if it is one
abbrev pub words_from : ItemLevel → Option (List Part)
words_from (Item-F.Node node) = None
words_from (Item-F.Text parts) = Some parts

-- the item as a text, if it is one
abbrev pub words_of : Item → Option (List Part)
words_of item = words_from (out-Item item)

-- a node, if there is one and it has this tag
abbrev pub if_tagged : Tag → Option Node → Option Node
if_tagged tag None = None
if_tagged tag (Some node) = if is_same_tag node.tag tag then Some node else None

-- the item as a node of this tag, if it is one
abbrev pub node_with : Tag → Item → Option Node
node_with tag item = if_tagged tag (node_of item)

-- the first of some items that is a node of this tag
abbrev pub first_with : Tag → List Item → Option Node
first_with tag items = find (λ node. true) (filter_map (node_with tag) items)

-- ---- attributes

-- the value of a node's first attribute of this name
abbrev pub value_of : AttrName → Node → Option (List Part)
value_of name node = option_map (λ a. a.1) (find (λ a. is_same_attr a.0 name) node.attrs)

-- the text of a value that has no reference and no two literals
abbrev pub plain_text : List Part → Option (List ℕ)
plain_text [] = Some []
plain_text (Lit text ∷ []) = Some text
plain_text _ = None

-- the text of a node's first attribute of this name, where it is plain
abbrev pub plain_value : AttrName → Node → Option (List ℕ)
plain_value name node = option_and_then plain_text (value_of name node)

-- whether there is a text, and it is this one
abbrev pub is_text : List ℕ → Option (List ℕ) → Bool
is_text text None = false
is_text text (Some other) = is_same_text other text
