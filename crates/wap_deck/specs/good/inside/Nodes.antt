-- Nodes, as they stand in the bytes of a deck (WAP-192, section 5.8), and how they are read. Tags
-- and starts of attributes are codes of page 0; the name of an attribute may stand in the string
-- table.
use Rattle.std.specs.Prelude.{◌≡◌, ℕ, zero, suc, ◌-◌, ◌<◌, ◌≤◌, ◌%◌, ◌==◌, if◌then◌else◌}
use Rattle.std.specs.Prelude.{List, [], is_some, Option, Some, None}
use Rattle.wap_base.specs.declared.name.Part.{Part}
use Rattle.wap_tokens.specs.declared.markup.codes.TheConstants.{LITERAL}
use Rattle.wap_tokens.specs.declared.markup.deck.Node.{Node}
use Rattle.wap_tokens.specs.declared.markup.deck.Item.{Item}
use Rattle.wap_tokens.specs.declared.markup.deck.Item.TheVariants as item
use Rattle.wap_tokens.specs.declared.markup.name.Tag.{Tag}
use Rattle.wap_tokens.specs.declared.markup.name.Tag.TheVariants as tags
use Rattle.wap_tokens.specs.declared.markup.name.AttrName.{AttrName}
use Rattle.wap_tokens.specs.markup.Codes.{has_attributes, has_content}
use Rattle.wap_tokens.specs.markup.Strings.{string_from}
use Rattle.wap_tokens.specs.markup.Tables.{Start, tag_of, attr_start, attr_named}
use Rattle.wap_deck.specs.good.Readers.{Reader, ◌>>=◌, rest_of, first_of, number_at}
use Rattle.wap_deck.specs.good.Readers.{closed, closed_if, Ends, Leaves}
use Rattle.wap_deck.specs.good.Texts.{part_at, value_at, behind_value}

-- ---- attributes

-- a start by the index of its name in the string table
unfoldable pub named_at : List ℕ → Reader Start
named_at table bytes =
    number_at bytes >>= λ x.
    attr_named (string_from table x.0) >>= λ attr. Some ((attr, []), x.1)

unfoldable pub start_at : List ℕ → Reader Start
start_at table bytes =
    first_of bytes >>= λ x.
    if x.0 == LITERAL then named_at table x.1
    else (attr_start 0 x.0 >>= λ start. Some (start, x.1))

unfoldable pub attr_at : List ℕ → Reader (AttrName × List Part)
attr_at table bytes =
    start_at table bytes >>= λ x. Some ((x.0.0, value_at x.0.1 x.1), behind_value x.1)

-- ---- nodes

abbrev pub node : Tag → List (AttrName × List Part) → List Item → Node
node tag attrs kids = record { tag = tag; attrs = attrs; kids = kids }

-- a node whose content is read by kid
unfoldable pub node_by : List ℕ → Reader Item → Reader Node
node_by table kid bytes =
    first_of bytes >>= λ x.
    tag_of 0 (x.0 % 64) >>= λ tag.
    closed_if (has_attributes x.0) (attr_at table) x.1 >>= λ attrs.
    closed_if (has_content x.0) kid attrs.1 >>= λ kids.
    Some (node tag attrs.0 kids.0, kids.1)

-- a text, or a node that is read by inner
unfoldable pub item_by : Reader Node → Reader Item
item_by inner bytes =
    if is_some (part_at bytes) then Some (item.Text (value_at [] bytes), behind_value bytes)
    else (inner bytes >>= λ x. Some (item.Node x.0, x.1))

-- a node of so many levels at most
unfoldable pub node_at : List ℕ → ℕ → Reader Node
node_at table zero bytes = None
node_at table (suc levels) bytes = node_by table (item_by (node_at table levels)) bytes

abbrev pub item_at : List ℕ → ℕ → Reader Item
item_at table levels = item_by (node_at table levels)

-- ---- the node that bytes begin with

abbrev pub node_or : Option (Node × List ℕ) → Node
node_or (Some read) = read.0
node_or None = node tags.Other [] []

unfoldable pub front_node : List ℕ → ℕ → List ℕ → Node
front_node table levels bytes = node_or (node_at table levels bytes)

-- bytes begin with a node
pub record IsRead (table : List ℕ) (levels : ℕ) (bytes : List ℕ) : Type 0 where
  pub node : Node
  pub rest : List ℕ
  pub read : node_at table levels bytes ≡ Some (node, rest)

-- ---- bytes that begin with a node, from its attributes on and from its content on; nothing where
-- there are none

unfoldable pub attrs_begin : List ℕ → Option (List ℕ)
attrs_begin bytes = first_of bytes >>= λ x. Some (if has_attributes x.0 then x.1 else [])

unfoldable pub kids_begin : List ℕ → List ℕ → Option (List ℕ)
kids_begin table bytes =
    first_of bytes >>= λ x.
    rest_of (closed_if (has_attributes x.0) (attr_at table) x.1) >>= λ rest.
    Some (if has_content x.0 then rest else [])

-- if bytes begin with a node, these are its content and what follows it; nothing where it has no
-- content
abbrev pub IsContent : List ℕ → List ℕ → Type 0
IsContent bytes content =
    (table begin : List ℕ) → kids_begin table bytes ≡ Some begin → content ≡ begin

-- ---- what follows, where it is read at so many levels at most

abbrev pub FollowsNode : ℕ → List ℕ → List ℕ → Type 0
FollowsNode levels bytes rest =
    (table : List ℕ) (below : ℕ) → below ≤ levels → Leaves (node_at table below) bytes rest

abbrev pub FollowsContent : ℕ → ℕ → List ℕ → List ℕ → Type 0
FollowsContent levels mark bytes rest =
    (table : List ℕ) (below : ℕ) → below ≤ levels → 0 < below
    → Leaves (closed_if (has_content mark) (item_at table (below - 1))) bytes rest

abbrev pub FollowsItems : ℕ → List ℕ → List ℕ → Type 0
FollowsItems levels bytes rest =
    (table : List ℕ) (below : ℕ) → below ≤ levels → Leaves (closed (item_at table below)) bytes rest

abbrev pub FollowsItem : ℕ → List ℕ → List ℕ → Type 0
FollowsItem levels bytes rest =
    (table : List ℕ) (below : ℕ) → below ≤ levels → Ends (item_at table below) bytes
    → Leaves (item_at table below) bytes rest
