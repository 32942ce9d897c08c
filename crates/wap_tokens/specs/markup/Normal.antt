-- The decks that documents mean: at most 64 levels, known tags below the root, and neighbouring
-- literals and neighbouring texts joined. This project's own.
use Rattle.std.specs.Prelude.{◌≡◌, ◌≢◌, ℕ, zero, suc, ◌-◌, true, map, List, [], ◌∷◌}
use Rattle.std.specs.List.{flat_map, AllByRecursion}
use Rattle.wap_tokens.specs.declared.markup.document.TheConstants.{LEVEL_LIMIT}
use Rattle.wap_base.specs.declared.name.Part.{Part}
use Rattle.wap_base.specs.declared.name.Part.TheVariants.{Lit, Var}
use Rattle.wap_base.specs.Names.{is_name}
use Rattle.wap_tokens.specs.declared.markup.deck.Deck.{Deck}
use Rattle.wap_tokens.specs.declared.markup.deck.Node.{Node}
use Rattle.wap_tokens.specs.declared.markup.deck.Item.{Item, out-Item}
use Rattle.wap_tokens.specs.declared.markup.deck.Item.TheOpen.{Item-F}
use Rattle.wap_tokens.specs.declared.markup.name.Tag.TheVariants as tags
use Rattle.wap_tokens.specs.declared.markup.name.AttrName.{AttrName}
use Rattle.wap_tokens.specs.markup.Trees.{ItemLevel}
use Rattle.wap_tokens.specs.markup.Decks.{joined, Mark, part, node, items_of}

-- ---- values

-- a literal has a character, and a reference the name of a variable
abbrev pub IsPart : Part → Type 0
IsPart (Lit text) = text ≢ []
IsPart (Var name conv) = is_name name ≡ true

-- the parts of a value, neighbouring literals joined
pub record IsValue (parts : List Part) : Type 0 where
  pub each : AllByRecursion IsPart parts
  pub together : joined parts ≡ parts

-- an attribute with such a value
abbrev pub IsAttribute : AttrName × List Part → Type 0
IsAttribute attribute = IsValue attribute.1

-- ---- content

-- the parts of a text, or the node
abbrev pub marks_in : ItemLevel → List Mark
marks_in (Item-F.Text parts) = map part parts
marks_in (Item-F.Node one) = node one ∷ []

-- the parts of texts and the nodes, one by one
abbrev pub marks_of : List Item → List Mark
marks_of items = flat_map (λ item. marks_in (out-Item item)) items

-- a text of such parts, or a node of which this holds
abbrev pub IsItem : (Node → Type 0) → ItemLevel → Type 0
IsItem inner (Item-F.Text parts) = AllByRecursion IsPart parts
IsItem inner (Item-F.Node one) = inner one

-- such items, neighbouring texts joined
pub record IsContent (inner : Node → Type 0) (items : List Item) : Type 0 where
  pub each : AllByRecursion (λ item. IsItem inner (out-Item item)) items
  pub together : items_of (marks_of items) ≡ items

-- a node of a known tag with such attributes and such content, by what holds of the nodes in it
pub record IsElement (inner : Node → Type 0) (one : Node) : Type 0 where
  pub known : one.tag ≢ tags.Other
  pub attributes : AllByRecursion IsAttribute one.attrs
  pub content : IsContent inner one.kids

-- a node of at most so many levels
abbrev pub IsNode : ℕ → Node → Type 0
IsNode zero one = ⊥
IsNode (suc levels) one = IsElement (IsNode levels) one

-- a deck that a document can mean; the tag of its root may be unknown
pub record IsNormal (deck : Deck) : Type 0 where
  pub attributes : AllByRecursion IsAttribute deck.root.attrs
  pub content : IsContent (IsNode (LEVEL_LIMIT - 1)) deck.root.kids
