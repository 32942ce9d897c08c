-- Decks whose texts are of characters, as those that programs have are. This project's own.
use Rattle.std.specs.Prelude.{◌≡◌, ℕ, zero, suc, true, List}
use Rattle.std.specs.List.{AllByRecursion}
use Rattle.std.specs.Str.{all_scalars}
use Rattle.wap_base.specs.declared.name.Part.{Part}
use Rattle.wap_base.specs.declared.name.Part.TheVariants.{Lit, Var}
use Rattle.wap_tokens.specs.declared.markup.deck.Node.{Node}
use Rattle.wap_tokens.specs.declared.markup.deck.Item.{Item, out-Item}
use Rattle.wap_tokens.specs.declared.markup.deck.Item.TheOpen.{Item-F}
use Rattle.wap_tokens.specs.declared.markup.name.AttrName.{AttrName}
use Rattle.wap_tokens.specs.markup.Trees.{ItemLevel}

-- a part that is of characters, if it is a literal
abbrev pub OfPart : Part → Type 0
OfPart (Lit text) = all_scalars text ≡ true
OfPart (Var name conv) = Unit {0}

-- an attribute whose literals are of characters
abbrev pub OfAttr : AttrName × List Part → Type 0
OfAttr attr = AllByRecursion OfPart attr.1

-- an item whose literals are of characters, by which nodes are so
abbrev pub OfItem : (Node → Type 0) → ItemLevel → Type 0
OfItem inner (Item-F.Text parts) = AllByRecursion OfPart parts
OfItem inner (Item-F.Node node) = inner node

-- the same of an item that isn't opened yet
abbrev pub OfOpened : (Node → Type 0) → Item → Type 0
OfOpened inner item = OfItem inner (out-Item item)

-- a node whose literals are of characters, by which nodes in it are so
pub record OfElement (inner : Node → Type 0) (node : Node) : Type 0 where
  pub attrs : AllByRecursion OfAttr node.attrs
  pub kids : AllByRecursion (OfOpened inner) node.kids

-- a node down to so many levels
unfoldable pub OfNode : ℕ → Node → Type 0
OfNode zero node = Unit {0}
OfNode (suc levels) node = OfElement (OfNode levels) node
