-- What the children of a node are seen as. This project's own.
use Rattle.std.specs.Prelude.{ℕ, List}
use Rattle.std.specs.Borrow.{Bor}
use Rattle.wap_tokens.specs.declared.markup.deck.Item.{Item}
use Rattle.wap_tokens.specs.declared.markup.deck.Item.TheVariants as item
use Rattle.wap_deck.specs.declared.good.kids.Child.{Child}
use Rattle.wap_deck.specs.declared.good.notes.Note.{Note}
use Rattle.wap_deck.specs.declared.good.kids.Child.TheVariants as child

-- the item that a child is seen as
abbrev pub item_of : Child → Item
item_of (child.Text parts) = item.Text parts
item_of (child.Node node) = item.Node node

-- a child, and the bytes after it
abbrev pub child_seen : Child × Bor (List ℕ) × Bor (List Note) → Item × List ℕ
child_seen read = (item_of read.0, read.1.now)
