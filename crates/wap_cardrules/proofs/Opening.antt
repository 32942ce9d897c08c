-- What an item is, once it is opened.
use Rattle.std.proofs.Common.{◌≡◌, List, sym, ap, ◌∙◌}
use Rattle.wap_base.specs.declared.name.Part.{Part}
use Rattle.wap_tokens.specs.declared.markup.deck.Node.{Node}
use Rattle.wap_tokens.specs.declared.markup.deck.Item.{out-Item, out-roll-Item}
use Rattle.wap_tokens.specs.declared.markup.deck.Item.TheVariants as item
use Rattle.wap_tokens.specs.declared.markup.deck.Item.TheVariants.{rolls-Text, rolls-Node}
use Rattle.wap_tokens.specs.declared.markup.deck.Item.TheOpen.{Item-F}

pub out_text : (parts : List Part) → out-Item (item.Text parts) ≡ Item-F.Text parts
out_text parts = ap out-Item (sym (rolls-Text parts)) ∙ out-roll-Item (Item-F.Text parts)

pub out_node : (n : Node) → out-Item (item.Node n) ≡ Item-F.Node n
out_node n = ap out-Item (sym (rolls-Node n)) ∙ out-roll-Item (Item-F.Node n)
