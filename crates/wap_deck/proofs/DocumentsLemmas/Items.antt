-- Items, opened.
use Rattle.std.proofs.Common.{◌≡◌, List, Some, None, ap}
use Rattle.wap_base.specs.declared.name.Part.{Part}
use Rattle.wap_tokens.specs.declared.markup.deck.Node.{Node}
use Rattle.wap_tokens.specs.declared.markup.deck.Item.TheVariants.{Text, outs-Text, outs-Node}
use Rattle.wap_tokens.specs.declared.markup.deck.Item.TheVariants as item
use Rattle.wap_tokens.specs.markup.Trees.{words_from, words_of}

pub words_of-Text : (parts : List Part) → words_of (item.Text parts) ≡ Some parts
words_of-Text parts = ap words_from (outs-Text parts)

pub words_of-Node : (node : Node) → words_of (item.Node node) ≡ None
words_of-Node node = ap words_from (outs-Node node)
