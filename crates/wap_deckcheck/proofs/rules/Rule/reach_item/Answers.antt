use Rattle.std.proofs.Common.{ap, ◌∙◌}
use Rattle.wap_tokens.specs.declared.markup.deck.Item.{out-Item}
use Rattle.wap_tokens.specs.declared.markup.deck.Item.TheVariants.{outs-Text, outs-Node}
use Rattle.wap_deckcheck.proofs.Following.{reached_node_if, reached_text}
use Rattle.wap_deckcheck.proofs.rules.Rule.reach_item.Goals as goal

pub returns-in-Node-clause-reached : goal.returns-in-Node-clause-reached
returns-in-Node-clause-reached c =
    reached_node_if c.args.self.now c.args.earlier.now c.args.reached c.args.item.now
    c.in-Node.node c.requires
    (ap out-Item c.in-Node.is ∙ outs-Node c.in-Node.node) c.reach.result c.reach.ensures.reached

pub returns-then-is_blank_text-clause-reached : goal.returns-then-is_blank_text-clause-reached
returns-then-is_blank_text-clause-reached c =
    reached_text c.args.self.now c.args.earlier.now c.args.reached c.args.item.now c.in-Text.parts
    c.requires (ap out-Item c.in-Text.is ∙ outs-Text c.in-Text.parts)
