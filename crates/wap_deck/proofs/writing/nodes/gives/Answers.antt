use Rattle.wap_deck.proofs.WritingLemmas.Content.{node_gives}
use Rattle.wap_deck.proofs.writing.nodes.gives.Goals as goal

pub returns-in-Node : goal.returns-in-Node
returns-in-Node c = node_gives c.args.levels c.args.item.now c.in-Node.field-0 c.in-Node.is
