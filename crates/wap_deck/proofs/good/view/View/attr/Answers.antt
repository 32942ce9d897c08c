use Rattle.std.proofs.Common.{◌∙◌, sym}
use Rattle.wap_deck.proofs.GoodLemmas.Seen.{no_such_value}
use Rattle.wap_deck.proofs.good.view.View.attr.Goals as goal

pub returns-then-lacks : goal.returns-then-lacks
returns-then-lacks c =
    no_such_value c.self.inside.table.now c.self.inside.levels c.self.inside.bytes.now
    c.self.invariant.lent.read c.args.self.now c.self.view_is c.args.name
    (c.self.invariant.head.names c.args.name (sym c.lacks.ensures ∙ c.if-lacks.true))
