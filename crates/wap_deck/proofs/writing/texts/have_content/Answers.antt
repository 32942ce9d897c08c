use Rattle.std.proofs.Common.{sym, ◌∙◌}
use Rattle.wap_tokens.specs.markup.Writing.{part_kids}
use Rattle.wap_deck.proofs.WritingLemmas.Emptiness.{given, passed}
use Rattle.wap_deck.proofs.writing.texts.have_content.Goals as goal

pub returns-then-gives : goal.returns-then-gives
returns-then-gives c =
    given part_kids c.args.parts.now c.loop-part.part-index c.part-item.result
    c.loop-part-test.true c.part-item.is
    c.loop-part.invariant (sym c.if-gives.true ∙ c.gives.ensures)

pub loop-part-preserved : goal.loop-part-preserved
loop-part-preserved c =
    passed part_kids c.args.parts.now c.loop-part.part-index c.part-item.result
    c.loop-part-test.true c.part-item.is
    c.loop-part.invariant (sym c.if-gives.false ∙ c.gives.ensures)
