-- With each part one more of the text is in the content.
use Rattle.std.proofs.Common.{ap, ◌∙◌}
use Rattle.wap_deck.specs.documents.Adding.{part_after}
use Rattle.wap_mend.specs.inside.Building.{Filled}
use Rattle.wap_mend.proofs.Building.{parts_more}
use Rattle.wap_mend.proofs.content.Content.add_text.Goals as goal

pub loop-part-preserved : goal.loop-part-preserved
loop-part-preserved c =
    let begun = c.args.self.now in
    c.in_ok-add_part.ensures
    ∙ ap (λ (filled : Filled). record filled { items = part_after filled.items c.part-item.result })
    c.loop-part.invariant
    ∙ ap (λ items. record begun { items = items })
    (parts_more begun.items c.args.parts.now c.loop-part.part-index c.part-item.result
    c.loop-part-test.true c.part-item.is)
