-- With each card one more of them is added.
use Rattle.std.proofs.Common.{sym, ◌∙◌}
use Rattle.std.proofs.lemmas.List.{nil_from_length}
use Rattle.wap_mend.proofs.Topping.{adding_more, all_added}
use Rattle.wap_mend.proofs.top.add_cards.Goals as goal

pub loop-card-preserved : goal.loop-card-preserved
loop-card-preserved c =
    adding_more c.args.content.now c.loop-card.content c.add.new.self c.args.cards
    c.loop-card.card-iterator.rest.items c.next.new.self.rest.items c.in-Some.card
    c.in_ok-add.field-0 c.loop-card.invariant c.in-Some.ensures.steps.0 c.in_ok-add.ensures.taken
    c.in_ok-add.ensures.added

pub returns : goal.returns
returns c =
    all_added c.args.content.now c.loop-card.content c.args.cards
    c.loop-card.card-iterator.rest.items c.loop-card.invariant
    (nil_from_length c.loop-card.card-iterator.rest.items
    (sym c.loop-card.card-iterator.rest.ok.0 ∙ c.in-None.ensures.steps.0))
