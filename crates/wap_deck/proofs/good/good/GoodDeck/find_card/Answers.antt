use Rattle.std.proofs.Common.{◌∙◌, ◌≤◌, sym, refl, length, arith}
use Rattle.wap_tokens.specs.markup.Cards.{cards_of}
use Rattle.wap_deck.proofs.GoodLemmas.CardLaw.{found_by, passed_by, found_nowhere}
use Rattle.wap_deck.proofs.good.good.GoodDeck.find_card.Goals as goal

pub returns-then-is_numbered : goal.returns-then-is_numbered
returns-then-is_numbered c =
    found_by c.args.self.now c.args.id.now c.loop-number.number c.loop-number.invariant _ refl
    (sym c.is_numbered.ensures ∙ c.if-is_numbered.true)

pub loop-number-preserved : goal.loop-number-preserved
loop-number-preserved c =
    passed_by c.args.self.now c.args.id.now c.loop-number.number c.loop-number.invariant _ refl
    (sym c.is_numbered.ensures ∙ c.if-is_numbered.false)

pub returns : goal.returns
returns c =
    let past : length (cards_of c.args.self.now) ≤ c.loop-number.number =
    omega (arith, c.card_count-number-end.ensures) in
    found_nowhere c.args.self.now c.args.id.now c.loop-number.number c.loop-number.invariant past
