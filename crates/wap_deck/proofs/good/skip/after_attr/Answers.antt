use Rattle.std.proofs.Common.{◌∷◌}
use Rattle.wap_deck.proofs.GoodLemmas.Ending.{behind_on, value_behind_number, value_behind_mark}
use Rattle.wap_deck.proofs.GoodLemmas.Ending.{attr_leaves}
use Rattle.wap_deck.proofs.good.skip.after_attr.Goals as goal

pub returns-then-mark-eq-LITERAL-clause-exact : goal.returns-then-mark-eq-LITERAL-clause-exact
returns-then-mark-eq-LITERAL-clause-exact c = λ table.
    let value =
    value_behind_number table c.args.mark c.args.bytes.now c.after_number.result.now
    c.if-mark-eq-LITERAL.true c.after_number.ensures.exact in
    attr_leaves table (c.args.mark ∷ c.args.bytes.now)
    c.after_number.result.now c.after_bits.result.now value c.after_bits.ensures.exact

pub returns-then-mark-eq-LITERAL-clause-behind : goal.returns-then-mark-eq-LITERAL-clause-behind
returns-then-mark-eq-LITERAL-clause-behind c =
    behind_on c.after_bits.result.now c.after_number.result.now c.args.bytes.now
    c.after_bits.ensures.behind c.after_number.ensures.behind

pub returns-else-mark-eq-LITERAL-clause-exact : goal.returns-else-mark-eq-LITERAL-clause-exact
returns-else-mark-eq-LITERAL-clause-exact c = λ table.
    let value = value_behind_mark table c.args.mark c.args.bytes.now c.if-mark-eq-LITERAL.false in
    attr_leaves table
    (c.args.mark ∷ c.args.bytes.now) c.args.bytes.now c.after_bits-else-mark-eq-LITERAL.result.now
    value c.after_bits-else-mark-eq-LITERAL.ensures.exact
