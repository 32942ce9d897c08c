use Rattle.std.proofs.Common.{◌∙◌, sym, ap, length, List, ℕ, Some, arith}
use Rattle.wap_base.specs.declared.name.Part.{Part}
use Rattle.wap_tokens.specs.declared.markup.name.AttrName.{AttrName}
use Rattle.wap_deck.specs.good.Texts.{value_at, behind_value}
use Rattle.wap_deck.proofs.GoodLemmas.Ending.{attr_read, attr_followed, behind_on, behind_first}
use Rattle.wap_deck.proofs.GoodLemmas.Ending.{behind_left, first_is}
use Rattle.wap_deck.proofs.GoodLemmas.HeadLaw.{coded_start}
use Rattle.wap_deck.proofs.good.heads.next_name.Goals as goal

pub returns-clause-named : goal.returns-clause-named
returns-clause-named c = λ table ends.
    let start = c.in_ok-start.start in
    let begin =
    coded_start table c.args.bytes.now c.in_ok-mark.mark c.in_ok-mark.rest.now
    (start.0, start.1.now) c.in_ok-mark.ensures c.if-mark-eq-LITERAL.false
    (sym c.in_ok-start.ensures.start) in
    let read = attr_read table c.args.bytes.now start.0 start.1.now c.in_ok-mark.rest.now begin in
    let are =
    attr_followed table c.args.bytes.now _ (behind_value c.in_ok-mark.rest.now) read ends in
    let parts = value_at start.1.now c.in_ok-mark.rest.now in (
      parts,
      read ∙ ap (λ (l : List ℕ). let w : (AttrName × List Part) × List ℕ = ((start.0, parts), l) in
          Some w) (sym (c.after_bits.ensures.exact are)),
    )

pub returns-clause-shorter : goal.returns-clause-shorter
returns-clause-shorter c =
    let whole =
    ap length (first_is c.args.bytes.now c.in_ok-mark.mark c.in_ok-mark.rest.now
    c.in_ok-mark.ensures) in
    let left =
    behind_left c.after_bits.result.now c.in_ok-mark.rest.now c.after_bits.ensures.behind in
    omega arith

pub returns-clause-behind : goal.returns-clause-behind
returns-clause-behind c =
    behind_on c.after_bits.result.now c.in_ok-mark.rest.now c.args.bytes.now
    c.after_bits.ensures.behind
    (behind_first c.args.bytes.now c.in_ok-mark.mark c.in_ok-mark.rest.now c.in_ok-mark.ensures)
