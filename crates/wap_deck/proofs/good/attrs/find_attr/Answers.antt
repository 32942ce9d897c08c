use Rattle.std.proofs.Common.{◌∙◌, sym, ap, Some}
use Rattle.std.specs.Str.{chars}
use Rattle.wap_deck.specs.good.Texts.{value_at, behind_value}
use Rattle.wap_deck.proofs.GoodLemmas.Ending.{attr_read, attr_followed}
use Rattle.wap_deck.proofs.GoodLemmas.Seen.{value_here}
use Rattle.wap_deck.proofs.good.attrs.find_attr.Goals as goal

pub value-requires-clause-parts : goal.value-requires-clause-parts
value-requires-clause-parts c =
    let read =
    attr_read c.args.table.now c.args.bytes.now c.in-Some.found (chars c.in-Some.begun.now)
    c.in-Some.value.now c.in-Some.ensures.exact in
    attr_followed c.args.table.now c.args.bytes.now _ (behind_value c.in-Some.value.now) read
    c.requires

pub returns-in-Some : goal.returns-in-Some
returns-in-Some c =
    let read =
    attr_read c.args.table.now c.args.bytes.now c.in-Some.found (chars c.in-Some.begun.now)
    c.in-Some.value.now c.in-Some.ensures.exact in
    ap Some c.value.ensures
    ∙ sym (value_here c.args.table.now c.args.name c.args.bytes.now c.in-Some.found
    (value_at (chars c.in-Some.begun.now) c.in-Some.value.now)
    (behind_value c.in-Some.value.now) read (sym c.eq.ensures ∙ c.if-eq.true))
