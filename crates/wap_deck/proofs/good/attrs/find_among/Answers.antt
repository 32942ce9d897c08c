use Rattle.std.proofs.Common.{◌∙◌, sym, ap, Some, List}
use Rattle.wap_base.specs.declared.name.Part.{Part}
use Rattle.wap_tokens.specs.declared.markup.name.AttrName.{AttrName}
use Rattle.std.specs.Str.{chars}
use Rattle.wap_deck.specs.good.Texts.{value_at, behind_value}
use Rattle.wap_deck.specs.good.inside.Nodes.{attr_at}
use Rattle.wap_deck.proofs.GoodLemmas.Runs.{fewer}
use Rattle.wap_deck.proofs.GoodLemmas.Ending.{ends_on, attr_lists, attr_read, no_attr}
use Rattle.wap_deck.proofs.GoodLemmas.Ending.{attr_followed}
use Rattle.wap_deck.proofs.GoodLemmas.Taking.{attr_takes}
use Rattle.wap_deck.proofs.GoodLemmas.Seen.{value_here, value_behind, value_end}
use Rattle.wap_deck.proofs.good.attrs.find_among.Goals as goal

pub value-requires-clause-parts : goal.value-requires-clause-parts
value-requires-clause-parts c =
    let read =
    attr_read c.args.table.now c.loop-found.rest.now c.in-Some.found
    (chars c.in-Some.begun.now) c.in-Some.value.now c.in-Some.ensures.exact in
    attr_followed c.args.table.now c.loop-found.rest.now _
    (behind_value c.in-Some.value.now) read c.loop-found.invariant.ends

pub returns-then-eq : goal.returns-then-eq
returns-then-eq c =
    let read =
    attr_read c.args.table.now c.loop-found.rest.now c.in-Some.found
    (chars c.in-Some.begun.now) c.in-Some.value.now c.in-Some.ensures.exact in
    ap Some c.value.ensures
    ∙ sym (value_here c.args.table.now c.args.name c.loop-found.rest.now c.in-Some.found
    (value_at (chars c.in-Some.begun.now) c.in-Some.value.now)
    (behind_value c.in-Some.value.now) read (sym c.eq.ensures ∙ c.if-eq.true))
    ∙ c.loop-found.invariant.value

pub loop-found-smaller : goal.loop-found-smaller
loop-found-smaller c =
    let read =
    attr_read c.args.table.now c.loop-found.rest.now c.in-Some.found
    (chars c.in-Some.begun.now) c.in-Some.value.now c.in-Some.ensures.exact in
    let are =
    attr_followed c.args.table.now c.loop-found.rest.now _
    (behind_value c.in-Some.value.now) read c.loop-found.invariant.ends in
    rw (c.after_bits-rest.ensures.exact are)
    (fewer (attr_at c.args.table.now) (attr_takes c.args.table.now) c.loop-found.rest.now (
      c.in-Some.found,
      value_at (chars c.in-Some.begun.now) c.in-Some.value.now,
    ) (behind_value c.in-Some.value.now) read)

pub loop-found-preserved : goal.loop-found-preserved
loop-found-preserved c =
    let attr : AttrName × List Part =
    (c.in-Some.found, value_at (chars c.in-Some.begun.now) c.in-Some.value.now) in
    let read =
    attr_read c.args.table.now c.loop-found.rest.now c.in-Some.found
    (chars c.in-Some.begun.now) c.in-Some.value.now c.in-Some.ensures.exact in
    let are =
    attr_followed c.args.table.now c.loop-found.rest.now attr
    (behind_value c.in-Some.value.now) read c.loop-found.invariant.ends in
    rw (c.after_bits-rest.ensures.exact are)
    (record {
      value =
          sym (value_behind c.args.table.now c.args.name c.loop-found.rest.now c.in-Some.found
          attr.1 (behind_value c.in-Some.value.now) read (sym c.eq.ensures ∙ c.if-eq.false))
          ∙ c.loop-found.invariant.value;
      ends =
          ends_on (attr_at c.args.table.now) (attr_lists c.args.table.now) c.loop-found.rest.now
          attr (behind_value c.in-Some.value.now) read c.loop-found.invariant.ends;
    })

pub returns : goal.returns
returns c =
    sym (value_end c.args.table.now c.args.name c.loop-found.rest.now
    (no_attr c.args.table.now c.loop-found.rest.now c.in_default.ensures.exact))
    ∙ c.loop-found.invariant.value
