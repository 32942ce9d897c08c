use Rattle.wap_wbxml.specs.spelling.Spelling.{attr_spelling}
use Rattle.wap_wbxml.proofs.SpellingLemmas.Appending.{each_none, each_step, ended_none, ended_some}
use Rattle.wap_wbxml.proofs.spelling.attributes.write_attributes.Goals as goal

pub loop-attr-init : goal.loop-attr-init
loop-attr-init c = each_none (attr_spelling c.args.table.now) c.args.output.now

pub loop-attr-preserved : goal.loop-attr-preserved
loop-attr-preserved c =
    each_step (attr_spelling c.args.table.now)
    c.args.attrs.now c.args.output.now c.loop-attr.attr-index
    c.attr-item.result c.loop-attr.output c.write_attribute.new.output
    c.loop-attr-test.true c.attr-item.is
    c.loop-attr.invariant c.in_ok-write_attribute.ensures

pub returns-then-is_empty : goal.returns-then-is_empty
returns-then-is_empty c =
    ended_none (attr_spelling c.args.table.now)
    c.args.attrs.now c.args.output.now c.loop-attr.attr-index
    c.loop-attr.output c.if-is_empty.ensures c.loop-attr.invariant

pub returns : goal.returns
returns c =
    ended_some (attr_spelling c.args.table.now)
    c.args.attrs.now c.args.output.now c.loop-attr.attr-index
    c.loop-attr.output c.push.new.self c.loop-attr-test.false c.if-is_empty.ensures
    c.loop-attr.invariant
    c.in_ok-push.ensures.ok
