use Rattle.std.proofs.Common.{ap, ◌∙◌, List}
use Rattle.wap_base.specs.declared.name.Part.{Part}
use Rattle.wap_tokens.specs.declared.markup.name.AttrName.{AttrName}
use Rattle.wap_tokens.specs.markup.Writing.{attr_of}
use Rattle.wap_wbxml.specs.spelling.Characters.{OfAttr}
use Rattle.wap_wbxml.specs.spelling.Writings.{Writing}
use Rattle.wap_wbxml.specs.spelling.Spelling.{attr_spelling}
use Rattle.wap_wbxml.specs.spelling.Written.{written}
use Rattle.wap_wbxml.proofs.SpellingLemmas.Appending.{each_none, each_step, ended_none, ended_some}
use Rattle.wap_deck.proofs.WritingLemmas.Lists.{ended_map}
use Rattle.wap_deck.proofs.WritingLemmas.Told.{told_more, told_all}
use Rattle.wap_deck.proofs.writing.attributes.write_attributes.Goals as goal

pub loop-attribute-init : goal.loop-attribute-init
loop-attribute-init c = (
  each_none (λ (one : AttrName × List Part). attr_spelling c.args.table.now (attr_of one))
      c.args.output.now,
  λ left. left,
)

pub loop-attribute-preserved : goal.loop-attribute-preserved
loop-attribute-preserved c = (
  each_step (λ (one : AttrName × List Part). attr_spelling c.args.table.now (attr_of one))
      c.args.attributes.now c.args.output.now c.loop-attribute.attribute-index
      c.attribute-item.result c.loop-attribute.output c.write_attribute.new.output
      c.loop-attribute-test.true c.attribute-item.is c.loop-attribute.invariant.0
      c.in_ok-write_attribute.ensures.written,
  told_more OfAttr c.args.attributes.now c.loop-attribute.attribute-index c.attribute-item.result
      c.loop-attribute-test.true c.attribute-item.is c.loop-attribute.invariant.1
      c.in_ok-write_attribute.ensures.characters,
)

pub returns-then-is_empty-clause-written : goal.returns-then-is_empty-clause-written
returns-then-is_empty-clause-written c =
    ended_none (λ (one : AttrName × List Part). attr_spelling c.args.table.now (attr_of one))
    c.args.attributes.now
    c.args.output.now c.loop-attribute.attribute-index c.loop-attribute.output c.if-is_empty.ensures
    c.loop-attribute.invariant.0
    ∙ ap (λ (w : Writing). written w c.args.output.now)
    (ended_map (attr_spelling c.args.table.now) attr_of c.args.attributes.now)

pub returns-clause-written : goal.returns-clause-written
returns-clause-written c =
    ended_some (λ (one : AttrName × List Part). attr_spelling c.args.table.now (attr_of one))
    c.args.attributes.now
    c.args.output.now c.loop-attribute.attribute-index c.loop-attribute.output c.push.new.self
    c.loop-attribute-test.false c.if-is_empty.ensures c.loop-attribute.invariant.0
    c.in_ok-push.ensures.ok
    ∙ ap (λ (w : Writing). written w c.args.output.now)
    (ended_map (attr_spelling c.args.table.now) attr_of c.args.attributes.now)

pub returns-then-is_empty-clause-characters : goal.returns-then-is_empty-clause-characters
returns-then-is_empty-clause-characters c =
    told_all OfAttr c.args.attributes.now c.loop-attribute.attribute-index
    c.loop-attribute-test.false c.loop-attribute.invariant.1

pub returns-clause-characters : goal.returns-clause-characters
returns-clause-characters c =
    told_all OfAttr c.args.attributes.now c.loop-attribute.attribute-index
    c.loop-attribute-test.false c.loop-attribute.invariant.1
