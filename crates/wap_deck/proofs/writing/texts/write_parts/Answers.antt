use Rattle.std.proofs.Common.{List, ap, ◌∙◌}
use Rattle.std.proofs.lemmas.List.{take_all}
use Rattle.wap_base.specs.declared.name.Part.{Part}
use Rattle.wap_wbxml.specs.spelling.Characters.{OfPart}
use Rattle.wap_wbxml.specs.spelling.Writings.{each}
use Rattle.wap_wbxml.specs.spelling.Written.{written}
use Rattle.wap_wbxml.proofs.SpellingLemmas.Appending.{each_none, each_step}
use Rattle.wap_deck.specs.writing.inside.WrittenTexts.{part_spelling}
use Rattle.wap_deck.proofs.WritingLemmas.Told.{told_more, told_all}
use Rattle.wap_deck.proofs.writing.texts.write_parts.Goals as goal

pub loop-part-init : goal.loop-part-init
loop-part-init c = (each_none part_spelling c.args.output.now, λ left. left)

pub loop-part-preserved : goal.loop-part-preserved
loop-part-preserved c = (
  each_step part_spelling c.args.parts.now c.args.output.now c.loop-part.part-index
      c.part-item.result c.loop-part.output c.write_part.new.output c.loop-part-test.true
      c.part-item.is c.loop-part.invariant.0 c.in_ok-write_part.ensures.written,
  told_more OfPart c.args.parts.now c.loop-part.part-index c.part-item.result
      c.loop-part-test.true c.part-item.is c.loop-part.invariant.1
      c.in_ok-write_part.ensures.characters,
)

pub returns-clause-written : goal.returns-clause-written
returns-clause-written c =
    c.loop-part.invariant.0
    ∙ ap (λ (parts : List Part). written (each part_spelling parts) c.args.output.now)
    (take_all c.loop-part.part-index c.args.parts.now c.loop-part-test.false)

pub returns-clause-characters : goal.returns-clause-characters
returns-clause-characters c =
    told_all OfPart c.args.parts.now c.loop-part.part-index c.loop-part-test.false
    c.loop-part.invariant.1
