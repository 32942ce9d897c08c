use Rattle.std.proofs.Common.{subst}
use Rattle.std.specs.List.{AllByRecursion}
use Rattle.wap_image.specs.inside.Fitting.{OfVariable, OfEntry}
use Rattle.wap_image.proofs.SpellingLaws.{parts_fit, image_is, written_is}
use Rattle.wap_image.proofs.writing.write_known.Goals as goal

pub write_image-requires : goal.write_image-requires
write_image-requires c =
    parts_fit c.args.parts.now c.requires.parts c.requires.short
    (subst (AllByRecursion OfVariable) c.as_slice.ensures c.know_variables.ensures)

pub returns-clause-read : goal.returns-clause-read
returns-clause-read c =
    written_is c.args.parts.now c.args.budget c.write_image.result c.write_image.ensures
    (image_is c.args.parts.now c.args.budget c.requires.parts c.requires.turns c.requires.drawn
    c.requires.short (record {
      seed = c.know_number.ensures;
      start = c.know_number-2.ensures;
      turns = c.know_number-3.ensures;
      timer = c.know_timer.ensures;
      vars = subst (AllByRecursion OfVariable) c.as_slice.ensures c.know_variables.ensures;
      history = subst (AllByRecursion OfEntry) c.as_slice-2.ensures c.know_entries.ensures;
    }))
