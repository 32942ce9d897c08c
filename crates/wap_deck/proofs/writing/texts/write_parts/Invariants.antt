use Rattle.std.proofs.Common.{◌≡◌, take}
use Rattle.wap_wbxml.specs.spelling.Characters.{OfPart}
use Rattle.wap_wbxml.specs.spelling.Writings.{each}
use Rattle.wap_wbxml.specs.spelling.Written.{written}
use Rattle.wap_deck.specs.writing.inside.WrittenTexts.{part_spelling}
use Rattle.wap_deck.proofs.WritingLemmas.Told.{Left}
use Rattle.wap_deck.proofs.writing.texts.write_parts.Given as goal

abbrev pub invariant-loop-part : goal.invariant-loop-part
invariant-loop-part l =
    (l.output ≡ written (each part_spelling (take l.part-index l.parts)) l.initial.output)
    × Left OfPart l.parts l.part-index
