use Rattle.std.proofs.Common.{◌≡◌, take}
use Rattle.wap_wbxml.specs.spelling.Writings.{each}
use Rattle.wap_wbxml.specs.spelling.Spelling.{kid_spelling, element_spelling}
use Rattle.wap_wbxml.specs.spelling.Written.{written}
use Rattle.wap_wbxml.proofs.spelling.elements.+elements.Given as goal

abbrev pub invariant-write_kids-loop-kid : goal.invariant-write_kids-loop-kid
invariant-write_kids-loop-kid l =
    l.output
    ≡ written (each (kid_spelling l.table (element_spelling l.table l.levels))
    (take l.kid-index l.kids)) l.initial.output
