use Rattle.std.proofs.Common.{◌≡◌, take}
use Rattle.wap_wbxml.specs.spelling.Writings.{each}
use Rattle.wap_wbxml.specs.spelling.Spelling.{attr_spelling}
use Rattle.wap_wbxml.specs.spelling.Written.{written}
use Rattle.wap_wbxml.proofs.spelling.attributes.write_attributes.Given as goal

abbrev pub invariant-loop-attr : goal.invariant-loop-attr
invariant-loop-attr l =
    l.output ≡ written (each (attr_spelling l.table) (take l.attr-index l.attrs)) l.initial.output
