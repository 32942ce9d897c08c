use Rattle.std.proofs.Common.{◌≡◌, take}
use Rattle.std.specs.List.{fold}
use Rattle.wap_wbxml.specs.spelling.Names.{with_kid, with_element}
use Rattle.wap_wbxml.proofs.spelling.names.+elements.Given as goal

abbrev pub invariant-add_kids-loop-kid : goal.invariant-add_kids-loop-kid
invariant-add_kids-loop-kid l =
    l.names.keys
    ≡ fold (with_kid (with_element l.levels)) l.initial.names.keys (take l.kid-index l.kids)
