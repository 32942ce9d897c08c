use Rattle.std.proofs.Common.{◌≡◌, take}
use Rattle.std.specs.List.{fold}
use Rattle.wap_wbxml.specs.spelling.Names.{with_attr}
use Rattle.wap_wbxml.proofs.spelling.names.add_attrs.Given as goal

abbrev pub invariant-loop-attr : goal.invariant-loop-attr
invariant-loop-attr l =
    l.names.keys ≡ fold with_attr l.initial.names.keys (take l.attr-index l.attrs)
