use Rattle.std.proofs.Common.{◌≡◌, take}
use Rattle.std.specs.List.{fold}
use Rattle.wap_tokens.specs.markup.Writing.{attr_of}
use Rattle.wap_wbxml.specs.spelling.Names.{with_attr}
use Rattle.wap_deck.proofs.writing.names.add_attributes.Given as goal

abbrev pub invariant-loop-attribute : goal.invariant-loop-attribute
invariant-loop-attribute l =
    l.names.keys ≡ fold (λ names one. with_attr names (attr_of one)) l.initial.names.keys
    (take l.attribute-index l.attributes)
