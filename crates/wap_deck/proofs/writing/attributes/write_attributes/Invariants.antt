use Rattle.std.proofs.Common.{◌≡◌, take}
use Rattle.wap_tokens.specs.markup.Writing.{attr_of}
use Rattle.wap_wbxml.specs.spelling.Characters.{OfAttr}
use Rattle.wap_wbxml.specs.spelling.Writings.{each}
use Rattle.wap_wbxml.specs.spelling.Spelling.{attr_spelling}
use Rattle.wap_wbxml.specs.spelling.Written.{written}
use Rattle.wap_deck.proofs.WritingLemmas.Told.{Left}
use Rattle.wap_deck.proofs.writing.attributes.write_attributes.Given as goal

abbrev pub invariant-loop-attribute : goal.invariant-loop-attribute
invariant-loop-attribute l =
    (l.output
    ≡ written (each (λ attribute. attr_spelling l.table (attr_of attribute))
    (take l.attribute-index l.attributes)) l.initial.output)
    × Left OfAttr l.attributes l.attribute-index
