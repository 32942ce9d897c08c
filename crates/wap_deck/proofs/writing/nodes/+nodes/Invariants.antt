use Rattle.std.proofs.Common.{◌≡◌, take}
use Rattle.wap_tokens.specs.markup.Writing.{item_kids, node_kids}
use Rattle.wap_wbxml.specs.spelling.Characters.{OfOpened, OfNode}
use Rattle.wap_wbxml.specs.spelling.Writings.{each}
use Rattle.wap_wbxml.specs.spelling.Spelling.{kid_spelling, element_spelling}
use Rattle.wap_wbxml.specs.spelling.Written.{written}
use Rattle.wap_deck.proofs.WritingLemmas.Told.{Left}
use Rattle.wap_deck.proofs.writing.nodes.+nodes.Given as goal

abbrev pub invariant-write_items-loop-item : goal.invariant-write_items-loop-item
invariant-write_items-loop-item l =
    (l.output
    ≡ written (each (λ one.
    each (kid_spelling l.table (element_spelling l.table l.levels))
    (item_kids (node_kids l.levels) one))
    (take l.item-index l.items)) l.initial.output)
    × Left (OfOpened (OfNode l.levels)) l.items l.item-index
