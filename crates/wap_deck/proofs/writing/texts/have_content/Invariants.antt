use Rattle.std.proofs.Common.{◌≡◌, drop}
use Rattle.std.specs.List.{flat_map}
use Rattle.wap_tokens.specs.markup.Writing.{part_kids}
use Rattle.wap_deck.specs.writing.inside.WrittenTexts.{has_any}
use Rattle.wap_deck.proofs.writing.texts.have_content.Given as goal

-- what is left tells it
abbrev pub invariant-loop-part : goal.invariant-loop-part
invariant-loop-part l =
    has_any (flat_map part_kids (drop l.part-index l.parts)) ≡ has_any (flat_map part_kids l.parts)
