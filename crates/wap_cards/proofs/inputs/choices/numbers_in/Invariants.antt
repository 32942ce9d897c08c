use Rattle.std.proofs.Common.{◌≡◌, take}
use Rattle.std.specs.List.{filter_map}
use Rattle.wap_cardrules.specs.Selects.{number_of}
use Rattle.wap_cards.proofs.inputs.choices.numbers_in.Given as goal

abbrev pub invariant-loop-piece : goal.invariant-loop-piece
invariant-loop-piece l =
    l.numbers ≡ filter_map (number_of l.count) (take l.piece-index l.piece-items)
