use Rattle.std.proofs.Common.{◌≡◌, ◌==◌, map, take}
use Rattle.std.specs.List.{enumerate_from}
use Rattle.wap_cardrules.specs.Selects.{turned_if}
use Rattle.wap_cards.proofs.inputs.choices.turn_option.Given as goal

abbrev pub invariant-loop-place : goal.invariant-loop-place
invariant-loop-place l =
    l.turned
    ≡ map (λ one. turned_if (one.0 == l.number) one.1) (enumerate_from 1 (take l.place l.choice))
