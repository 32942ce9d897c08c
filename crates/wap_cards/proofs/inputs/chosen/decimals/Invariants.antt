use Rattle.std.proofs.Common.{◌≡◌, map}
use Rattle.std.specs.Fmt.{decimal}
use Rattle.wap_cardrules.specs.Selects.{numbers}
use Rattle.wap_cards.proofs.inputs.chosen.decimals.Given as goal

abbrev pub invariant-loop-place : goal.invariant-loop-place
invariant-loop-place l = l.some ≡ map decimal (numbers l.place)
