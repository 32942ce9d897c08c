use Rattle.std.proofs.Common.{◌≡◌, take}
use Rattle.wap_cardrules.specs.Selects.{chosen}
use Rattle.wap_cards.proofs.inputs.choices.choose_numbers.Given as goal

abbrev pub invariant-loop-number : goal.invariant-loop-number
invariant-loop-number l = l.choice.items ≡ chosen l.count (take l.number-index l.numbers)
