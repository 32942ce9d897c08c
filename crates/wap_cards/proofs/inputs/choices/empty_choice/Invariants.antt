use Rattle.std.proofs.Common.{◌≡◌, []}
use Rattle.wap_cardrules.specs.Selects.{chosen}
use Rattle.wap_cards.proofs.inputs.choices.empty_choice.Given as goal

abbrev pub invariant-loop-place : goal.invariant-loop-place
invariant-loop-place l = l.choice.items ≡ chosen l.place []
