use Rattle.std.proofs.Common.{◌≡◌, take}
use Rattle.wap_cardrules.specs.Selects.{numbers_of}
use Rattle.wap_cards.proofs.inputs.choices.numbers_of.Given as goal

abbrev pub invariant-loop-place : goal.invariant-loop-place
invariant-loop-place l = l.numbers ≡ numbers_of l.texts (take l.place l.values)
