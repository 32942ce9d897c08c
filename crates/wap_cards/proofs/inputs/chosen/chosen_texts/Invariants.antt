use Rattle.std.proofs.Common.{◌≡◌, take}
use Rattle.std.specs.List.{items_where_true}
use Rattle.wap_cards.proofs.inputs.chosen.chosen_texts.Given as goal

abbrev pub invariant-loop-place : goal.invariant-loop-place
invariant-loop-place l = l.some ≡ items_where_true (take l.place l.choice) (take l.place l.texts)
