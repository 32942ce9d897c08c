use Rattle.std.proofs.Common.{◌≡◌, take}
use Rattle.wap_cardrules.specs.Selects.{joined}
use Rattle.wap_cards.proofs.inputs.pieces.join_all.Given as goal

abbrev pub invariant-loop-place : goal.invariant-loop-place
invariant-loop-place l = l.whole ≡ joined (take l.place l.texts)
