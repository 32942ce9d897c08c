use Rattle.wap_verify.specs.Kept.{AreRooms}
use Rattle.wap_verify.proofs.function.rooms.Given as goal

abbrev pub invariant-loop-index : goal.invariant-loop-index
invariant-loop-index l = AreRooms l.unit l.index l.rooms
