use Rattle.std.proofs.Common.{◌≡◌, take}
use Rattle.std.specs.List.{count_by}
use Rattle.wap_session.specs.inside.Dots.{may_be_control}
use Rattle.wap_session.proofs.dots.count_in_block.Given as goal

abbrev pub invariant-loop-byte : goal.invariant-loop-byte
invariant-loop-byte l = l.count ≡ count_by may_be_control (take l.byte-index l.block)
