use Rattle.std.proofs.Common.{◌≡◌, take}
use Rattle.std.specs.List.{flat_map, enumerate_from}
use Rattle.wap_asm.specs.Placing.{bytes_at, settled}
use Rattle.wap_asm.proofs.bytes.bytes_of.Given as goal

abbrev pub invariant-loop-i : goal.invariant-loop-i
invariant-loop-i l =
    l.code ≡ flat_map (bytes_at l.forms (settled l.forms)) (take l.i (enumerate_from 0 l.forms))
