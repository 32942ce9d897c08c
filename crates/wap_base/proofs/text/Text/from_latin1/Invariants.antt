use Rattle.std.proofs.Common.{◌≡◌, take}
use Rattle.wap_base.proofs.text.Text.from_latin1.Given as goal

abbrev pub invariant-loop-byte : goal.invariant-loop-byte
invariant-loop-byte l = l.text ≡ take l.byte-index l.bytes
