use Rattle.std.proofs.Common.{take}
use Rattle.wap_keys.specs.Spelling.{HasNoSpace}
use Rattle.wap_keys.proofs.key.space_at.Given as goal

-- no space so far
abbrev pub invariant-loop-place : goal.invariant-loop-place
invariant-loop-place l = HasNoSpace (take l.place l.bytes)
