use Rattle.std.proofs.Common.{◌≡◌, true, take}
use Rattle.wap_keys.specs.Prefixes.{is_unended}
use Rattle.wap_keys.proofs.prefix.feed_at.Given as goal

-- no line feed so far
abbrev pub invariant-loop-place : goal.invariant-loop-place
invariant-loop-place l = is_unended (take l.place l.bytes) ≡ true
