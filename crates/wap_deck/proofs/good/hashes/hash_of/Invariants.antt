use Rattle.std.proofs.Common.{◌≡◌, take}
use Rattle.std.specs.List.{fold}
use Rattle.wap_deck.specs.good.inside.Hashes.{with_byte}
use Rattle.wap_deck.proofs.good.hashes.hash_of.Given as goal

-- the hash of the bytes that were passed
abbrev pub invariant-loop-byte : goal.invariant-loop-byte
invariant-loop-byte l = l.hash ≡ fold with_byte 0 (take l.byte-index l.bytes)
