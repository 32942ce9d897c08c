use Rattle.std.proofs.Common.{ℕ, List}
use Rattle.wap_keys.specs.KeyReaders.{HasReadBy, room}
use Rattle.wap_keys.proofs.reading.read_all.Given as goal

-- the reader has said the keys of what was taken
abbrev pub invariant-loop-keys : goal.invariant-loop-keys
invariant-loop-keys g l =
    (taken : List ℕ) × HasReadBy g.T.Says.meaning (g.I.Source.seen l.fn.source)
    (g.I.Source.seen l.source) taken l.keys.items l.reader

abbrev pub decreases-loop-keys : goal.decreases-loop-keys
decreases-loop-keys g l = room l.reader
