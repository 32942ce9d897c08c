use Rattle.std.proofs.Common.{take, map}
use Rattle.std.specs.List.{flat_map}
use Rattle.wap_dis.specs.Listing.{spaced}
use Rattle.wap_dis.specs.inside.LineWords.{word_bytes}
use Rattle.wap_dis.specs.inside.Gathering.{Gathers}
use Rattle.wap_dis.specs.inside.Gathered.{state}
use Rattle.wap_dis.proofs.word.put_words.Given as goal

abbrev pub invariant-loop-word : goal.invariant-loop-word
invariant-loop-word g l =
    Gathers (g.O.Sink.seen l.fn.out) (g.O.Sink.seen l.out) (state l.fn.held) (state l.held)
    (flat_map spaced (map word_bytes (take l.word-index l.words)))
