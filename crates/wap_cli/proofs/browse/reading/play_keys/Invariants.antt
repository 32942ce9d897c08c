use Rattle.wap_keys.specs.KeyReaders.{room}
use Rattle.wap_cli.proofs.BrowseLemmas.Going.{Goes}
use Rattle.wap_cli.proofs.browse.reading.play_keys.Given as goal

-- the keys that were read so far were played
abbrev pub invariant-loop-key : goal.invariant-loop-key
invariant-loop-key g l =
    Goes
    (record {
      pages = g.P.Pages.seen l.fn.pages;
      source = g.I.Source.seen l.fn.keys;
      sink = g.O.Sink.seen l.fn.out;
    })
    (record {
      pages = g.P.Pages.seen l.pages;
      source = g.I.Source.seen l.keys;
      sink = g.O.Sink.seen l.out;
    })
    l.reader l.fn.session l.session

-- each key takes some bytes
abbrev pub decreases-loop-key : goal.decreases-loop-key
decreases-loop-key g l = room l.reader
