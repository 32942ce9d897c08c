use Rattle.std.proofs.Common.{take}
use Rattle.std.specs.List.{flat_map}
use Rattle.wap_devices.proofs.Putting.{HasPut}
use Rattle.wap_cli.proofs.replay.writing.write_texts.Given as goal

-- the first texts were written
abbrev pub invariant-loop-text : goal.invariant-loop-text
invariant-loop-text g l =
    HasPut (flat_map (λ text. text.items) (take l.text-index l.texts)) (g.O.Sink.seen l.fn.out)
    (g.O.Sink.seen l.out)
