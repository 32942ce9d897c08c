use Rattle.std.proofs.Common.{◌≡◌, take}
use Rattle.wap_wbxml.specs.spelling.Writings.{each}
use Rattle.wap_wbxml.specs.spelling.Written.{written}
use Rattle.wap_deck.specs.writing.inside.WrittenTexts.{run_spelling}
use Rattle.wap_deck.proofs.writing.texts.write_runs.Given as goal

abbrev pub invariant-loop-run : goal.invariant-loop-run
invariant-loop-run l =
    l.output ≡ written (each run_spelling (take l.run-index l.runs)) l.initial.output
