use Rattle.wap_wbxml.proofs.SpellingLemmas.Appending.{each_none, each_step}
use Rattle.wap_deck.specs.writing.inside.WrittenTexts.{run_spelling}
use Rattle.wap_deck.proofs.writing.texts.write_runs.Goals as goal

pub loop-run-init : goal.loop-run-init
loop-run-init c = each_none run_spelling c.args.output.now

pub loop-run-preserved : goal.loop-run-preserved
loop-run-preserved c =
    each_step run_spelling c.args.runs.now c.args.output.now c.loop-run.run-index c.run-item.result
    c.loop-run.output c.write_run.new.output c.loop-run-test.true c.run-item.is c.loop-run.invariant
    c.in_ok-write_run.ensures
