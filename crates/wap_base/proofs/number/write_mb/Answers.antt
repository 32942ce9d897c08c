use Rattle.std.proofs.Common.{◌∙◌, ap, ◌++◌, List, ℕ}
use Rattle.std.proofs.lemmas.Result.{on_ok_weaker}
use Rattle.wap_base.specs.Numbers.{mb_spelling}
use Rattle.wap_base.proofs.NumberSpelling.{one_more, all_written, taken_whole}
use Rattle.wap_base.proofs.NumberSpelling.{IsShortest-mb_spelling}
use Rattle.wap_base.proofs.number.write_mb.Goals as goal

pub loop-rest-preserved : goal.loop-rest-preserved
loop-rest-preserved c =
    one_more c.loop-rest.start c.loop-rest.rest c.loop-rest.groups
    (mb_spelling c.args.number) c.loop-rest-test.true c.loop-rest.invariant

pub returns-clause-ok : goal.returns-clause-ok
returns-clause-ok c =
    let so_far = c.loop-rest.invariant in
    on_ok_weaker c.add.result (λ added. added ∙ ap (λ (l : List ℕ). c.args.out.now ++ l)
    (taken_whole c.loop-rest.start c.loop-rest.groups so_far.five so_far.within
    ∙ all_written c.loop-rest.start c.loop-rest.rest c.loop-rest.groups
    (mb_spelling c.args.number) c.loop-rest-test.false so_far)) c.add.ensures.ok

pub returns-clause-shortest : goal.returns-clause-shortest
returns-clause-shortest c = IsShortest-mb_spelling c.args.number c.ranges.number.fits
