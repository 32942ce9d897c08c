use Rattle.std.specs.List.{AllZip}
use Rattle.std.proofs.lemmas.Result.{IfOk-weaker}
use Rattle.wap_cli.specs.replay.inside.Jobs.{IsJudged}
use Rattle.wap_cli.proofs.PrepareLemmas.Entries.{all_there}
use Rattle.wap_cli.proofs.replay.preparing.judge_pages.Goals as goal

pub returns : goal.returns
returns g c =
    IfOk-weaker c.all_answers.result _ (λ pages. AllZip IsJudged c.args.jobs.now pages.items)
    (λ pages same. all_there IsJudged c.args.jobs.now pages.items c.in_ok-answers.answers.items same
    c.in_ok-answers.ensures) c.all_answers.ensures
