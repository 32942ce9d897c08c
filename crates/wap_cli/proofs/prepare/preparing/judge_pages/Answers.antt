use Rattle.std.specs.List.{AllZip}
use Rattle.std.proofs.lemmas.Result.{IfOk-weaker}
use Rattle.wap_cli.specs.prepare.inside.Jobs.{IsRight}
use Rattle.wap_cli.proofs.PrepareLemmas.Entries.{all_there}
use Rattle.wap_cli.proofs.prepare.preparing.judge_pages.Goals as goal

pub returns : goal.returns
returns g c =
    IfOk-weaker c.all_answers.result _ (λ entries. AllZip IsRight c.args.jobs.now entries.items)
    (λ entries same. all_there IsRight c.args.jobs.now entries.items
    c.in_ok-answers.answers.items same c.in_ok-answers.ensures) c.all_answers.ensures
