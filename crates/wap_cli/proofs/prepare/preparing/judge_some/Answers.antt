use Rattle.std.proofs.Common.{◌∙◌, List, subst}
use Rattle.std.specs.List.{AllZip}
use Rattle.wap_cli.specs.prepare.Fetching.{Job}
use Rattle.wap_cli.specs.prepare.inside.Jobs.{IsRight}
use Rattle.wap_cli.proofs.PrepareLemmas.Entries.{same_names, all_right}
use Rattle.wap_cli.proofs.prepare.preparing.judge_some.Goals as goal

pub returns-in-Ok-judge_pages-clause-names : goal.returns-in-Ok-judge_pages-clause-names
returns-in-Ok-judge_pages-clause-names g c =
    same_names IsRight (λ job one right. right.name) c.in-Ok.jobs.items
    c.in-Ok-judge_pages.entries.items
    (subst (λ (jobs : List Job). AllZip IsRight jobs c.in-Ok-judge_pages.entries.items)
    c.deref.ensures.value c.in-Ok-judge_pages.ensures)
    ∙ c.in-Ok.ensures.names

pub returns-in-Ok-judge_pages-clause-right : goal.returns-in-Ok-judge_pages-clause-right
returns-in-Ok-judge_pages-clause-right g c =
    all_right (g.S.Store.seen c.fetch_all.new.store).known c.in-Ok.jobs.items
    c.in-Ok-judge_pages.entries.items c.in-Ok.ensures.answered
    (subst (λ (jobs : List Job). AllZip IsRight jobs c.in-Ok-judge_pages.entries.items)
    c.deref.ensures.value c.in-Ok-judge_pages.ensures)
