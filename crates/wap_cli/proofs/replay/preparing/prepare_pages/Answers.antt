use Rattle.std.proofs.Common.{List, subst, ◌∙◌}
use Rattle.std.specs.List.{AllZip}
use Rattle.wap_cli.specs.prepare.Fetching.{Job}
use Rattle.wap_cli.specs.replay.inside.Jobs.{IsJudged}
use Rattle.wap_cli.proofs.ReplayLemmas.Listed.{named_pages, are_prepared}
use Rattle.wap_cli.proofs.replay.preparing.prepare_pages.Goals as goal

pub new-requires : goal.new-requires
new-requires g c =
    are_prepared c.in-Ok.jobs.items c.in-Ok-judge_pages.pages.items c.present.result
    c.args.names.now
    (subst (λ (jobs : List Job). AllZip IsJudged jobs c.in-Ok-judge_pages.pages.items)
    c.deref.ensures.value c.in-Ok-judge_pages.ensures)
    c.in-Ok.ensures.names c.requires.ascending c.present.ensures

pub returns-in-Ok-judge_pages-clause-pages : goal.returns-in-Ok-judge_pages-clause-pages
returns-in-Ok-judge_pages-clause-pages g c =
    named_pages (g.S.Store.seen c.fetch_all.new.store).known c.in-Ok.jobs.items
    c.in-Ok-judge_pages.pages.items c.new.result c.args.names.now c.in-Ok.ensures.answered
    (subst (λ (jobs : List Job). AllZip IsJudged jobs c.in-Ok-judge_pages.pages.items)
    c.deref.ensures.value c.in-Ok-judge_pages.ensures)
    c.in-Ok.ensures.names (c.new.ensures ∙ c.present.ensures)
