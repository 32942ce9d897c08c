use Rattle.std.proofs.Common.{subst}
use Rattle.wap_pages.specs.declared.kind.Kind.{Kind}
use Rattle.wap_pages.specs.inside.Judging.{Judges}
use Rattle.wap_pages.proofs.Judgements.{answer_page, answer_accepted, refused_judged, fault_judged}
use Rattle.wap_pages.proofs.Judgements.{only_judged}
use Rattle.wap_pages.proofs.judging.judge.Goals as goal

pub returns-clause-page : goal.returns-clause-page
returns-clause-page c =
    answer_page c.args.name.now c.args.bytes.now c.judge_by_kind.result
    (subst (λ (k : Kind). Judges k c.args.bytes.now c.judge_by_kind.result)
    c.of.ensures c.judge_by_kind.ensures)

pub returns-clause-accepted : goal.returns-clause-accepted
returns-clause-accepted c =
    answer_accepted c.args.name.now c.args.bytes.now c.judge_by_kind.result
    (subst (λ (k : Kind). Judges k c.args.bytes.now c.judge_by_kind.result)
    c.of.ensures c.judge_by_kind.ensures)

pub returns-clause-refused : goal.returns-clause-refused
returns-clause-refused c =
    refused_judged c.args.name.now c.args.bytes.now c.judge_by_kind.result
    (subst (λ (k : Kind). Judges k c.args.bytes.now c.judge_by_kind.result)
    c.of.ensures c.judge_by_kind.ensures)

pub returns-clause-only : goal.returns-clause-only
returns-clause-only c =
    only_judged c.args.name.now c.args.bytes.now c.judge_by_kind.result
    (subst (λ (k : Kind). Judges k c.args.bytes.now c.judge_by_kind.result)
    c.of.ensures c.judge_by_kind.ensures)

pub returns-clause-for_fault : goal.returns-clause-for_fault
returns-clause-for_fault c =
    fault_judged c.args.name.now c.args.bytes.now c.judge_by_kind.result
    (subst (λ (k : Kind). Judges k c.args.bytes.now c.judge_by_kind.result)
    c.of.ensures c.judge_by_kind.ensures)
