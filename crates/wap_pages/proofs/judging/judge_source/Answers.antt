use Rattle.std.proofs.Common.{Result, Err, sym, ap, ◌∙◌, subst}
use Rattle.std.proofs.lemmas.Result.{err_from_is_err_and}
use Rattle.wap_world.specs.declared.site.page.Page.{Page}
use Rattle.wap_pages.specs.declared.fault.PageErr.{PageErr}
use Rattle.wap_pages.specs.declared.kind.Kind.TheVariants as kind
use Rattle.wap_pages.specs.inside.Judging.{Judges}
use Rattle.wap_pages.proofs.Judgements.{unread}
use Rattle.wap_pages.proofs.judging.judge_source.Goals as goal

pub returns-in_err-compiled : goal.returns-in_err-compiled
returns-in_err-compiled c =
    let left = err_from_is_err_and c.from_residual.result c.from_residual.ensures.1 in
    subst (λ (r : Result Page PageErr). Judges kind.Source c.args.bytes.now r)
    (sym (left.1 ∙ ap Err left.2))
    (unread kind.Source c.args.bytes.now c.in_err-compiled.field-0.0
    (λ why is. c.in_err-compiled.ensures.refused why (ap Err is))
    (λ why is. c.in_err-compiled.ensures.for_fault why (ap Err is)))
