use Rattle.std.proofs.Common.{◌∙◌, ap, subst, sym, Err}
use Rattle.std.specs.Prelude.{Result}
use Rattle.std.proofs.lemmas.Result.{err_from_is_err_and}
use Rattle.wap_base.specs.declared.fault.RunErr.{RunErr}
use Rattle.wap_context.specs.declared.waiting.Went.{Went}
use Rattle.wap_context.specs.inside.Moving.{Takes}
use Rattle.wap_context.specs.inside.Starting.{run_with}
use Rattle.wap_context.proofs.Runs.{ended_ok, ran_err}
use Rattle.wap_context.proofs.context.Context.go_on.Goals as goal

pub returns-in_err-outcome : goal.returns-in_err-outcome
returns-in_err-outcome g c =
    let left = err_from_is_err_and c.from_residual.result c.from_residual.ensures.1 in
    subst (λ (r : Result Went RunErr).
    Takes (run_with c.args.machine c.args.base c.args.first) (g.P.Pages.seen c.args.pages.now)
    (g.P.Pages.seen c.run.new.pages) c.args.self.now c.run.new.self c.args.lines.now
    c.args.lines.now r) (sym (left.1 ∙ ap Err left.2))
    (ran_err c.args.machine c.args.base c.args.first (g.P.Pages.seen c.args.pages.now)
    (g.P.Pages.seen c.run.new.pages) c.args.self.now c.run.new.self c.args.lines.now
    c.args.lines.now c.in_err-outcome.field-0.0 c.in_err-outcome.ensures)

pub returns : goal.returns
returns g c =
    ended_ok c.args.machine c.args.base c.args.first (g.P.Pages.seen c.args.pages.now)
    (g.P.Pages.seen c.run.new.pages) c.args.self.now c.run.new.self c.end_script.new.self
    c.args.lines.now c.append.new.self c.end_script.new.lines c.in_ok-outcome.outcome
    c.in_ok-outcome.more c.in_ok-end_script.field-0 c.in_ok-append.ensures.ok
    c.in_ok-end_script.ensures c.in_ok-outcome.ensures
