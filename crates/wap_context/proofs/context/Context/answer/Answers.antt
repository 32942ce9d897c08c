use Rattle.std.proofs.Common.{◌∙◌, ap, Ok, Err}
use Rattle.std.proofs.lemmas.Result.{err_from_is_err_and}
use Rattle.wap_machine.specs.Stacks.{Stack, stack, answered}
use Rattle.wap_context.proofs.Beginning.{answer_takes}
use Rattle.wap_context.proofs.Calling.{answer_ok, answer_err}
use Rattle.wap_context.proofs.context.Context.answer.Goals as goal

pub returns : goal.returns
returns g c =
    answer_ok c.args.waiting c.args.v (g.P.Pages.seen c.args.pages.now)
    (g.P.Pages.seen c.go_on.new.pages) (g.P.Pages.seen c.follow.new.pages) c.args.self.now
    c.go_on.new.self c.follow.new.self c.new-lines.result c.go_on.new.lines
    c.in_ok-went.went c.follow.result c.new-lines.ensures
    (answer_takes c.args.waiting c.args.v c.answer.result c.into_parts-machine.result.1
    c.new-first.result (g.P.Pages.seen c.args.pages.now) (g.P.Pages.seen c.go_on.new.pages)
    c.args.self.now c.go_on.new.self c.new-lines.result c.go_on.new.lines (Ok c.in_ok-went.went)
    (c.answer.ensures
    ∙ ap (λ (m : Stack). stack m.limits (answered c.args.v m.frames))
    c.into_parts-machine.ensures.machine)
    c.into_parts-machine.ensures.base c.new-first.ensures c.in_ok-went.ensures)
    c.follow.ensures

pub returns-in_err-went : goal.returns-in_err-went
returns-in_err-went g c =
    let left = err_from_is_err_and c.from_residual.result c.from_residual.ensures.1 in
    answer_err c.args.waiting c.args.v (g.P.Pages.seen c.args.pages.now)
    (g.P.Pages.seen c.go_on.new.pages) c.args.self.now c.go_on.new.self
    c.new-lines.result c.go_on.new.lines c.in_err-went.field-0.0 c.from_residual.result
    (left.1 ∙ ap Err left.2) c.new-lines.ensures
    (answer_takes c.args.waiting c.args.v c.answer.result c.into_parts-machine.result.1
    c.new-first.result (g.P.Pages.seen c.args.pages.now) (g.P.Pages.seen c.go_on.new.pages)
    c.args.self.now c.go_on.new.self c.new-lines.result c.go_on.new.lines
    (Err c.in_err-went.field-0.0)
    (c.answer.ensures
    ∙ ap (λ (m : Stack). stack m.limits (answered c.args.v m.frames))
    c.into_parts-machine.ensures.machine)
    c.into_parts-machine.ensures.base c.new-first.ensures c.in_err-went.ensures)
