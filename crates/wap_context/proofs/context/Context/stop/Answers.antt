use Rattle.std.proofs.Common.{refl, []}
use Rattle.wap_context.specs.Acting.{stop}
use Rattle.wap_context.proofs.Beginning.{stop_takes}
use Rattle.wap_context.proofs.Calling.{stop_ok}
use Rattle.wap_context.proofs.Pursuing.{acts}
use Rattle.wap_context.proofs.Passing.{pursues_rejected}
use Rattle.wap_context.proofs.context.Context.stop.Goals as goal

pub returns : goal.returns
returns g c =
    let seen = g.P.Pages.seen c.args.pages.now in
    stop_ok c.args.waiting seen seen (g.P.Pages.seen c.follow.new.pages) c.args.self.now
    c.end_script.new.self c.follow.new.self c.new-lines.result c.end_script.new.lines
    c.in_ok-went.went c.follow.result c.new-lines.ensures
    (stop_takes seen c.args.self.now c.end_script.new.self c.new-lines.result
    c.end_script.new.lines c.args.waiting.base c.into_parts-base.result.1 c.in_ok-went.went
    c.into_parts-base.ensures.base c.in_ok-went.ensures)
    c.follow.ensures

pub returns-in_err-went : goal.returns-in_err-went
returns-in_err-went g c =
    let seen = g.P.Pages.seen c.args.pages.now in
    acts (stop c.args.waiting) seen seen c.args.self.now c.end_script.new.self []
    c.from_residual.result refl
    (pursues_rejected c.from_residual.result c.from_residual.ensures.0 c.from_residual.ensures.1)
