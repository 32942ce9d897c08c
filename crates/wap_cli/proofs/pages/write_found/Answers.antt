use Rattle.std.proofs.Common.{ℕ, List, Result, Some, sym, subst}
use Rattle.wap_devices.specs.Sinks.{Puts}
use Rattle.wap_pages.specs.declared.fault.PageErr.{PageErr}
use Rattle.wap_cli.specs.declared.status.Status.{Status}
use Rattle.wap_cli.specs.Answers.{Finds, Answers}
use Rattle.wap_cli.proofs.Answering.{found_text, found_none}
use Rattle.wap_cli.proofs.pages.write_found.Goals as goal

pub returns-in-Ok : goal.returns-in-Ok
returns-in-Ok g c command bytes finds =
    let before = g.O.Sink.seen c.args.out.now in
    let after = g.O.Sink.seen c.write_all.new.out in
    subst (λ (status : Status). Answers command (Some bytes) before after status)
    (sym c.written_so.ensures)
    (found_text command bytes before after c.in-Ok.text
    (subst (λ (found : Result (List ℕ) PageErr). Finds command bytes found) c.in-Ok.is finds)
    c.write_all.result
    (subst (λ (text : List ℕ). Puts text before after c.write_all.result)
    c.as_slice.ensures c.write_all.ensures))

pub returns-in-Err : goal.returns-in-Err
returns-in-Err g c command bytes finds =
    let sink = g.O.Sink.seen c.args.out.now in
    subst (λ (status : Status). Answers command (Some bytes) sink sink status)
    (sym c.refused_by.ensures)
    (found_none command bytes sink c.in-Err.error
    (subst (λ (found : Result (List ℕ) PageErr). Finds command bytes found) c.in-Err.is finds))
