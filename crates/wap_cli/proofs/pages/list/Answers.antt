use Rattle.std.proofs.Common.{Some, Err, ap, sym, subst, refl}
use Rattle.wap_dis.specs.Listing.{listing}
use Rattle.wap_keys.specs.declared.words.words.PageCommand.TheVariants as command
use Rattle.wap_cli.specs.declared.status.Status.{Status}
use Rattle.wap_cli.specs.Answers.{Answers}
use Rattle.wap_cli.proofs.Answering.{answers_text, answers_error, no_value}
use Rattle.wap_cli.proofs.pages.list.Goals as goal

pub returns-in-Ok : goal.returns-in-Ok
returns-in-Ok g c =
    let before = g.O.Sink.seen c.args.out.now in
    let after = g.O.Sink.seen c.listing.new.out in
    subst (λ (status : Status). Answers command.List (Some c.args.bytes.now) before after status)
    (sym c.written_so.ensures)
    (answers_text command.List c.args.bytes.now before after c.listing.result
    (listing c.in-Ok.unit) (c.in-Ok.unit, c.in-Ok.ensures.found, refl) c.listing.ensures)

pub returns-in-Err : goal.returns-in-Err
returns-in-Err g c =
    let sink = g.O.Sink.seen c.args.out.now in
    subst (λ (status : Status). Answers command.List (Some c.args.bytes.now) sink sink status)
    (sym c.refused_by.ensures)
    (answers_error command.List c.args.bytes.now sink c.in-Err.error
    (λ fault is. c.in-Err.ensures.refused fault (ap Err is))
    (λ fault is. c.in-Err.ensures.for_fault fault (ap Err is))
    (λ text is other. no_value is.0 c.in-Err.error (c.in-Err.ensures.only is.0 is.1 other)))
