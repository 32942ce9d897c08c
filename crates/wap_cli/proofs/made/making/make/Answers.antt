use Rattle.std.proofs.Common.{refl, ◌∙◌}
use Rattle.wap_cli.specs.declared.status.Status.TheVariants.{Done, WriteFault}
use Rattle.wap_cli.specs.Writing.{Writes}
use Rattle.wap_cli.proofs.MadeLemmas.Touring.{report_is}
use Rattle.wap_cli.proofs.MadeLemmas.Ending.{made_by}
use Rattle.wap_cli.proofs.Writing.{put_whole, put_part}
use Rattle.wap_cli.proofs.made.making.make.Goals as goal

pub returns-in-Ok-write_all : goal.returns-in-Ok-write_all
returns-in-Ok-write_all g c =
    let before = g.O.Sink.seen c.args.out.now in
    let after = g.O.Sink.seen c.write_all.new.out in
    made_by c.args.n before after Done
    (put_whole c.as_slice.result.now _
    (c.as_slice.ensures.value ∙ c.in-Ok-report_on.ensures
    ∙ report_is c.args.n c.in-Ok.tour c.in-Ok.ensures) before after c.in-Ok-write_all.field-0
    c.in-Ok-write_all.ensures)

pub returns : goal.returns
returns g c =
    let before = g.O.Sink.seen c.args.out.now in
    let after = g.O.Sink.seen c.write_all.new.out in
    made_by c.args.n before after WriteFault
    (put_part c.as_slice.result.now _
    (c.as_slice.ensures.value ∙ c.in-Ok-report_on.ensures
    ∙ report_is c.args.n c.in-Ok.tour c.in-Ok.ensures) before after c.in-Err.field-0
    c.in-Err.ensures)

-- memory ran out
pub returns-in_default : goal.returns-in_default
returns-in_default g c = Writes.no_memory refl

pub returns-in_default-report_on : goal.returns-in_default-report_on
returns-in_default-report_on g c = Writes.no_memory refl
