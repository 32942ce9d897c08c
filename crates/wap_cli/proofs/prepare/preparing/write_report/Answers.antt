use Rattle.std.proofs.Common.{refl, ◌∙◌}
use Rattle.wap_cli.specs.Writing.{Writes}
use Rattle.wap_cli.proofs.Writing.{put_whole, put_part}
use Rattle.wap_cli.proofs.prepare.preparing.write_report.Goals as goal

pub returns-in-Ok-write_all : goal.returns-in-Ok-write_all
returns-in-Ok-write_all g c =
    put_whole c.as_slice.result.now _ (c.as_slice.ensures.value ∙ c.in-Ok.ensures)
    (g.O.Sink.seen c.args.out.now) (g.O.Sink.seen c.write_all.new.out) c.in-Ok-write_all.field-0
    c.in-Ok-write_all.ensures

pub returns : goal.returns
returns g c =
    put_part c.as_slice.result.now _ (c.as_slice.ensures.value ∙ c.in-Ok.ensures)
    (g.O.Sink.seen c.args.out.now) (g.O.Sink.seen c.write_all.new.out) c.in-Err.field-0
    c.in-Err.ensures

-- memory ran out
pub returns-in_default : goal.returns-in_default
returns-in_default g c = Writes.no_memory refl
