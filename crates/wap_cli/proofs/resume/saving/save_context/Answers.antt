use Rattle.std.proofs.Common.{rules, refl}
use Rattle.wap_cli.specs.declared.status.Status.TheVariants.{Done, WriteFault}
use Rattle.wap_cli.specs.resume.Saving.{WritesImage}
use Rattle.wap_cli.proofs.Writing.{put_whole, put_part}
use Rattle.wap_cli.proofs.resume.saving.save_context.Goals as goal

-- there is no image
pub returns-in-Err-NoMemory-clause-image : goal.returns-in-Err-NoMemory-clause-image
returns-in-Err-NoMemory-clause-image g c = WritesImage.no_memory refl

pub returns-in-Err-clause-image : goal.returns-in-Err-clause-image
returns-in-Err-clause-image g c = WritesImage.refused c.in-Err.fault (search rules) refl

-- it was written, or a prefix of it
pub returns-in-Ok-write_all-clause-image : goal.returns-in-Ok-write_all-clause-image
returns-in-Ok-write_all-clause-image g c =
    WritesImage.writes Done c.in-Ok.image c.in-Ok.ensures.image
    (put_whole c.as_slice.result.now c.in-Ok.image c.as_slice.ensures
    (g.O.Sink.seen c.args.out.now) (g.O.Sink.seen c.write_all.new.out)
    c.in-Ok-write_all.field-0 c.in-Ok-write_all.ensures)

pub returns-clause-image : goal.returns-clause-image
returns-clause-image g c =
    WritesImage.writes WriteFault c.in-Ok.image c.in-Ok.ensures.image
    (put_part c.as_slice.result.now c.in-Ok.image c.as_slice.ensures
    (g.O.Sink.seen c.args.out.now) (g.O.Sink.seen c.write_all.new.out)
    c.in-Err-write_all.field-0 c.in-Err-write_all.ensures)
