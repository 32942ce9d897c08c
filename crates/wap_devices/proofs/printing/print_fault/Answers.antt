use Rattle.std.specs.List.{flat_map}
use Rattle.wap_devices.proofs.Putting.{puts_then, puts_fails}
use Rattle.wap_devices.specs.Printing.{field_text}
use Rattle.wap_devices.proofs.printing.print_fault.Goals as goal

pub returns-in_err-write_all : goal.returns-in_err-write_all
returns-in_err-write_all g c =
    puts_fails c.args.name.now (flat_map field_text c.args.fields.now)
    (g.O.Sink.seen c.args.out.now) (g.O.Sink.seen c.write_all.new.out)
    c.in_err-write_all.ensures c.from_residual.result c.from_residual.ensures.0

pub returns : goal.returns
returns g c =
    puts_then c.args.name.now (flat_map field_text c.args.fields.now)
    (g.O.Sink.seen c.args.out.now) (g.O.Sink.seen c.write_all.new.out)
    (g.O.Sink.seen c.print_fields.new.out) c.in_ok-write_all.ensures c.print_fields.result
    c.print_fields.ensures
