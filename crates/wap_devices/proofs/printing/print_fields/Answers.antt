use Rattle.std.proofs.Common.{◌<◌, length, arith}
use Rattle.wap_devices.proofs.Putting.{has_put_nothing, puts_next, puts_next_fails, puts_all}
use Rattle.wap_devices.specs.Printing.{field_text}
use Rattle.wap_devices.proofs.printing.print_fields.Goals as goal

pub loop-field-init : goal.loop-field-init
loop-field-init g c = has_put_nothing (g.O.Sink.seen c.args.out.now)

pub returns-in_err-print_field : goal.returns-in_err-print_field
returns-in_err-print_field g c =
    let i = c.loop-field.field-index in
    let within : i < length c.args.fields.now = omega arith in
    puts_next_fails field_text c.args.fields.now i 0 within (g.O.Sink.seen c.args.out.now)
    (g.O.Sink.seen c.loop-field.out) (g.O.Sink.seen c.print_field.new.out) c.loop-field.invariant
    c.in_err-print_field.ensures c.from_residual.result c.from_residual.ensures.0

pub loop-field-preserved : goal.loop-field-preserved
loop-field-preserved g c =
    let i = c.loop-field.field-index in
    let within : i < length c.args.fields.now = omega arith in
    puts_next field_text c.args.fields.now i 0 within (g.O.Sink.seen c.args.out.now)
    (g.O.Sink.seen c.loop-field.out) (g.O.Sink.seen c.print_field.new.out) c.loop-field.invariant
    c.in_ok-print_field.ensures

pub returns : goal.returns
returns g c =
    puts_all field_text c.args.fields.now c.loop-field.field-index c.loop-field-test.false
    (g.O.Sink.seen c.args.out.now) (g.O.Sink.seen c.loop-field.out) tt c.loop-field.invariant
