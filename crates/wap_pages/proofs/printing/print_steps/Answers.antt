use Rattle.std.proofs.Common.{◌<◌, length, arith}
use Rattle.wap_devices.proofs.Putting.{has_put_nothing, puts_next, puts_next_fails, puts_all}
use Rattle.wap_pages.specs.Printing.{step_text}
use Rattle.wap_pages.proofs.printing.print_steps.Goals as goal

pub loop-number-init : goal.loop-number-init
loop-number-init g c = has_put_nothing (g.O.Sink.seen c.args.out.now)

pub returns-in_err-print_step : goal.returns-in_err-print_step
returns-in_err-print_step g c =
    let i = c.loop-number.number-index in
    let within : i < length c.args.numbers.now = omega arith in
    puts_next_fails step_text c.args.numbers.now i 0 within (g.O.Sink.seen c.args.out.now)
    (g.O.Sink.seen c.loop-number.out) (g.O.Sink.seen c.print_step.new.out) c.loop-number.invariant
    c.in_err-print_step.ensures c.from_residual.result c.from_residual.ensures.0

pub loop-number-preserved : goal.loop-number-preserved
loop-number-preserved g c =
    let i = c.loop-number.number-index in
    let within : i < length c.args.numbers.now = omega arith in
    puts_next step_text c.args.numbers.now i 0 within (g.O.Sink.seen c.args.out.now)
    (g.O.Sink.seen c.loop-number.out) (g.O.Sink.seen c.print_step.new.out) c.loop-number.invariant
    c.in_ok-print_step.ensures

pub returns : goal.returns
returns g c =
    puts_all step_text c.args.numbers.now c.loop-number.number-index c.loop-number-test.false
    (g.O.Sink.seen c.args.out.now) (g.O.Sink.seen c.loop-number.out) tt c.loop-number.invariant
