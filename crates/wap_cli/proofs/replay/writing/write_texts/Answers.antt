use Rattle.std.proofs.Common.{ℕ, ◌<◌, length, Vec, Ok, Err, subst, arith}
use Rattle.std.specs.declared.alloc.Global.{Global}
use Rattle.wap_devices.specs.Sinks.{Puts}
use Rattle.wap_devices.proofs.Putting.{has_put_nothing, puts_next, puts_next_fails, puts_all}
use Rattle.wap_cli.proofs.replay.writing.write_texts.Goals as goal

pub loop-text-init : goal.loop-text-init
loop-text-init g c = has_put_nothing (g.O.Sink.seen c.args.out.now)

pub returns-in_err-write_text : goal.returns-in_err-write_text
returns-in_err-write_text g c =
    let i = c.loop-text.text-index in
    let text = c.text-item.result in
    let now = g.O.Sink.seen c.loop-text.out in
    let new = g.O.Sink.seen c.write_text.new.out in
    let within : i < length c.args.texts.now = omega arith in
    puts_next_fails (λ (text : Vec ℕ Global). text.items) c.args.texts.now i text within
    (g.O.Sink.seen c.args.out.now) now new c.loop-text.invariant
    (subst (λ (t : Vec ℕ Global). Puts t.items now new (Err c.in_err-write_text.field-0.0))
    c.text-item.is c.in_err-write_text.ensures)
    c.from_residual.result c.from_residual.ensures.0

pub loop-text-preserved : goal.loop-text-preserved
loop-text-preserved g c =
    let i = c.loop-text.text-index in
    let text = c.text-item.result in
    let now = g.O.Sink.seen c.loop-text.out in
    let new = g.O.Sink.seen c.write_text.new.out in
    let within : i < length c.args.texts.now = omega arith in
    puts_next (λ (text : Vec ℕ Global). text.items) c.args.texts.now i text within
    (g.O.Sink.seen c.args.out.now) now new c.loop-text.invariant
    (subst (λ (t : Vec ℕ Global). Puts t.items now new (Ok c.in_ok-write_text.field-0))
    c.text-item.is c.in_ok-write_text.ensures)

pub returns : goal.returns
returns g c =
    puts_all (λ (text : Vec ℕ Global). text.items) c.args.texts.now c.loop-text.text-index
    c.loop-text-test.false (g.O.Sink.seen c.args.out.now) (g.O.Sink.seen c.loop-text.out) tt
    c.loop-text.invariant
