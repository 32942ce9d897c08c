use Rattle.std.proofs.Common.{List, ℕ, Ok, Err, true, refl, subst}
use Rattle.wap_devices.specs.Sinks.{Puts}
use Rattle.wap_dis.specs.inside.Gathered.{state}
use Rattle.wap_dis.proofs.Putting.{writes_both, fails_first, fails_second}
use Rattle.wap_dis.proofs.held.write_out.Goals as goal

pub returns-in-Err-clause-puts : goal.returns-in-Err-clause-puts
returns-in-Err-clause-puts g c =
    let before = g.O.Sink.seen c.args.out.now in
    let after = g.O.Sink.seen c.write_all.new.out in
    let new = state (record { bytes = c.args.held.now.bytes; failed = true }) in
    fails_first before after (state c.args.held.now) new c.args.piece.now c.requires refl
    (subst (λ (l : List ℕ). Puts l before after (Err c.in-Err.field-0)) c.as_slice.ensures.value
    c.in-Err.ensures)

pub returns-in-Ok-write_all-clause-puts : goal.returns-in-Ok-write_all-clause-puts
returns-in-Ok-write_all-clause-puts g c =
    let before = g.O.Sink.seen c.args.out.now in
    let between = g.O.Sink.seen c.write_all.new.out in
    let new = state (record { bytes = c.clear.new.self; failed = c.args.held.now.failed }) in
    writes_both before between (g.O.Sink.seen c.write_all-in-Ok.new.out) (state c.args.held.now)
    new c.args.piece.now c.requires c.requires c.clear.ensures
    (subst (λ (l : List ℕ). Puts l before between (Ok c.in-Ok.field-0)) c.as_slice.ensures.value
    c.in-Ok.ensures) c.in-Ok-write_all.ensures

pub returns-in-Err-write_all-clause-puts : goal.returns-in-Err-write_all-clause-puts
returns-in-Err-write_all-clause-puts g c =
    let before = g.O.Sink.seen c.args.out.now in
    let between = g.O.Sink.seen c.write_all.new.out in
    let new = state (record { bytes = c.args.held.now.bytes; failed = true }) in
    fails_second before between (g.O.Sink.seen c.write_all-in-Ok.new.out)
    (state c.args.held.now) new c.args.piece.now c.requires refl
    (subst (λ (l : List ℕ). Puts l before between (Ok c.in-Ok.field-0)) c.as_slice.ensures.value
    c.in-Ok.ensures) c.in-Err-write_all.ensures
