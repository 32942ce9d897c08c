use Rattle.std.proofs.Common.{◌<◌, ◌≤◌, length, arith}
use Rattle.wap_dis.specs.inside.Gathered.{state}
use Rattle.wap_dis.proofs.Lists.{puts_byte}
use Rattle.wap_dis.proofs.listed.put_bytes.Goals as goal

pub loop-place-preserved : goal.loop-place-preserved
loop-place-preserved g c =
    let within : c.loop-place.place < length c.args.code.now = omega arith in
    let behind : c.args.at ≤ c.loop-place.place = omega arith in
    puts_byte (g.O.Sink.seen c.args.out.now) (g.O.Sink.seen c.loop-place.out)
    (g.O.Sink.seen c.put_byte_line.new.out)
    (state c.args.held.now) (state c.loop-place.held) (state c.put_byte_line.new.held)
    c.args.code.now c.args.at c.loop-place.place behind within c.loop-place.invariant
    c.put_byte_line.ensures
