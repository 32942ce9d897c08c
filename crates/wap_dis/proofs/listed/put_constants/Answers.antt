use Rattle.std.proofs.Common.{◌<◌, length, arith}
use Rattle.wap_dis.specs.Listing.{constant_line}
use Rattle.wap_dis.specs.inside.Gathered.{state}
use Rattle.wap_dis.proofs.Lists.{puts_indexed}
use Rattle.wap_dis.proofs.listed.put_constants.Goals as goal

pub loop-index-preserved : goal.loop-index-preserved
loop-index-preserved g c =
    let within : c.loop-index.index < length c.args.constants.now = omega arith in
    let constant = c.index-constants-index.result in
    puts_indexed (g.O.Sink.seen c.args.out.now) (g.O.Sink.seen c.loop-index.out)
    (g.O.Sink.seen c.put_constant_line.new.out)
    (state c.args.held.now) (state c.loop-index.held) (state c.put_constant_line.new.held)
    constant constant_line c.args.constants.now c.loop-index.index constant within
    c.index-constants-index.is c.loop-index.invariant c.put_constant_line.ensures
