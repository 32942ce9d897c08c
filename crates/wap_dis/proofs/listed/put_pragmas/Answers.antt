use Rattle.std.proofs.Common.{◌<◌, length, get_or, refl, arith}
use Rattle.wap_unit.specs.declared.unit.Pragma.TheVariants.{Domain}
use Rattle.wap_dis.specs.Listing.{pragma_line}
use Rattle.wap_dis.specs.inside.Gathered.{state}
use Rattle.wap_dis.proofs.Lists.{puts_indexed}
use Rattle.wap_dis.proofs.listed.put_pragmas.Goals as goal

pub loop-index-preserved : goal.loop-index-preserved
loop-index-preserved g c =
    let within : c.loop-index.index < length c.args.pragmas.now = omega arith in
    puts_indexed (g.O.Sink.seen c.args.out.now) (g.O.Sink.seen c.loop-index.out)
    (g.O.Sink.seen c.put_pragma_line.new.out)
    (state c.args.held.now) (state c.loop-index.held) (state c.put_pragma_line.new.held)
    (Domain 0) pragma_line c.args.pragmas.now c.loop-index.index (get_or c.args.pragmas.now
    c.loop-index.index (Domain 0)) within refl c.loop-index.invariant c.put_pragma_line.ensures
