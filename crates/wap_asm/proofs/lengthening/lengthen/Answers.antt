use Rattle.std.proofs.Common.{arith}
use Rattle.wap_asm.proofs.OnTheWay.{known_both_few, enough_read, set_so_far}
use Rattle.wap_asm.proofs.lengthening.lengthen.Goals as goal

pub apart-requires-clause-few : goal.apart-requires-clause-few
apart-requires-clause-few c =
    known_both_few c.args.forms.now c.args.starts.now c.args.known _ c.args.i c.requires.known
    c.requires.few (omega arith) (omega arith)

pub returns-then-size-sizes-clause-enough : goal.returns-then-size-sizes-clause-enough
returns-then-size-sizes-clause-enough c = λ e site found to.
    enough_read c.args.sites.now c.args.starts.now c.args.sizes.now c.args.i
    c.leap_size-size.result c.apart.result site _ found c.apart.ensures
    c.leap_size-size.ensures (omega arith)

pub returns-clause-so_far : goal.returns-clause-so_far
returns-clause-so_far c =
    set_so_far c.args.forms.now c.args.sites.now c.args.starts.now c.args.sizes.now c.args.known
    c.args.i c.leap_size-size.result c.apart.result _ c.requires.placeable c.requires.sites
    c.requires.known c.requires.so_far c.requires.within (omega arith) c.apart.ensures
    c.leap_size-size.ensures (omega arith)
