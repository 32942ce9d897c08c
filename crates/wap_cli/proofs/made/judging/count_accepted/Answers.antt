use Rattle.wap_world.proofs.SiteLemmas.Asking.{Stays-same, Stays-then}
use Rattle.std.proofs.Common.{refl, arith}
use Rattle.wap_cli.proofs.MadeLemmas.Counting.{more_counted}
use Rattle.wap_cli.proofs.made.judging.count_accepted.Goals as goal

pub loop-name-init : goal.loop-name-init
loop-name-init g c = record {
  count = λ known may. refl;
  few = omega arith;
  stays = Stays-same (g.P.Pages.seen c.args.pages.now);
}

pub loop-name-preserved : goal.loop-name-preserved
loop-name-preserved g c =
    let old = g.P.Pages.seen c.args.pages.now in
    let now = g.P.Pages.seen c.loop-name.pages in
    let new = g.P.Pages.seen c.count_one.new.pages in
    let one = c.in_ok-count.ensures in
    let few = one.few in
    record {
      count = more_counted now new c.args.names.now c.loop-name.name-index c.name-item.result
          c.loop-name.count _ one.stays (omega arith) c.name-item.is
          c.loop-name.invariant.count one.count;
      few = omega (arith, few);
      stays = Stays-then old now new c.loop-name.invariant.stays one.stays;
    }
