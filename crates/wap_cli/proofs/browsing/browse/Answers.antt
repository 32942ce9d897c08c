use Rattle.std.proofs.Common.{sym, subst}
use Rattle.wap_cli.specs.declared.status.Status.TheVariants.{NoMemory}
use Rattle.wap_cli.specs.browse.Plays.{opened}
use Rattle.wap_cli.proofs.BrowseLemmas.Exits.{nothing_browses}
use Rattle.wap_cli.proofs.BrowseLemmas.Forgetting.{browsed_over}
use Rattle.wap_cli.specs.Browsing.{BrowsesOver}
use Rattle.wap_cli.specs.Devices.{Devices}
use Rattle.wap_cli.specs.Headline.{begun_by}
use Rattle.wap_cli.proofs.Sourcing.{browses_over, fresh}
use Rattle.wap_cli.proofs.browsing.browse.Goals as goal

pub returns-in-Err : goal.returns-in-Err
returns-in-Err g c =
    let source = g.I.Source.seen c.args.keys.now in
    let sink = g.O.Sink.seen c.args.out.now in
    let capacity = c.args.begun.cache in
    let begun = begun_by c.args.begun in
    let devices : Devices =
    record { store = g.S.Store.seen c.args.store; source = source; sink = sink } in
    subst (λ store. BrowsesOver begun capacity devices
    (record { store = g.S.Store.seen store; source = source; sink = sink }) NoMemory)
    (sym c.in-Err.ensures.back)
    (browses_over begun capacity devices devices NoMemory
    (nothing_browses (opened begun) (fresh capacity devices)))

pub returns : goal.returns
returns g c =
    let played = c.browse-status.new in
    let begun = c.args.begun in
    let status = c.browse-status.result in
    let source = g.I.Source.seen c.args.keys.now in
    let source_after = g.I.Source.seen played.keys in
    let sink = g.O.Sink.seen c.args.out.now in
    let sink_after = g.O.Sink.seen played.out in
    let old : Devices =
    record { store = g.S.Store.seen c.args.store; source = source; sink = sink } in
    let new : Devices = record {
      store = g.S.Store.seen c.into_store.result;
      source = source_after;
      sink = sink_after;
    } in
    browses_over (begun_by begun) begun.cache old new status
    (browsed_over g.S.Store.seen (opened (begun_by begun)) c.in-Ok.pages played.pages c.args.store
    c.into_store.result begun.cache source source_after sink sink_after status
    c.in-Ok.ensures.store c.in-Ok.ensures.kept c.in-Ok.ensures.capacity c.into_store.ensures
    c.browse-status.ensures)
