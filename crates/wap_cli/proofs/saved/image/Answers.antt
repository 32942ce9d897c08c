use Rattle.std.proofs.Common.{sym, subst}
use Rattle.wap_cli.specs.declared.status.Status.TheVariants.{NoMemory}
use Rattle.wap_cli.proofs.ResumeLemmas.Going.{nothing_imaged, imaged_over}
use Rattle.wap_cli.specs.Devices.{Devices}
use Rattle.wap_cli.specs.Headline.{begun_by}
use Rattle.wap_cli.specs.SavedSessions.{ImagesOver}
use Rattle.wap_cli.proofs.Sourcing.{fresh}
use Rattle.wap_cli.proofs.SourcedSessions.{images_over}
use Rattle.wap_cli.proofs.saved.image.Goals as goal

pub returns-in-Err : goal.returns-in-Err
returns-in-Err g c =
    let source = g.I.Source.seen c.args.keys.now in
    let sink = g.O.Sink.seen c.args.out.now in
    let capacity = c.args.begun.cache in
    let begun = begun_by c.args.begun in
    let devices : Devices =
    record { store = g.S.Store.seen c.args.store; source = source; sink = sink } in
    subst (λ store. ImagesOver begun capacity devices
    (record { store = g.S.Store.seen store; source = source; sink = sink }) NoMemory)
    (sym c.in-Err.ensures.back)
    (images_over capacity devices devices NoMemory begun
    (nothing_imaged begun (fresh capacity devices)))

pub returns : goal.returns
returns g c =
    let imaged = c.image-status.new in
    let begun = c.args.begun in
    let status = c.image-status.result in
    let source = g.I.Source.seen c.args.keys.now in
    let source_after = g.I.Source.seen imaged.keys in
    let sink = g.O.Sink.seen c.args.out.now in
    let sink_after = g.O.Sink.seen imaged.out in
    let old : Devices =
    record { store = g.S.Store.seen c.args.store; source = source; sink = sink } in
    let new : Devices = record {
      store = g.S.Store.seen c.into_store.result;
      source = source_after;
      sink = sink_after;
    } in
    images_over begun.cache old new status (begun_by begun)
    (imaged_over g.S.Store.seen (begun_by begun) c.in-Ok.pages imaged.pages c.args.store
    c.into_store.result begun.cache source source_after sink sink_after status
    c.in-Ok.ensures.store c.in-Ok.ensures.kept c.in-Ok.ensures.capacity c.into_store.ensures
    c.image-status.ensures)
