use Rattle.wap_cli.specs.Devices.{Devices}
use Rattle.wap_cli.specs.Headline.{each_begun_by}
use Rattle.wap_cli.proofs.SourcedLists.{replays_over}
use Rattle.wap_cli.proofs.replaying.replay.Goals as goal

pub returns : goal.returns
returns g c =
    let old : Devices = record {
      store = g.S.Store.seen c.args.store.now;
      source = g.I.Source.seen c.args.keys.now;
      sink = g.O.Sink.seen c.args.out.now;
    } in
    let new : Devices = record {
      store = g.S.Store.seen c.replay.new.store;
      source = g.I.Source.seen c.replay.new.keys;
      sink = g.O.Sink.seen c.replay.new.out;
    } in
    replays_over (each_begun_by c.args.begun) old new c.replay.result c.replay.ensures
