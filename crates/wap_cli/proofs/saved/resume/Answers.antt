use Rattle.wap_cli.specs.Devices.{Devices}
use Rattle.wap_cli.proofs.SourcedSessions.{resumes_over}
use Rattle.wap_cli.proofs.saved.resume.Goals as goal

pub returns : goal.returns
returns g c =
    let begun = c.args.begun.now in
    let old : Devices = record {
      store = g.S.Store.seen c.args.store;
      source = g.I.Source.seen c.args.keys.now;
      sink = g.O.Sink.seen c.args.out.now;
    } in
    let new : Devices = record {
      store = g.S.Store.seen c.resume.result.1;
      source = g.I.Source.seen c.resume.new.keys;
      sink = g.O.Sink.seen c.resume.new.out;
    } in
    resumes_over begun.cache old new c.resume.result.0 begun.name c.resume.ensures
