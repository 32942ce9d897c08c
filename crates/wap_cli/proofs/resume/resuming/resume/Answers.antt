use Rattle.wap_cli.proofs.ResumeLemmas.Going.{resumes_by, resumes_none}
use Rattle.wap_cli.proofs.resume.resuming.resume.Goals as goal

pub returns-in-Ok : goal.returns-in-Ok
returns-in-Ok g c =
    resumes_by c.args.name.now (g.S.Store.seen c.args.store)
    (g.S.Store.seen c.fetch_saved.new.store) (g.S.Store.seen c.go_on.result.1) c.args.cache
    (g.I.Source.seen c.args.keys.now) (g.I.Source.seen c.go_on.new.keys)
    (g.O.Sink.seen c.args.out.now) (g.O.Sink.seen c.go_on.new.out) c.go_on.result.0 c.in-Ok.saved
    c.in-Ok.ensures c.go_on.ensures

pub returns-in-Err : goal.returns-in-Err
returns-in-Err g c =
    resumes_none c.args.name.now (g.S.Store.seen c.args.store)
    (g.S.Store.seen c.fetch_saved.new.store) (g.S.Store.seen c.fetch_saved.new.store) c.args.cache
    (g.I.Source.seen c.args.keys.now) (g.I.Source.seen c.args.keys.now)
    (g.O.Sink.seen c.args.out.now) (g.O.Sink.seen c.args.out.now) c.in-Err.status
    c.in-Err.ensures.none c.in-Err.ensures.fetched
