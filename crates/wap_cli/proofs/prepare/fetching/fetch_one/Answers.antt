use Rattle.std.proofs.Common.{arith}
use Rattle.wap_cli.proofs.PrepareLemmas.Asking.{none_asked, then_memory, failed_one}
use Rattle.wap_cli.proofs.prepare.fetching.fetch_one.Goals as goal

pub returns-in-Err-clause-asks : goal.returns-in-Err-clause-asks
returns-in-Err-clause-asks g c =
    let old = g.S.Store.seen c.args.store.now in
    then_memory 0 1 old old (none_asked old) (omega arith)

pub returns-in-Err-fetch-clause-asks : goal.returns-in-Err-fetch-clause-asks
returns-in-Err-fetch-clause-asks g c =
    failed_one c.args.name.now (g.S.Store.seen c.args.store.now) (g.S.Store.seen c.fetch.new.self)
    c.in-Err-fetch.fault c.in-Err-fetch.ensures
