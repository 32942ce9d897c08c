use Rattle.std.proofs.Common.{◌≡◌, take, All}
use Rattle.std.specs.Map.{keys_of}
use Rattle.wap_cli.specs.prepare.Fetching.{IsAnswered}
use Rattle.wap_cli.proofs.PrepareLemmas.Asking.{Asked}
use Rattle.wap_cli.proofs.prepare.fetching.fetch_all.Given as goal

-- the first names were asked for
abbrev pub invariant-loop-name : goal.invariant-loop-name
invariant-loop-name g l = record {
  names : keys_of l.jobs.items ≡ take l.name-index l.names;
  answered : All (IsAnswered (g.S.Store.seen l.store).known) l.jobs.items;
  asked : Asked l.name-index (g.S.Store.seen l.fn.store) (g.S.Store.seen l.store);
}
