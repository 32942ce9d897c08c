use Rattle.std.proofs.Common.{◌≡◌, ◌≤◌, ◌-◌, ◌++◌, length, All}
use Rattle.std.specs.Map.{keys_of}
use Rattle.wap_cli.specs.prepare.Reports.{IsEntry}
use Rattle.wap_cli.proofs.PrepareLemmas.Asking.{Asked}
use Rattle.wap_cli.proofs.prepare.preparing.judge_all.Given as goal

-- the pages of the first names were judged
abbrev pub invariant-loop-left : goal.invariant-loop-left
invariant-loop-left g l = record {
  names : keys_of l.entries.items ++ l.left ≡ l.fn.names;
  within : length l.left ≤ length l.fn.names;
  right : All (IsEntry (g.S.Store.seen l.store).known) l.entries.items;
  asked : Asked (length l.fn.names - length l.left) (g.S.Store.seen l.fn.store)
      (g.S.Store.seen l.store);
}

abbrev pub decreases-loop-left : goal.decreases-loop-left
decreases-loop-left g l = length l.left
