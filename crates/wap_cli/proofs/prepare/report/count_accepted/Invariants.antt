use Rattle.std.proofs.Common.{◌≡◌, ◌≤◌, take, length}
use Rattle.std.specs.Prelude.{filter}
use Rattle.wap_cli.specs.prepare.Reports.{is_accepted}
use Rattle.wap_cli.proofs.prepare.report.count_accepted.Given as goal

-- the first entries were counted
abbrev pub invariant-loop-entry : goal.invariant-loop-entry
invariant-loop-entry l = record {
  count : l.count ≡ length (filter is_accepted (take l.entry-index l.entries));
  few : l.count ≤ l.entry-index;
}
