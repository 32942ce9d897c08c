use Rattle.std.proofs.Common.{◌≡◌, ◌≤◌, length, take, filter, None}
use Rattle.std.specs.List.{last_or}
use Rattle.wap_asm.specs.Spellings.{is_of}
use Rattle.wap_asm.proofs.table.longest_in.Given as goal

-- what stands before has the last that all have
abbrev pub invariant-loop-i : goal.invariant-loop-i
invariant-loop-i l = record {
  within : l.i ≤ length l.rows;
  last : last_or None (filter (is_of l.operation) (take l.i l.rows))
      ≡ last_or None (filter (is_of l.operation) l.rows);
}

abbrev pub decreases-loop-i : goal.decreases-loop-i
decreases-loop-i l = l.i
