use Rattle.std.proofs.Common.{◌≡◌, ◌++◌, ◌+◌, map, drop}
use Rattle.std.specs.Borrow.{Bor}
use Rattle.wap_push.specs.declared.indication.Indication.{Indication}
use Rattle.wap_world.specs.inboxes.Notices.{entry_lines}
use Rattle.wap_session.proofs.notices.lines.entry_lines.Given as goal

-- the lines so far, and those of the entries that are left
abbrev pub invariant-loop-place : goal.invariant-loop-place
invariant-loop-place l =
    l.lines ++ entry_lines (l.place + 1)
    (map (λ (entry : Bor Indication). entry.now) (drop l.place l.entries.items))
    ≡ entry_lines 1 (map (λ (entry : Bor Indication). entry.now) l.entries.items)
