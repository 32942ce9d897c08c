use Rattle.std.proofs.Common.{◌≡◌, ◌+◌, length}
use Rattle.wap_push.specs.Inbox.{inbox_of}
use Rattle.wap_push.proofs.inbox.Inbox.count.Given as goal

-- the entries so far, and all winners that are left
abbrev pub invariant-loop-winner : goal.invariant-loop-winner
invariant-loop-winner l =
    l.left + length (inbox_of l.winner-iterator)
    ≡ length (inbox_of l.self) + length l.winner-iterator
