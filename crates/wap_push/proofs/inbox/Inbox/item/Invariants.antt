use Rattle.std.proofs.Common.{◌≡◌}
use Rattle.wap_push.specs.Inbox.{inbox_of, entry_at}
use Rattle.wap_push.proofs.inbox.Inbox.item.Given as goal

-- the entry that is left to find is the one that was asked for
abbrev pub invariant-loop-winner : goal.invariant-loop-winner
invariant-loop-winner l =
    entry_at (inbox_of l.winner-iterator) l.left ≡ entry_at (inbox_of l.self) l.number
