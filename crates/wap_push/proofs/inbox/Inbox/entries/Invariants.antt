use Rattle.std.proofs.Common.{◌≡◌, ◌++◌, map}
use Rattle.std.specs.Borrow.{Bor}
use Rattle.wap_push.specs.declared.indication.Indication.{Indication}
use Rattle.wap_push.specs.Inbox.{inbox_of}
use Rattle.wap_push.proofs.inbox.Inbox.entries.Given as goal

-- the entries so far, and those among the winners that are left
abbrev pub invariant-loop-winner : goal.invariant-loop-winner
invariant-loop-winner l =
    map (λ (entry : Bor Indication). entry.now) l.entries.items ++ inbox_of l.winner-iterator
    ≡ inbox_of l.self
