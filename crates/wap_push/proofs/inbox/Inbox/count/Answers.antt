use Rattle.std.proofs.Common.{◌≡◌, ◌-◌, ◌∙◌, sym, length, arith}
use Rattle.wap_push.specs.Inbox.{inbox_of}
use Rattle.wap_push.proofs.Entries.{step_passed}
use Rattle.wap_push.proofs.inbox.Inbox.count.Goals as goal

pub loop-winner-preserved-then-not-is_kept : goal.loop-winner-preserved-then-not-is_kept
loop-winner-preserved-then-not-is_kept c =
    let less : c.saturating_sub-left.result ≡ c.loop-winner.left - 1 =
    omega (arith, c.saturating_sub-left.ensures) in
    step_passed (length (inbox_of c.args.self.now)) c.loop-winner.left
    c.saturating_sub-left.result c.loop-winner.winner-iterator c.next.new.self
    c.in-Some.winner.now c.in-Some.ensures.steps
    (sym c.is_kept.ensures ∙ c.if-not-is_kept.true) c.loop-winner.invariant less
