use Rattle.std.proofs.Common.{◌≡◌, ◌+◌, ◌<◌, ℕ, [], get_or, length}
use Rattle.std.specs.declared.cmp.Ordering.TheVariants.{Less}
use Rattle.wap_base.specs.Texts.{text_cmp}
use Rattle.wap_base.proofs.order.are_ascending.Given as goal

-- each text passed comes before the next
abbrev pub invariant-loop-next : goal.invariant-loop-next
invariant-loop-next l =
    (k : ℕ) → k + 1 < l.next → k + 1 < length l.texts
    → text_cmp (get_or l.texts k []) (get_or l.texts (k + 1) []) ≡ Less
