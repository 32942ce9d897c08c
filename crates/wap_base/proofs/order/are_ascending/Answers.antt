use Rattle.std.proofs.Common.{◌≡◌, false, refl, arith}
use Rattle.std.specs.Ordering.{is_lt}
use Rattle.wap_base.specs.Texts.{text_cmp}
use Rattle.wap_base.proofs.Orders.{ascending_from_adjacent, not_ascending_at}
use Rattle.wap_base.proofs.order.are_ascending.Goals as goal

pub returns-then-not-is_lt : goal.returns-then-not-is_lt
returns-then-not-is_lt c =
    let here = c.index-texts-next.result in
    let next = c.index-texts-next-in-loop-next.result in
    let not_before : is_lt (text_cmp here next) ≡ false = cc in (
      λ no. absurd cc,
      λ rising. absurd (not_ascending_at c.args.texts.now c.loop-next.next here next
          (omega arith) c.loop-next-test.true c.index-texts-next.is
          c.index-texts-next-in-loop-next.is not_before rising),
    )

pub returns : goal.returns
returns c = (
  λ _. ascending_from_adjacent c.args.texts.now (λ k within.
      c.loop-next.invariant k (omega
      (arith, c.loop-next-test.false, c.loop-next.auto.next, c.loop-next.auto.next-end)) within),
  λ _. refl,
)
