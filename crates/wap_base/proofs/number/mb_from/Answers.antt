use Rattle.std.proofs.Common.{◌≡◌, ◌<◌, ◌+◌, ℕ, Err, length, sym, ap, ◌∙◌}
use Rattle.std.proofs.Common.{refl, inl, inr, get_or, arith}
use Rattle.std.proofs.lemmas.Bool.{cases_lt}
use Rattle.std.proofs.lemmas.Result.{err_from_is_err_and}
use Rattle.wap_base.specs.declared.number.ReadFault.TheVariants.{Short}
use Rattle.wap_base.specs.Numbers.{mb_at}
use Rattle.wap_base.proofs.Choices.{ok_same}
use Rattle.wap_base.proofs.NumberLoop.{ends_short, goes_on}
use Rattle.wap_base.proofs.number.mb_from.Goals as goal

pub loop-init : goal.loop-init
unfolding mb_at
loop-init c = record { within = c.requires; goes_on = refl }

pub returns-in_err-byte : goal.returns-in_err-byte
returns-in_err-byte c =
    let input = c.args.bytes.now in
    let p = err_from_is_err_and c.from_residual.result c.from_residual.ensures.1 in
    let at_end : c.loop.next ≡ length input =
    elim (cases_lt c.loop.next (length input)) [
      | inl within ↦ absurd (cc (c.in_err-byte.ensures.found within))
      | inr past ↦ omega (arith, c.loop.invariant.within)
    ] in
    p.1 ∙ ap Err p.2 ∙ c.in_err-byte.ensures.short at_end ∙ ap (λ (n : ℕ). Err (Short n)) at_end
    ∙ sym (ends_short input c.args.at c.loop.counter c.loop.value c.loop.next
    (mb_at input c.args.at) c.loop-test.true at_end c.loop.invariant.goes_on)

pub loop-preserved : goal.loop-preserved
loop-preserved c =
    let input = c.args.bytes.now in
    let inside : c.loop.next < length input =
    elim (cases_lt c.loop.next (length input)) [
      | inl within ↦ within
      | inr past ↦ absurd (cc (c.in_ok-byte.ensures.short (omega (arith, c.loop.invariant.within))))
    ] in
    let read =
    ok_same (c.in_ok-byte.byte, c.in_ok-byte.after) (get_or input c.loop.next 0, c.loop.next + 1)
    (c.in_ok-byte.ensures.found inside) in
    let byte_is : c.in_ok-byte.byte ≡ get_or input c.loop.next 0 = ap (λ (p : ℕ × ℕ). p.0) read in
    let after_is : c.in_ok-byte.after ≡ c.loop.next + 1 = ap (λ (p : ℕ × ℕ). p.1) read in
    record {
      within = omega arith;
      goes_on =
          rw (after_is, c.from.ensures) (goes_on input c.args.at c.loop.counter c.loop.value
          c.loop.next c.in_ok-byte.byte (mb_at input c.args.at) c.loop-test.true inside
          (omega arith) byte_is (omega arith) c.loop.invariant.goes_on);
    }
