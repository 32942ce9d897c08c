use Rattle.std.proofs.Common.{◌≡◌, ◌+◌, ◌*◌, arith, get_or, sym, ◌∙◌, ap₂}
use Rattle.std.specs.Char.{digit_value}
use Rattle.std.proofs.lemmas.Int.Digits.{digits_value_more}
use Rattle.std.proofs.lemmas.Str.{digit_value_digit}
use Rattle.std.proofs.lemmas.Grind.{pow_more}
use Rattle.wap_base.proofs.DigitLaws.{digit_at}
use Rattle.wap_url.proofs.checks.number_of.Goals as goal

pub loop-digit-preserved : goal.loop-digit-preserved
loop-digit-preserved c =
    let i = c.loop-digit.digit-index in
    let digit =
    digit_at c.args.digits.now c.loop-digit.digit-index c.requires.digits c.loop-digit-test.true in
    let value = digit_value_digit (get_or c.args.digits.now c.loop-digit.digit-index 0) digit in
    record {
      value =
          ap₂ (λ n d. n * 10 + d) c.loop-digit.invariant.value (let same : c.from.result
          ≡ digit_value (get_or c.args.digits.now c.loop-digit.digit-index 0) = omega arith in same)
          ∙ sym
          (digits_value_more 10 c.args.digits.now c.loop-digit.digit-index c.loop-digit-test.true);
      small = omega (arith, pow_more 10 c.loop-digit.digit-index, digit);
    }
