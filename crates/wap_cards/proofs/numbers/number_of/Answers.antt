use Rattle.std.proofs.Common.{◌≡◌, ◌+◌, ◌*◌, ◌-◌, ◌^◌, min, arith, get_or, take, sym, ◌∙◌, ap}
use Rattle.std.specs.Char.{digit_value}
use Rattle.std.specs.Str.Parse.{digits_value}
use Rattle.std.proofs.lemmas.Int.Digits.{digits_value_more}
use Rattle.std.proofs.lemmas.Str.{digit_value_digit}
use Rattle.wap_base.proofs.DigitLaws.{digit_at}
use Rattle.wap_cards.proofs.Digits.{one_more}
use Rattle.wap_cards.proofs.numbers.number_of.Goals as goal

pub loop-digit-preserved : goal.loop-digit-preserved
loop-digit-preserved c =
    let i = c.loop-digit.digit-index in
    let digit =
    digit_at c.args.digits.now c.loop-digit.digit-index c.requires c.loop-digit-test.true in
    let value = digit_value_digit (get_or c.args.digits.now c.loop-digit.digit-index 0) digit in
    let same : c.from.result ≡ digit_value (get_or c.args.digits.now c.loop-digit.digit-index 0) =
    omega arith in
    let more =
    one_more c.loop-digit.number (digits_value 10 (take c.loop-digit.digit-index c.args.digits.now))
    (digit_value (get_or c.args.digits.now c.loop-digit.digit-index 0)) c.loop-digit.invariant in
    let all =
    digits_value_more 10 c.args.digits.now c.loop-digit.digit-index c.loop-digit-test.true in
    c.saturating_add-number.ensures
    ∙ ap (λ n. min (n + c.from.result) (2 ^ 64 - 1)) c.saturating_mul.ensures
    ∙ ap (λ n. min (min (c.loop-digit.number * 10) (2 ^ 64 - 1) + n) (2 ^ 64 - 1)) same ∙ more
    ∙ ap (min (2 ^ 64 - 1)) (sym all)
