use Rattle.std.proofs.Common.{◌≡◌, ◌+◌, ◌*◌, take, ap, ap₂, sym, ◌∙◌, arith}
use Rattle.std.specs.Char.{digit_value}
use Rattle.std.specs.Str.Parse.{digits_value}
use Rattle.std.proofs.lemmas.List.{get_or_read, take_all}
use Rattle.std.proofs.lemmas.Int.Digits.{digits_value_more}
use Rattle.std.proofs.lemmas.Str.Parse.{digits_value-take-le}
use Rattle.wap_libs.specs.FormatReading.{up_to_65535}
use Rattle.wap_libs.proofs.TextsLemmas.FormatLaws.{within_65535, past_65535, up_to-Some, up_to-None}
use Rattle.wap_libs.proofs.texts.pieces.number_of.Goals as goal

pub returns-in-None : goal.returns-in-None
returns-in-None c =
    let ds = c.args.digits.now in
    let i = c.loop-digit.digit-index in
    let digit = get_or_read ds i c.digit-item.result c.loop-digit-test.true c.digit-item.is 0 in
    let more : digits_value 10 (take (i + 1) ds)
    ≡ c.loop-digit.number * 10 + digit_value c.digit-item.result =
    digits_value_more 10 ds i c.loop-digit-test.true
    ∙ ap₂ (λ n d. n * 10 + digit_value d) (sym c.loop-digit.invariant.value) (sym digit) in
    past_65535 (digits_value 10 ds) (omega
    (arith, up_to-None _ c.in-None.ensures, more, digits_value-take-le 10 ds (i + 1) (omega arith)))

pub loop-digit-preserved : goal.loop-digit-preserved
loop-digit-preserved c =
    let ds = c.args.digits.now in
    let i = c.loop-digit.digit-index in
    let digit = get_or_read ds i c.digit-item.result c.loop-digit-test.true c.digit-item.is 0 in
    let more : digits_value 10 (take (i + 1) ds)
    ≡ c.loop-digit.number * 10 + digit_value c.digit-item.result =
    digits_value_more 10 ds i c.loop-digit-test.true
    ∙ ap₂ (λ n d. n * 10 + digit_value d) (sym c.loop-digit.invariant.value) (sym digit) in
    let kept = up_to-Some _ c.in-Some.longer c.in-Some.ensures in
    record { value = kept.0 ∙ sym more; small = omega (arith, kept.0, kept.1) }

pub returns : goal.returns
returns c =
    let ds = c.args.digits.now in
    let whole : c.loop-digit.number ≡ digits_value 10 ds =
    c.loop-digit.invariant.value
    ∙ ap (digits_value 10) (take_all c.loop-digit.digit-index ds (omega arith)) in
    within_65535 c.loop-digit.number c.loop-digit.invariant.small ∙ ap up_to_65535 whole
