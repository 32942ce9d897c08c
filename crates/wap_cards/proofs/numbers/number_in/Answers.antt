use Rattle.std.proofs.Common.{sym, ◌∙◌}
use Rattle.wap_cards.proofs.Digits.{none_empty, none_other, some_number}
use Rattle.wap_cards.proofs.numbers.number_in.Goals as goal

pub returns-then-is_empty : goal.returns-then-is_empty
returns-then-is_empty c = none_empty c.args.text.now (c.is_empty.ensures.0 c.if-is_empty.true)

pub returns-then-are_digits : goal.returns-then-are_digits
returns-then-are_digits c =
    some_number c.as_bytes-digits.result.now c.args.text.now c.is_empty.result c.number_of.result
    (c.as_bytes-digits.ensures.value ∙ c.as_str.ensures.bytes)
    c.is_empty.ensures c.if-is_empty.false
    (sym c.are_digits.ensures ∙ c.if-are_digits.true) c.number_of.ensures

pub returns-else-are_digits : goal.returns-else-are_digits
returns-else-are_digits c =
    none_other c.as_bytes-digits.result.now c.args.text.now
    (c.as_bytes-digits.ensures.value ∙ c.as_str.ensures.bytes)
    (sym c.are_digits.ensures ∙ c.if-are_digits.false)
