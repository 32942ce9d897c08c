use Rattle.std.proofs.Common.{◌∙◌, ap, drop, get_or, ◌+◌, sym, arith}
use Rattle.std.proofs.lemmas.List.{at_drop_more}
use Rattle.std.specs.List.{fold}
use Rattle.wap_lex.specs.Numbers.{with_digit}
use Rattle.wap_lex.specs.Calculation.{small}
use Rattle.wap_lex.proofs.Loops.{too_large}
use Rattle.wap_lex.proofs.numbers.value_of.Goals as goal

pub returns-then-value-gt2147483647 : goal.returns-then-value-gt2147483647
returns-then-value-gt2147483647 c =
    let digits = c.args.digits.now in
    let at = c.loop-digit.digit-index in
    let step =
    at_drop_more (fold (with_digit c.args.base) c.loop-digit.value) digits at 0 (omega arith) in
    let value = with_digit c.args.base c.loop-digit.value (get_or digits at 0) in
    too_large c.args.base value (drop (at + 1) digits) (omega arith) (omega arith)
    ∙ ap small (sym step ∙ c.loop-digit.invariant.whole)
