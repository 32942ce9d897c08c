use Rattle.std.proofs.Common.{◌+◌, ◌-◌, ℕ, length, drop, ap, ◌∙◌, sym, arith, length-drop}
use Rattle.wap_lex.specs.Calculation.{item_len, items_len}
use Rattle.wap_lex.proofs.Loops.{items_more, items_end, items_over}
use Rattle.wap_lex.proofs.strings.items_len.Goals as goal

pub loop-preserved : goal.loop-preserved
loop-preserved c =
    let bytes = c.args.bytes.now in
    let rest = c.loop.rest.now in
    let quote = c.args.quote in
    let is = c.item_len-item.ensures.item in
    let step =
    items_more (length bytes) c.loop.counter quote rest c.loop-test.true
    (λ none. c.if-item-eq0.false (is ∙ none)) in
    let back = c.split_at.ensures.back ∙ ap (λ (n : ℕ). drop n rest) is in
    let len = ap length back ∙ length-drop (item_len quote rest) rest in
    let same = ap (items_len (length bytes - (c.loop.counter + 1)) quote) back in
    record {
      passed =
          omega
          (arith, same, step, len, c.loop.invariant.passed, is, c.item_len-item.ensures.within);
      within = omega (arith, len, c.loop.invariant.within);
    }

pub returns-then-item-eq0 : goal.returns-then-item-eq0
returns-then-item-eq0 c =
    let bytes = c.args.bytes.now in
    let none =
    items_end (length bytes - c.loop.counter) c.args.quote c.loop.rest.now
    (sym c.item_len-item.ensures.item ∙ c.if-item-eq0.true) in
    record { items = omega (arith, none, c.loop.invariant.passed); within = omega arith }

pub returns : goal.returns
returns c =
    let bytes = c.args.bytes.now in
    let none =
    items_over (length bytes) c.loop.counter c.args.quote c.loop.rest.now c.loop-test.false in
    record { items = omega (arith, none, c.loop.invariant.passed); within = omega arith }
