use Rattle.std.proofs.Common.{◌≡◌, ◌∙◌, sym, ap, subst, length, true, false, List, ℕ}
use Rattle.std.specs.Prelude.{◌==◌}
use Rattle.std.specs.Str.{IsUtf8}
use Rattle.wap_deck.proofs.GoodLemmas.Parted.{begun_first, bit_found, bits_on}
use Rattle.wap_deck.proofs.good.run.first_bit.Goals as goal

pub returns-then-not-is_empty-clause-bit : goal.returns-then-not-is_empty-clause-bit
returns-then-not-is_empty-clause-bit c =
    let some : (length c.args.begun.now == 0) ≡ false =
    ap (λ (l : List ℕ). length l == 0) (sym c.as_bytes.ensures.value) ∙ sym c.is_empty.ensures
    ∙ c.if-not-is_empty.true in
    begun_first c.args.begun c.args.bytes.now
    (subst IsUtf8 c.as_bytes.ensures.value c.as_bytes.ensures.utf8) some c.requires.text

pub returns-clause-bit : goal.returns-clause-bit
returns-clause-bit c =
    let empty : (length c.args.begun.now == 0) ≡ true =
    ap (λ (l : List ℕ). length l == 0) (sym c.as_bytes.ensures.value) ∙ sym c.is_empty.ensures
    ∙ c.if-not-is_empty.false in
    bit_found c.args.begun.now c.args.bytes.now empty c.next_bit.result c.next_bit.ensures.exact
    c.next_bit.ensures.kind

pub returns-clause-rest : goal.returns-clause-rest
returns-clause-rest c =
    bits_on c.args.bytes.now c.requires.parts c.next_bit.result c.next_bit.ensures.exact
