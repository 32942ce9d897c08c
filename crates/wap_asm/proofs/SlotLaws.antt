-- One operand: what is written is read, in as many bytes.
use Rattle.std.proofs.Common.{◌≡◌, ℕ, ◌+◌, ◌/◌, ◌%◌, ◌<◌, List, ◌∷◌, ◌++◌}
use Rattle.std.proofs.Common.{length, slice_index, refl, ◌∙◌, ap, arith}
use Rattle.std.proofs.Math.Nat.{div-add-mod}
use Rattle.std.proofs.Math.Seq.{get_or-append_seam}
use Rattle.std.proofs.lemmas.List.{get_or-append-add}
use Rattle.wap_unit.specs.declared.row.Slot.{Slot}
use Rattle.wap_unit.specs.declared.row.Slot.TheVariants.{Absent, Low, Byte, Word}
use Rattle.wap_unit.specs.Instructions.{width}
use Rattle.wap_asm.specs.Spelling.{limit}
use Rattle.wap_unit.specs.Instructions.{value}
use Rattle.wap_asm.specs.Spelling.{low_part, slot_bytes}

pub length-slot_bytes : (slot : Slot) (n : ℕ) → length (slot_bytes slot n) ≡ width slot
length-slot_bytes Absent n = refl
length-slot_bytes Low n = refl
length-slot_bytes Byte n = refl
length-slot_bytes Word n = refl

-- where the code has the low bits that the operand gives, it is read as it was
pub value-slot_bytes : (before rest : List ℕ) (count : ℕ) (slot : Slot) (low n at : ℕ)
    → at ≡ length before → n < limit count slot → (slot ≡ Low → low ≡ n)
    → value (before ++ (slot_bytes slot n ++ rest)) at slot low ≡ n
value-slot_bytes before rest count Absent low n at e h same = omega (arith, h)
value-slot_bytes before rest count Low low n at e h same = same refl
value-slot_bytes before rest count Byte low n at e h same =
    ap (λ k. slice_index (before ++ (n ∷ rest)) k) e ∙ get_or-append_seam before n rest 0
value-slot_bytes before rest count Word low n at e h same =
    let high : slice_index (before ++ (n / 256 ∷ (n % 256 ∷ rest))) at ≡ n / 256 =
    ap (λ k. slice_index (before ++ (n / 256 ∷ (n % 256 ∷ rest))) k) e
    ∙ get_or-append_seam before (n / 256) (n % 256 ∷ rest) 0 in
    let low : slice_index (before ++ (n / 256 ∷ (n % 256 ∷ rest))) (at + 1) ≡ n % 256 =
    ap (λ k. slice_index (before ++ (n / 256 ∷ (n % 256 ∷ rest))) (k + 1)) e
    ∙ get_or-append-add before (n / 256 ∷ (n % 256 ∷ rest)) 1 0 in
    rw (high, low) (div-add-mod n 256)

pub low_part-below : (count : ℕ) (slot : Slot) (n : ℕ) → 0 < count → n < limit count slot
    → low_part slot n < count
low_part-below count Low n some h = h
low_part-below count _ n some h = some

pub low_part-low : (slot : Slot) (n : ℕ) → slot ≡ Low → low_part slot n ≡ n
low_part-low slot n e = ap (λ s. low_part s n) e
