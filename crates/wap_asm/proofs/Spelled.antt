-- What is read is spelled so.
use Rattle.std.proofs.Common.{◌≡◌, ℕ, ◌+◌, ◌-◌, ◌*◌, ◌/◌, ◌%◌, ◌<◌, ◌≤◌, Bool, true, false, nat_lt}
use Rattle.std.proofs.Common.{nat_le, ◌==◌, ◌&&◌, ◌||◌, List, [], ◌∷◌, ◌++◌, length, slice_index}
use Rattle.std.proofs.Common.{take, drop, find, Option, Some, None, Result, Ok, Err, inl, inr, refl}
use Rattle.std.proofs.Common.{sym, ◌∙◌, ap, subst, append_assoc, arith, drop-cons, add-one}
use Rattle.std.proofs.Math.Nat.{mul_comm}
use Rattle.std.specs.List.{list_all}
use Rattle.std.proofs.Math.Seq.{take-add}
use Rattle.std.proofs.lemmas.List.{drop-drop}
use Rattle.std.proofs.lemmas.Nat.{div-mul-add, mod-mul-add}
use Rattle.std.proofs.lemmas.Bool.{cases_Bool, ltb-false, cond-true, cond-false}
use Rattle.std.proofs.lemmas.Bool.Decides.{nat_tests}
use Rattle.wap_unit.specs.declared.row.Slot.{Slot}
use Rattle.wap_unit.specs.declared.row.Slot.TheVariants.{Low, Byte, Word}
use Rattle.wap_unit.specs.declared.row.Row.{Row}
use Rattle.wap_unit.specs.Rows.{rows}
use Rattle.wap_unit.specs.declared.instr.Instr.{Instr}
use Rattle.wap_unit.specs.declared.instr.InstrFault.{InstrFault}
use Rattle.wap_unit.specs.Instructions.{width, size, has_code, row_of}
use Rattle.wap_unit.specs.Instructions.{value, read, read_by, instr_at}
use Rattle.wap_asm.specs.Spelling.{low_part, slot_bytes, spelling}
use Rattle.wap_asm.specs.Exact.{IsSpelled}
use Rattle.wap_asm.proofs.Finding.{all_among, found}

abbrev is_in_code : Slot → Bool
is_in_code Low = true
is_in_code _ = false

-- a row with no operand in its code has one code
abbrev is_single : Row → Bool
is_single row = is_in_code row.a || (row.count == 1)

rows_single : list_all is_single rows ≡ true
rows_single = refl

word_back : (h l : ℕ) → l < 256 → (256 * h + l) / 256 ∷ (256 * h + l) % 256 ∷ [] ≡ h ∷ l ∷ []
word_back h l below =
    rw (mul_comm 256 h) (rw (div-mul-add h 256 l below, mod-mul-add h 256 l below) refl)

slot_bytes-value : (code : List ℕ) (k : ℕ) (slot : Slot) (low : ℕ) → k + width slot ≤ length code
    → ((j : ℕ) → slice_index code j < 256)
    → take (width slot) (drop k code) ≡ slot_bytes slot (value code k slot low)
slot_bytes-value code k Byte low h bytes = ap (take 1) (drop-cons code k 0 (omega (arith, h)))
slot_bytes-value code k Word low h bytes =
    ap (take 2) (drop-cons code k 0 (omega (arith, h)) ∙ ap (λ xs. slice_index code k ∷ xs)
    (ap (λ j. drop j code) (sym (add-one k)) ∙ drop-cons code (k + 1) 0 (omega (arith, h))))
    ∙ sym (word_back (slice_index code k) (slice_index code (k + 1)) (bytes (k + 1)))
slot_bytes-value code k _ low h bytes = refl

joined : {x : ℕ} {l1 l2 l3 h a b c a' b' c' : List ℕ} → l1 ≡ l2 ++ c → l2 ≡ l3 ++ b → l3 ≡ h ++ a
    → h ≡ x ∷ [] → a ≡ a' → b ≡ b' → c ≡ c' → l1 ≡ x ∷ (a' ++ (b' ++ c'))
joined {x = x} {a' = a'} {b' = b'} {c' = c'} e1 e2 e3 eh ea eb ec =
    rw (e1, e2, e3, eh, ea, eb, ec) (ap (λ l. x ∷ l) (append_assoc a' b' c'))

four : {x y : ℕ} {a b c a' b' c' : List ℕ} → x ≡ y → a ≡ a' → b ≡ b' → c ≡ c'
    → x ∷ (a ++ (b ++ c)) ≡ y ∷ (a' ++ (b' ++ c'))
four ex ea eb ec = rw (ex, ea, eb, ec) refl

abbrev ok : Instr → Result Instr InstrFault
ok i = Ok i

same_Ok : (x y : Instr) → ok x ≡ ok y → x ≡ y
same_Ok x y e = grind arith

pieces : (code : List ℕ) (at p q r : ℕ) → at < length code
    → take (1 + p + q + r) (drop at code)
    ≡ slice_index code at
    ∷ (take p (drop (at + 1) code)
    ++ (take q (drop (at + 1 + p) code) ++ take r (drop (at + 1 + p + q) code)))
pieces code at p q r h =
    let e1 : at + (1 + p + q) ≡ at + 1 + p + q = omega arith in
    let e2 : at + (1 + p) ≡ at + 1 + p = omega arith in
    let n1 : drop (1 + p + q) (drop at code) ≡ drop (at + 1 + p + q) code =
    drop-drop (1 + p + q) at code ∙ ap (λ k. drop k code) e1 in
    let n2 : drop (1 + p) (drop at code) ≡ drop (at + 1 + p) code =
    drop-drop (1 + p) at code ∙ ap (λ k. drop k code) e2 in
    let n3 : drop 1 (drop at code) ≡ drop (at + 1) code = drop-drop 1 at code in
    let head : take 1 (drop at code) ≡ slice_index code at ∷ [] =
    ap (take 1) (drop-cons code at 0 h) in
    joined (take-add (1 + p + q) r (drop at code)) (take-add (1 + p) q (drop at code))
    (take-add 1 p (drop at code)) head (ap (take p) n3) (ap (take q) n2) (ap (take r) n1)

err_ok : (f : InstrFault) (i : Instr) → (let r : Result Instr InstrFault = Err f in r ≡ Ok i) → ⊥
err_ok f i e = grind arith

own_code : (slot : Slot) (first count code a : ℕ)
    → (nat_le first code && nat_lt (code - first) count) ≡ true
    → (is_in_code slot || (count == 1)) ≡ true
    → (slot ≡ Low → a ≡ code - first) → first + low_part slot a ≡ code
own_code Low first count code a has single same = let e = same refl in grind (arith, nat_tests)
own_code _ first count code a has single same = grind (arith, nat_tests)

value-low : (code : List ℕ) (k : ℕ) (slot : Slot) (low : ℕ) → slot ≡ Low
    → value code k slot low ≡ low
value-low code k slot low e = ap (λ s. value code k s low) e

row_spells : (code : List ℕ) (at : ℕ) (row : Row) → at < length code
    → ((j : ℕ) → slice_index code j < 256) → size row ≤ length code - at
    → has_code (slice_index code at) row ≡ true → is_single row ≡ true
    → take (size row) (drop at code)
    ≡ spelling row (read row code at).a (read row code at).b (read row code at).c
row_spells code at row here bytes enough has single =
    let low = slice_index code at - row.first in
    let wa = width row.a in
    let wb = width row.b in
    let wc = width row.c in
    let a_is = slot_bytes-value code (at + 1) row.a low (omega (arith, enough, here)) bytes in
    let b_is = slot_bytes-value code (at + 1 + wa) row.b low (omega (arith, enough, here)) bytes in
    let c_is =
    slot_bytes-value code (at + 1 + wa + wb) row.c low (omega (arith, enough, here)) bytes in
    let byte_is =
    own_code row.a row.first row.count (slice_index code at)
    (value code (at + 1) row.a low) has single (value-low code (at + 1) row.a low) in
    pieces code at wa wb wc here ∙ four (sym byte_is) a_is b_is c_is

spelled_by : (code : List ℕ) (at : ℕ) (i : Instr) (o : Option Row) → at < length code
    → ((j : ℕ) → slice_index code j < 256) → find (has_code (slice_index code at)) rows ≡ o
    → read_by o code at ≡ Ok i → IsSpelled code at i
spelled_by code at i None here bytes found_is e = absurd (err_ok _ i e)
spelled_by code at i (Some row) here bytes found_is e =
    elim (cases_Bool (nat_lt (length code - at) (size row))) [
      | inl short ↦
          absurd (err_ok _ i (sym (cond-true (nat_lt (length code - at) (size row)) _ _ short) ∙ e))
      | inr long ↦
          let it = found (has_code (slice_index code at)) rows row found_is in
          let same =
          same_Ok (read row code at) i
          (sym (cond-false (nat_lt (length code - at) (size row)) _ _ long) ∙ e) in
          subst (IsSpelled code at) same (
            row,
            it.1,
            refl,
            row_spells code at row here bytes (ltb-false (length code - at) (size row) long) it.0
                (all_among is_single rows row rows_single it.1),
          )
    ]

pub spelled : (code : List ℕ) (at : ℕ) (i : Instr) → at < length code
    → ((j : ℕ) → slice_index code j < 256) → instr_at code at ≡ Ok i → IsSpelled code at i
unfolding row_of
spelled code at i here bytes e =
    spelled_by code at i (row_of (slice_index code at)) here bytes refl e
