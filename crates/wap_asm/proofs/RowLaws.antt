-- The table, computed, and what follows for each row.
use Rattle.std.proofs.Common.{◌≡◌, ℕ, ◌+◌, ◌-◌, ◌<◌, ◌≤◌, Bool, true, false, nat_lt, nat_le, ◌&&◌}
use Rattle.std.proofs.Common.{◌||◌, List, [], ◌∷◌, ◌++◌, length, slice_index, Some, Ok, inl, inr}
use Rattle.std.proofs.Common.{refl, sym, ◌∙◌, ap, append_assoc, arith, length-append}
use Rattle.std.specs.List.{list_all}
use Rattle.std.proofs.lemmas.Bool.{and_parts, ltb-true, leb-true, le-ltb, true≢false, cond-false}
use Rattle.wap_unit.specs.declared.instr.Instr.{Instr}
use mathlib.Core.Bool.{not}
use Rattle.std.proofs.lemmas.Bool.Decides.{nat_tests}
use Rattle.std.proofs.Math.Seq.{get_or-append_seam}
use Rattle.wap_unit.specs.declared.row.OpName.{OpName}
use Rattle.wap_unit.specs.contracts.row.OpName.{the_type}
use Rattle.wap_unit.specs.declared.row.Slot.{Slot}
use Rattle.wap_unit.specs.declared.row.Slot.TheVariants.{Low}
use Rattle.wap_unit.specs.declared.row.Row.{Row}
use Rattle.wap_unit.specs.Rows.{rows}
use Rattle.wap_unit.specs.Instructions.{width, size, has_code, row_of}
use Rattle.wap_asm.specs.Operands.{Holds}
use Rattle.wap_asm.specs.Spelling.{limit, holds, is_spelling, shortest}
use Rattle.wap_unit.specs.Instructions.{value, read_by, instr_at}
use Rattle.wap_asm.specs.Spelling.{low_part, slot_bytes, spelling}
use Rattle.wap_asm.specs.Exact.{Among}
use Rattle.wap_asm.proofs.Finding.{each_pair, all_among, found, finds, found_first}
use Rattle.wap_asm.proofs.SlotLaws.{length-slot_bytes, value-slot_bytes}
use Rattle.wap_asm.proofs.SlotLaws.{low_part-below, low_part-low}
use denote.Enum.Bare.{sameb, same_true, true_same}

-- ---- what is computed

-- no code is of both
abbrev apart : Row → Row → Bool
apart r s = nat_le (r.first + r.count) s.first || nat_le (s.first + s.count) r.first

abbrev is_after_code : Slot → Bool
is_after_code Low = false
is_after_code _ = true

abbrev is_formed : Row → Bool
is_formed row =
    nat_lt 0 row.count
    && (nat_le (row.first + row.count) 256 && (is_after_code row.b && is_after_code row.c))

-- an operation's shorter row stands first
abbrev is_in_order : Row → Row → Bool
is_in_order r s = not (sameb the_type r.operation s.operation) || nat_le (size r) (size s)

rows_apart : each_pair apart rows ≡ true
rows_apart = refl

rows_formed : list_all is_formed rows ≡ true
rows_formed = refl

rows_in_order : each_pair is_in_order rows ≡ true
rows_in_order = refl

-- ---- what follows for a row

abbrev record-of : OpName → ℕ → ℕ → ℕ → ℕ → Instr
record-of name a b c next = record { name = name; a = a; b = b; c = c; next = next }

add_sub : (m n : ℕ) → m + n - m ≡ n
add_sub m n = omega arith

or_second : (x y : Bool) → x ≡ false → (x || y) ≡ true → y ≡ true
or_second x y e h = sym (ap (λ z. z || y) e) ∙ h

split_a : (before : List ℕ) (x : ℕ) (sa sb sc rest : List ℕ)
    → before ++ (x ∷ ((sa ++ (sb ++ sc)) ++ rest))
    ≡ (before ++ x ∷ []) ++ (sa ++ (sb ++ (sc ++ rest)))
split_a before x sa sb sc rest = simp append_assoc refl

split_b : (before : List ℕ) (x : ℕ) (sa sb sc rest : List ℕ)
    → before ++ (x ∷ ((sa ++ (sb ++ sc)) ++ rest))
    ≡ (before ++ x ∷ [] ++ sa) ++ (sb ++ (sc ++ rest))
split_b before x sa sb sc rest = simp append_assoc refl

split_c : (before : List ℕ) (x : ℕ) (sa sb sc rest : List ℕ)
    → before ++ (x ∷ ((sa ++ (sb ++ sc)) ++ rest)) ≡ (before ++ x ∷ [] ++ sa ++ sb) ++ (sc ++ rest)
split_c before x sa sb sc rest = simp append_assoc refl

long_enough : (before xs rest : List ℕ) (n : ℕ) → length xs ≡ n
    → n ≤ length (before ++ (xs ++ rest)) - length before
long_enough before xs rest n e =
    omega (arith, length-append before (xs ++ rest), length-append xs rest, e)

own_code : (first n count : ℕ) → n < count
    → (nat_le first (first + n) && nat_lt (first + n - first) count) ≡ true
own_code first n count h = grind (arith, nat_tests)

one_row : (code f c g d : ℕ) → (nat_le (f + c) g || nat_le (g + d) f) ≡ true
    → (nat_le f code && nat_lt (code - f) c) ≡ true
    → (nat_le g code && nat_lt (code - g) d) ≡ true → ⊥
one_row code f c g d either in_f in_g = grind (arith, nat_tests)

row_spelled : (row : Row) (n : ℕ) → Among row rows → n < row.count
    → row_of (row.first + n) ≡ Some row
unfolding row_of
row_spelled row n among h =
    finds (has_code (row.first + n)) apart
    (λ x y. one_row (row.first + n) x.first x.count y.first y.count) rows row rows_apart among
    (own_code row.first n row.count h)

is_not_low : (slot : Slot) → is_after_code slot ≡ true → slot ≡ Low → ⊥
is_not_low slot h e = true≢false (sym h ∙ ap is_after_code e)

pub length-spelling : (row : Row) (a b c : ℕ) → length (spelling row a b c) ≡ size row
length-spelling row a b c =
    omega (
      arith,
      length-append (slot_bytes row.a a) (slot_bytes row.b b ++ slot_bytes row.c c),
      length-append (slot_bytes row.b b) (slot_bytes row.c c),
      length-slot_bytes row.a a,
      length-slot_bytes row.b b,
      length-slot_bytes row.c c,
    )

same_instr : (name : OpName) (a a' b b' c c' next : ℕ) → a ≡ a' → b ≡ b' → c ≡ c'
    → record-of name a b c next ≡ record-of name a' b' c' next
same_instr name a a' b b' c c' next ea eb ec = rw (ea, eb, ec) refl

-- a row whose test passes has room
room : (row : Row) (a b c : ℕ) → holds row a b c ≡ true → Holds row a b c
room row a b c is =
    let first = and_parts (nat_lt a (limit row.count row.a)) _ is in
    let others = and_parts (nat_lt b (limit row.count row.b)) _ first.1 in
    record {
      a_fits = ltb-true a _ first.0;
      b_fits = ltb-true b _ others.0;
      c_fits = ltb-true c _ others.1;
    }

-- what a row spells is read back
pub any_read_back : (row : Row) (a b c : ℕ) (before rest : List ℕ) → Among row rows
    → holds row a b c ≡ true
    → instr_at (before ++ (spelling row a b c ++ rest)) (length before)
    ≡ Ok (record-of row.name a b c (length before + size row))
any_read_back row a b c before rest among is =
    let fits = room row a b c is in
    let formed = all_among is_formed rows row rows_formed among in
    let some = and_parts (nat_lt 0 row.count) _ formed in
    let low_last = and_parts (nat_le (row.first + row.count) 256) _ some.1 in
    let plain = and_parts (is_after_code row.b) (is_after_code row.c) low_last.1 in
    let sa = slot_bytes row.a a in
    let sb = slot_bytes row.b b in
    let sc = slot_bytes row.c c in
    let op = row.first + low_part row.a a in
    let code = before ++ (spelling row a b c ++ rest) in
    let at = length before in
    let here : slice_index code at ≡ op =
    get_or-append_seam before op ((sa ++ (sb ++ sc)) ++ rest) 0 in
    let low : slice_index code at - row.first ≡ low_part row.a a =
    ap (λ n. n - row.first) here ∙ add_sub row.first (low_part row.a a) in
    let row_is : row_of (slice_index code at) ≡ Some row =
    ap row_of here ∙ row_spelled row (low_part row.a a) among
    (low_part-below row.count row.a a (ltb-true 0 row.count some.0) fits.a_fits) in
    let enough : size row ≤ length code - at =
    long_enough before (spelling row a b c) rest (size row) (length-spelling row a b c) in
    let a_is : value code (at + 1) row.a (slice_index code at - row.first) ≡ a =
    ap (λ l. value l (at + 1) row.a (slice_index code at - row.first))
    (split_a before op sa sb sc rest)
    ∙ value-slot_bytes (before ++ op ∷ []) (sb ++ (sc ++ rest)) row.count row.a
    (slice_index code at - row.first) a (at + 1)
    (omega (arith, length-append before (op ∷ []))) fits.a_fits
    (λ e. low ∙ low_part-low row.a a e) in
    let b_is : value code (at + 1 + width row.a) row.b (slice_index code at - row.first) ≡ b =
    ap (λ l. value l (at + 1 + width row.a) row.b (slice_index code at - row.first))
    (split_b before op sa sb sc rest)
    ∙ value-slot_bytes (before ++ op ∷ [] ++ sa) (sc ++ rest) row.count row.b
    (slice_index code at - row.first) b (at + 1 + width row.a) (omega (
      arith,
      length-append before (op ∷ []),
      length-append (before ++ op ∷ []) sa,
      length-slot_bytes row.a a,
    )) fits.b_fits (λ e. absurd (is_not_low row.b plain.0 e)) in
    let c_is : value code (at + 1 + width row.a + width row.b) row.c
    (slice_index code at - row.first)
    ≡ c =
    ap (λ l. value l (at + 1 + width row.a + width row.b) row.c (slice_index code at - row.first))
    (split_c before op sa sb sc rest)
    ∙ value-slot_bytes (before ++ op ∷ [] ++ sa ++ sb) rest row.count row.c
    (slice_index code at - row.first) c (at + 1 + width row.a + width row.b) (omega (
      arith,
      length-append before (op ∷ []),
      length-append (before ++ op ∷ []) sa,
      length-append (before ++ op ∷ [] ++ sa) sb,
      length-slot_bytes row.a a,
      length-slot_bytes row.b b,
    )) fits.c_fits (λ e. absurd (is_not_low row.c plain.1 e)) in
    ap (λ o. read_by o code at) row_is
    ∙ (cond-false (nat_lt (length code - at) (size row)) _ _
    (le-ltb (length code - at) (size row) enough)
    ∙ ap Ok (same_instr row.name _ a _ b _ c (at + size row) a_is b_is c_is))

pub read_back : (operation : OpName) (a b c : ℕ) (row : Row) (before rest : List ℕ)
    → shortest operation a b c ≡ Some row
    → instr_at (before ++ (spelling row a b c ++ rest)) (length before)
    ≡ Ok (record-of row.name a b c (length before + size row))
unfolding shortest
read_back operation a b c row before rest e =
    let it = found (is_spelling operation a b c) rows row e in
    let fits = and_parts (sameb the_type row.operation operation) (holds row a b c) it.0 in
    any_read_back row a b c before rest it.1 fits.1

pub none_shorter : (operation : OpName) (a b c : ℕ) (row other : Row)
    → shortest operation a b c ≡ Some row
    → Among other rows → is_spelling operation a b c other ≡ true → size row ≤ size other
unfolding shortest
none_shorter operation a b c row other e among is =
    let it = found (is_spelling operation a b c) rows row e in
    let row_op =
    same_true the_type tt row.operation operation (and_parts _ (holds row a b c) it.0).0 in
    let other_op =
    same_true the_type tt other.operation operation (and_parts _ (holds other a b c) is).0 in
    elim (found_first (is_spelling operation a b c)
    is_in_order rows row other rows_in_order e among is) [
      | inl same ↦ omega (arith, ap size same)
      | inr order ↦
          leb-true (size row) (size other) (or_second _ _
          (ap not (true_same the_type row.operation other.operation (row_op ∙ sym other_op))) order)
    ]

-- a row has codes, and they are bytes
codes_fit : (row : Row) → Among row rows → (0 < row.count) × (row.first + row.count ≤ 256)
codes_fit row among =
    let formed = and_parts (nat_lt 0 row.count) _ (all_among is_formed rows row rows_formed among)
    in
    let last = and_parts (nat_le (row.first + row.count) 256) _ formed.1 in
    (ltb-true 0 row.count formed.0, leb-true (row.first + row.count) 256 last.0)

-- a code stands before the end of those of its row
pub code_below : (code : ℕ) (row : Row) → row_of code ≡ Some row
    → (code < row.first + row.count) × (row.first + row.count ≤ 256)
unfolding row_of
code_below code row is =
    let it = found (has_code code) rows row is in
    let own = and_parts (nat_le row.first code) _ it.0 in
    let less = ltb-true (code - row.first) row.count own.1 in
    (omega (arith, less, leb-true row.first code own.0), (codes_fit row it.1).1)

-- the row that is taken has room
pub shortest_fits : (operation : OpName) (a b c : ℕ) (row : Row)
    → shortest operation a b c ≡ Some row
    → (0 < row.count) × (row.first + row.count ≤ 256) × Holds row a b c
unfolding shortest
shortest_fits operation a b c row e =
    let it = found (is_spelling operation a b c) rows row e in
    let codes = codes_fit row it.1 in
    (codes.0, codes.1, room row a b c (and_parts _ (holds row a b c) it.0).1)
