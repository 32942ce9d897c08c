-- What the code reads is what the definitions say: the sizes of jumps at distances, sites, starts
-- and the first sizes.
use Rattle.std.proofs.Common.{◌≡◌, ℕ, zero, suc, ◌+◌, ◌<◌, ◌≤◌, Bool, true, false, nat_lt, cond}
use Rattle.std.proofs.Common.{not, ◌&&◌, if◌then◌else◌, List, [], ◌∷◌, Some, None, length, get_or}
use Rattle.std.proofs.Common.{take, map, sum, replicate, slice_get, slice_index, slice_range, inl}
use Rattle.std.proofs.Common.{inr, refl, sym, ◌∙◌, ap, arith}
use Rattle.std.proofs.lemmas.Bool.{cases_lt}
use Rattle.std.proofs.lemmas.Option.{same_Some, none-some}
use Rattle.std.proofs.lemmas.List.{length-map, get_or_past, ext_get_or, get_or-map, take_all}
use Rattle.std.proofs.lemmas.List.Sums.{sum_by-take-le, prefix_len-le-length}
use Rattle.wap_unit.specs.declared.row.OpName.{OpName}
use Rattle.wap_unit.specs.declared.row.OpName.TheVariants.{JumpFw, JumpBw, TjumpFw, TjumpBw}
use Rattle.wap_unit.specs.declared.row.OpName.TheVariants.{JumpFwS, JumpBwS, TjumpFwS}
use Rattle.wap_unit.specs.declared.row.OpName.TheVariants.{JumpFwW, JumpBwW, TjumpFwW, TjumpBwW}
use Rattle.wap_unit.specs.declared.row.Slot.TheVariants.{Absent, Low, Byte, Word}
use Rattle.wap_unit.specs.declared.row.Operands.TheVariants.{Plain}
use Rattle.wap_unit.specs.declared.row.Takes.TheVariants.{Values}
use Rattle.wap_unit.specs.declared.row.After.TheVariants.{Forward, Backward, ForwardOrOn}
use Rattle.wap_unit.specs.declared.row.After.TheVariants.{BackwardOrOn}
use Rattle.wap_unit.specs.declared.row.Row.{Row}
use Rattle.wap_unit.specs.Rows.{row}
use Rattle.wap_unit.specs.Instructions.{size}
use Rattle.wap_asm.specs.Spelling.{shortest}
use Rattle.wap_asm.specs.declared.form.Form.{Form}
use Rattle.wap_asm.specs.declared.form.Form.TheVariants.{Op, Jump, Label}
use Rattle.wap_asm.specs.declared.site.Site.{Site}
use Rattle.wap_asm.specs.Spellings.{operation_of, longest, spelling_of, row_size, or_else}
use Rattle.wap_asm.specs.Placing.{is_label, target, between, form_bytes, grown, sizes_after, wide}
use Rattle.wap_asm.specs.Placing.{settled}
use Rattle.wap_asm.specs.Placed.{Leads}
use Rattle.wap_asm.specs.inside.Passes.{kind_of, site_of, leap_size, apart, AreStarts, first_size}
use Rattle.wap_asm.proofs.SpellingLaws.{length-row_bytes}
use Rattle.wap_asm.proofs.Sums.{sum-range, range_below}
use Rattle.wap_asm.proofs.PlacedLaws.{sum-settled}
use Rattle.wap_asm.proofs.Settling.{get_or-grown, length-grown, zeros_below}

-- ---- the size of a jump at a distance, computed from the table

by_three : (s b w : Row) → size s ≡ 1 → size b ≡ 2 → size w ≡ 3 → (p q r : Bool)
    → (if p then 1 else (if q then 2 else 3))
    ≡ row_size (or_else (cond (p && true) (Some s)
    (cond (q && true) (Some b) (cond (r && true) (Some w) None))) (Some w))
by_three s b w es eb ew true q r = sym es
by_three s b w es eb ew false true r = sym eb
by_three s b w es eb ew false false true = sym ew
by_three s b w es eb ew false false false = sym ew

by_two : (b w : Row) → size b ≡ 2 → size w ≡ 3 → (q r : Bool)
    → (if q then 2 else 3)
    ≡ row_size (or_else (cond (q && true) (Some b) (cond (r && true) (Some w) None)) (Some w))
by_two b w eb ew true r = sym eb
by_two b w eb ew false true = sym ew
by_two b w eb ew false false = sym ew

pub jump_size : (op : OpName) (i t had d : ℕ) → Leads op i t
    → leap_size (kind_of op) had d ≡ row_size (spelling_of op d 0 0)
unfolding spelling_of shortest longest
jump_size JumpFw i t had d h =
    by_three (row 0x80 32 JumpFw JumpFwS Low Absent Absent Plain (Values 0) 0 Forward)
    (row 0x01 1 JumpFw JumpFw Byte Absent Absent Plain (Values 0) 0 Forward)
    (row 0x02 1 JumpFw JumpFwW Word Absent Absent Plain (Values 0) 0 Forward)
    refl refl refl (nat_lt d 32) (nat_lt d 256) (nat_lt d 65536)
jump_size JumpBw i t had d h =
    by_three (row 0xA0 32 JumpBw JumpBwS Low Absent Absent Plain (Values 0) 0 Backward)
    (row 0x03 1 JumpBw JumpBw Byte Absent Absent Plain (Values 0) 0 Backward)
    (row 0x04 1 JumpBw JumpBwW Word Absent Absent Plain (Values 0) 0 Backward)
    refl refl refl (nat_lt d 32) (nat_lt d 256) (nat_lt d 65536)
jump_size TjumpFw i t had d h =
    by_three (row 0xC0 32 TjumpFw TjumpFwS Low Absent Absent Plain (Values 1) 0 ForwardOrOn)
    (row 0x05 1 TjumpFw TjumpFw Byte Absent Absent Plain (Values 1) 0 ForwardOrOn)
    (row 0x06 1 TjumpFw TjumpFwW Word Absent Absent Plain (Values 1) 0 ForwardOrOn)
    refl refl refl (nat_lt d 32) (nat_lt d 256) (nat_lt d 65536)
jump_size TjumpBw i t had d h =
    by_two (row 0x07 1 TjumpBw TjumpBw Byte Absent Absent Plain (Values 1) 0 BackwardOrOn)
    (row 0x08 1 TjumpBw TjumpBwW Word Absent Absent Plain (Values 1) 0 BackwardOrOn)
    refl refl (nat_lt d 256) (nat_lt d 65536)
jump_size _ i t had d h = absurd h

-- ---- sites and starts

site_from : {X Y : Type 0} (f : X → Y) (xs : List X) (k : ℕ) (y : Y)
    → slice_get (map f xs) k ≡ Some y → (x : X) × (slice_get xs k ≡ Some x) × (f x ≡ y)
site_from f [] k y e = absurd (none-some y e)
site_from f (x ∷ xs) zero y e = (x, refl, same_Some (f x) y e)
site_from f (x ∷ xs) (suc k) y e = site_from f xs k y e

pub target_within : (forms : List Form) (label : ℕ) → target forms label ≤ length forms
target_within forms label = prefix_len-le-length (λ form. not (is_label label form)) forms

site_within : (forms : List Form) (form : Form) → (site_of forms form).target ≤ length forms
site_within forms (Jump name label) = target_within forms label
site_within forms _ = omega arith

pub targets_within : (forms : List Form) (sites : List Site) (starts : List ℕ)
    → sites ≡ map (site_of forms) forms → length starts ≡ length forms + 1
    → (k : ℕ) (site : Site) → slice_get sites k ≡ Some site → site.target < length starts
targets_within forms sites starts all count k site here =
    let it = site_from (site_of forms) forms k site (ap (λ l. slice_get l k) (sym all) ∙ here) in
    let same : (site_of forms it.0).target ≡ site.target = ap (λ (s : Site). s.target) it.2 in
    omega (arith, site_within forms it.0, same, count)

-- no start is past the wide code
pub starts_few : (forms : List Form) (sizes starts : List ℕ)
    → sum sizes ≤ wide forms → AreStarts sizes starts → wide forms ≤ 65535
    → (k : ℕ) → slice_index starts k ≤ 65535
starts_few forms sizes starts sums are few k =
    elim (cases_lt (length sizes) k) [
      | inl past ↦ omega (arith, get_or_past starts k 0 (omega (arith, are.count)))
      | inr within ↦
          omega (arith, are.each k within, sum_by-take-le (λ (m : ℕ). m) sizes k, sums)
    ]

pub apart_is : (sizes starts : List ℕ) (i t : ℕ) → AreStarts sizes starts → i < length sizes
    → t ≤ length sizes → apart starts i t ≡ between sizes i t
apart_is sizes starts i t are within to =
    omega (
      arith,
      are.each i (omega arith),
      are.each (i + 1) (omega arith),
      are.each t to,
      sum-range sizes (i + 1) t,
      sum-range sizes t i,
    )

-- ---- the first sizes

no_sum : (n a b : ℕ) → sum (slice_range (replicate n 0) a b) ≡ 0
no_sum n a b =
    let none_of : List ℕ = [] in
    let less = range_below a b (replicate n 0) none_of (zeros_below n none_of) in
    let nothing : sum (take b none_of) ≡ 0 = ap sum (take_all b none_of (omega arith)) in
    omega (arith, less, nothing, sum-range none_of a b)

first_form : (forms : List Form) (n k : ℕ) (form : Form)
    → first_size form ≡ length (form_bytes forms (replicate n 0) k form)
unfolding first_size
first_form forms n k (Op instr) =
    sym (length-row_bytes (spelling_of (operation_of instr.name) instr.a instr.b instr.c) instr.a
    instr.b instr.c)
first_form forms n k (Label label) = refl
first_form forms n k (Jump name label) =
    let op = operation_of name in
    let t = target forms label in
    let d = between (replicate n 0) k t in
    let zero_is : 0 ≡ d = omega (arith, no_sum n (k + 1) t, no_sum n t k) in
    ap (λ e. row_size (spelling_of op e 0 0)) zero_is
    ∙ sym (length-row_bytes (spelling_of op d 0 0) d 0 0)

pub first_sizes : (forms : List Form) → map first_size forms ≡ sizes_after 1 forms
unfolding sizes_after
first_sizes forms =
    let zeros : List ℕ = replicate (length forms) 0 in
    ext_get_or 0 (map first_size forms) (grown forms zeros)
    (omega (arith, length-map forms first_size, length-grown forms zeros)) (λ k h.
    let within : k < length forms = omega (arith, h, length-map forms first_size) in
    get_or-map first_size forms k (Label 0) 0 within
    ∙ first_form forms (length forms) k (get_or forms k (Label 0))
    ∙ sym (get_or-grown forms zeros k within))

-- ---- the sizes that are settled

pub settled_few : (forms : List Form) (starts slice : List ℕ) → AreStarts (settled forms) starts
    → slice ≡ starts → wide forms ≤ 65535 → (k : ℕ) → slice_index slice k ≤ 65535
settled_few forms starts slice are same few k =
    let here : slice_index slice k ≡ slice_index starts k = ap (λ l. slice_index l k) same in
    let less = starts_few forms (settled forms) starts (sum-settled forms) are few k in
    omega (arith, here, less)
