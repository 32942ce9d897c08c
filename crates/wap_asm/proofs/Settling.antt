-- Passes over the sizes of forms: no size falls, and none grows in the end.
use Rattle.std.proofs.Common.{◌≡◌, ℕ, zero, suc, ◌+◌, ◌<◌, ◌≤◌, List, length, get_or, map, sum}
use Rattle.std.proofs.Common.{replicate, ◌⊎◌, inl, inr, sym, ◌∙◌, ap, arith}
use Rattle.std.specs.List.{enumerate_from}
use Rattle.std.proofs.lemmas.Bool.{cases_lt}
use Rattle.std.proofs.lemmas.List.{get_or-map, get_or_past, length-map, length-replicate}
use Rattle.std.proofs.lemmas.List.{get_or-replicate}
use Rattle.std.proofs.lemmas.List.FromFn.{length-enumerate_from, get_or-enumerate_from}
use Rattle.std.proofs.lemmas.List.Sums.{sum-map}
use Rattle.wap_asm.specs.declared.form.Form.{Form}
use Rattle.wap_asm.specs.declared.form.Form.TheVariants.{Op, Jump, Label}
use Rattle.wap_asm.specs.Spellings.{operation_of, spelling_of}
use Rattle.wap_asm.specs.Placing.{target, between, form_bytes, bytes_at, grown, sizes_after}
use Rattle.wap_asm.specs.Placing.{wide_size, wide, settled}
use Rattle.wap_asm.proofs.SpellingLaws.{below_longest, grows, length-row_bytes}
use Rattle.wap_asm.proofs.Sums.{Below, sum_below, same_sum, range_below}

abbrev pub none : ℕ × Form
none = (0, Label 0)

pub length-grown : (forms : List Form) (sizes : List ℕ) → length (grown forms sizes) ≡ length forms
unfolding grown
length-grown forms sizes =
    length-map (enumerate_from 0 forms) (λ form. length (bytes_at forms sizes form))
    ∙ length-enumerate_from 0 forms

pub length-sizes_after : (n : ℕ) (forms : List Form) → length (sizes_after n forms) ≡ length forms
unfolding sizes_after
length-sizes_after zero forms = length-replicate {A = ℕ} (length forms) 0
length-sizes_after (suc n) forms = length-grown forms (sizes_after n forms)

-- each size, by its form
pub get_or-grown : (forms : List Form) (sizes : List ℕ) (k : ℕ) → k < length forms
    → get_or (grown forms sizes) k 0 ≡ length (form_bytes forms sizes k (get_or forms k (Label 0)))
unfolding grown
get_or-grown forms sizes k h =
    get_or-map (λ form. length (bytes_at forms sizes form)) (enumerate_from 0 forms) k none 0
    (omega (arith, length-enumerate_from 0 forms))
    ∙ ap (λ form. length (bytes_at forms sizes form)) (get_or-enumerate_from 0 forms k none h)
    ∙ ap (λ i. length (form_bytes forms sizes i (get_or forms k (Label 0)))) (omega arith)

between_below : (s t : List ℕ) (i j : ℕ) → Below s t → between s i j ≤ between t i j
between_below s t i j h =
    omega (arith, range_below (i + 1) j s t h, range_below j i s t h)

pub form_below : (forms : List Form) (s t : List ℕ) (i : ℕ) (form : Form) → Below s t
    → length (form_bytes forms s i form) ≤ length (form_bytes forms t i form)
form_below forms s t i (Jump name label) h =
    let op = operation_of name in
    let d = between s i (target forms label) in
    let e = between t i (target forms label) in
    omega (
      arith,
      grows op d e (between_below s t i (target forms label) h),
      length-row_bytes (spelling_of op d 0 0) d 0 0,
      length-row_bytes (spelling_of op e 0 0) e 0 0,
    )
form_below forms s t i _ h = omega arith

-- sizes that are no smaller come to sizes that are no smaller
pub grown_below : (forms : List Form) (s t : List ℕ) → Below s t
    → Below (grown forms s) (grown forms t)
grown_below forms s t h k =
    elim (cases_lt k (length forms)) [
      | inl within ↦
          omega (
            arith,
            get_or-grown forms s k within,
            get_or-grown forms t k within,
            form_below forms s t k (get_or forms k (Label 0)) h,
          )
      | inr past ↦
          omega (arith, get_or_past (grown forms s) k 0 (omega (arith, length-grown forms s)))
    ]

pub zeros_below : (n : ℕ) (ys : List ℕ) → Below (replicate n 0) ys
zeros_below n ys k =
    elim (cases_lt k n) [
      | inl within ↦ omega (arith, get_or-replicate {A = ℕ} n k 0 0 within)
      | inr past ↦
          omega (
            arith,
            get_or_past {X = ℕ} (replicate n 0) k 0
                (omega (arith, length-replicate {A = ℕ} n 0)),
          )
    ]

-- no size falls
pub rising : (n : ℕ) (forms : List Form) → Below (sizes_after n forms) (sizes_after (suc n) forms)
unfolding sizes_after
rising zero forms = zeros_below (length forms) (grown forms (replicate (length forms) 0))
rising (suc n) forms =
    grown_below forms (sizes_after n forms) (sizes_after (suc n) forms) (rising n forms)

form_wide : (forms : List Form) (s : List ℕ) (i : ℕ) (form : Form)
    → length (form_bytes forms s i form) ≤ wide_size form
unfolding wide_size
form_wide forms s i (Op instr) =
    let op = operation_of instr.name in
    omega (
      arith,
      below_longest op instr.a instr.b instr.c,
      length-row_bytes (spelling_of op instr.a instr.b instr.c) instr.a instr.b instr.c,
    )
form_wide forms s i (Jump name label) =
    let op = operation_of name in
    let d = between s i (target forms label) in
    omega (
      arith,
      below_longest op d 0 0,
      length-row_bytes (spelling_of op d 0 0) d 0 0,
    )
form_wide forms s i (Label label) = omega arith

grown_wide : (forms : List Form) (s : List ℕ) → Below (grown forms s) (map wide_size forms)
grown_wide forms s k =
    elim (cases_lt k (length forms)) [
      | inl within ↦
          omega (
            arith,
            get_or-grown forms s k within,
            form_wide forms s k (get_or forms k (Label 0)),
            get_or-map wide_size forms k (Label 0) 0 within,
          )
      | inr past ↦
          omega (arith, get_or_past (grown forms s) k 0 (omega (arith, length-grown forms s)))
    ]

-- the code is never longer than the wide code
pub sum-grown : (forms : List Form) (s : List ℕ) → sum (grown forms s) ≤ wide forms
unfolding wide
sum-grown forms s =
    omega (
      arith,
      sum_below (grown forms s) (map wide_size forms) (grown_wide forms s),
      sum-map wide_size forms,
    )

pub sum-sizes_after : (n : ℕ) (forms : List Form) → sum (sizes_after n forms) ≤ wide forms
unfolding sizes_after
sum-sizes_after zero forms =
    let up = sum_below (sizes_after zero forms) (sizes_after (suc zero) forms) (rising zero forms)
    in
    omega (arith, up, sum-grown forms (sizes_after zero forms))
sum-sizes_after (suc n) forms = sum-grown forms (sizes_after n forms)

-- where the sum stays, all stay
stays_by : (n : ℕ) (forms : List Form)
    → sum (sizes_after n forms) ≡ sum (sizes_after (suc n) forms)
    → sizes_after n forms ≡ sizes_after (suc n) forms
stays_by n forms e =
    same_sum (sizes_after n forms) (sizes_after (suc n) forms)
    (length-sizes_after n forms ∙ sym (length-sizes_after (suc n) forms)) (rising n forms) e

again : (n : ℕ) (forms : List Form) → sizes_after n forms ≡ sizes_after (suc n) forms
    → sizes_after (suc n) forms ≡ sizes_after (suc (suc n)) forms
unfolding sizes_after
again n forms e = ap (grown forms) e

progress : (n : ℕ) (forms : List Form)
    → (n ≤ sum (sizes_after n forms)) ⊎ (sizes_after n forms ≡ sizes_after (suc n) forms)
progress zero forms = inl (omega arith)
progress (suc n) forms =
    elim (progress n forms) [
      | inr same ↦ inr (again n forms same)
      | inl enough ↦
          elim (cases_lt (sum (sizes_after n forms)) (sum (sizes_after (suc n) forms))) [
            | inl more ↦ inl (omega arith)
            | inr no_more ↦
                let up = sum_below (sizes_after n forms) (sizes_after (suc n) forms)
                (rising n forms) in
                inr (again n forms (stays_by n forms (omega (arith, up))))
          ]
    ]

fixed_at_wide : (forms : List Form)
    → sizes_after (wide forms) forms ≡ sizes_after (suc (wide forms)) forms
fixed_at_wide forms =
    elim (progress (wide forms) forms) [
      | inr same ↦ same
      | inl enough ↦
          let up =
          sum_below (sizes_after (wide forms) forms) (sizes_after (suc (wide forms)) forms)
          (rising (wide forms) forms) in
          let most = sum-sizes_after (suc (wide forms)) forms in
          stays_by (wide forms) forms (omega (arith, up, most, enough))
    ]

-- at these sizes each form has just its size
pub settled_fixed : (forms : List Form) → grown forms (settled forms) ≡ settled forms
unfolding settled sizes_after
settled_fixed forms = sym (fixed_at_wide forms)

-- no pass makes a form shorter
pub never_less : (forms : List Form) (passes : ℕ)
    → Below (sizes_after passes forms) (sizes_after (passes + 1) forms)
never_less forms passes k =
    let more : passes + 1 ≡ suc passes = omega arith in
    let same = ap (λ n. get_or (sizes_after n forms) k 0) more in
    omega (arith, same, rising passes forms k)

-- sizes that hold all operands are no smaller than those after any pass
pub least_after : (passes : ℕ) (forms : List Form) (sizes : List ℕ)
    → Below (grown forms sizes) sizes
    → Below (sizes_after passes forms) sizes
unfolding sizes_after
least_after zero forms sizes enough k = zeros_below (length forms) sizes k
least_after (suc passes) forms sizes enough k =
    let less = grown_below forms (sizes_after passes forms) sizes
    (least_after passes forms sizes enough) k in
    omega (arith, less, enough k)

-- sizes that hold all operands are no smaller than those that forms settle at
pub settled_least : (forms : List Form) (sizes : List ℕ) → Below (grown forms sizes) sizes
    → Below (settled forms) sizes
unfolding settled
settled_least forms sizes enough = least_after (wide forms) forms sizes enough
