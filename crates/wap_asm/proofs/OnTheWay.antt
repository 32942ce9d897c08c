-- Sizes on the way to those that forms settle at: none is past them, and where each form's size is
-- enough for its distance, they are those.
use Rattle.std.proofs.Common.{◌≡◌, ℕ, ◌+◌, ◌*◌, ◌-◌, ◌<◌, ◌≤◌, List, Some, length, get_or}
use Rattle.std.proofs.Common.{take, map, sum, slice_get, slice_index, inl, inr, sym, ◌∙◌}
use Rattle.std.proofs.Common.{ap, subst, arith, slice_set}
use Rattle.std.proofs.Math.Nat.{mul-le-mul_left}
use Rattle.std.proofs.lemmas.Bool.{cases_lt}
use Rattle.std.proofs.lemmas.Option.{same_Some, get_or_from_slice_get, slice_get-get_or}
use Rattle.std.proofs.lemmas.Option.{slice_get_within}
use Rattle.std.proofs.lemmas.List.{ext_get_or, get_or-take, get_or_past, length-take, length-map}
use Rattle.std.proofs.lemmas.List.{length-set, get_or-set_same, get_or-set_other}
use Rattle.std.proofs.lemmas.List.Sums.{sum_by-take-le, sum_by_more}
use Rattle.wap_unit.specs.declared.row.OpName.{OpName}
use Rattle.wap_asm.specs.declared.form.Form.{Form}
use Rattle.wap_asm.specs.declared.form.Form.TheVariants.{Op, Jump, Label}
use Rattle.wap_asm.specs.declared.site.Site.{Site}
use Rattle.wap_asm.specs.Spellings.{operation_of, spelling_of}
use Rattle.wap_asm.specs.Placing.{target, between, form_bytes, grown, sizes_after, settled, wide}
use Rattle.wap_asm.specs.Placed.{ArePlaceable}
use Rattle.wap_asm.specs.inside.Passes.{kind_of, site_of, leap_size, apart, AreStarts, AreSoFar}
use Rattle.wap_asm.specs.inside.Passes.{AreKnown, IsLonger, IsEnough}
use Rattle.wap_asm.proofs.SpellingLaws.{length-row_bytes}
use Rattle.wap_asm.proofs.Sums.{Below, sum_below, same_sum, sum-range}
use Rattle.wap_asm.proofs.Settling.{form_below, get_or-grown, length-grown, settled_fixed}
use Rattle.wap_asm.proofs.Settling.{settled_least, least_after, length-sizes_after}
use Rattle.wap_asm.proofs.PlacedLaws.{length-settled, sum-settled}
use Rattle.wap_asm.proofs.PassLaws.{jump_size, apart_is, target_within}
use Rattle.wap_asm.proofs.BytesLaws.{site_at}

-- ---- the size that a form grows to

-- at the distance that sizes give, a jump grows to what it has at these sizes
jump_length : (forms : List Form) (sizes : List ℕ) (i label had d : ℕ) (name : OpName)
    → ArePlaceable forms → slice_get forms i ≡ Some (Jump name label)
    → d ≡ between sizes i (target forms label)
    → leap_size (kind_of (operation_of name)) had d
    ≡ length (form_bytes forms sizes i (Jump name label))
jump_length forms sizes i label had d name placeable here is =
    let op = operation_of name in
    let e = between sizes i (target forms label) in
    let labelled = placeable.jumps i label name here in
    ap (leap_size (kind_of op) had) is
    ∙ jump_size op i labelled.index had e labelled.leads
    ∙ sym (length-row_bytes (spelling_of op e 0 0) e 0 0)

-- what the code finds between two forms is what stands there at the known sizes
known_apart : (forms : List Form) (starts : List ℕ) (known i t : ℕ)
    (are : AreKnown forms starts known) → i < known → t ≤ known
    → apart starts i t ≡ between are.sizes i t
known_apart forms starts known i t are within to =
    omega (
      arith,
      are.each i (omega arith),
      are.each (i + 1) (omega arith),
      are.each t to,
      sum-range are.sizes (i + 1) t,
      sum-range are.sizes t i,
    )

-- a form's size in the end
settled_at : (forms : List Form) (i : ℕ) (form : Form) → slice_get forms i ≡ Some form
    → get_or (settled forms) i 0 ≡ length (form_bytes forms (settled forms) i form)
settled_at forms i form here =
    ap (λ sizes. get_or sizes i 0) (sym (settled_fixed forms))
    ∙ get_or-grown forms (settled forms) i (slice_get_within forms i form here)
    ∙ ap (λ f. length (form_bytes forms (settled forms) i f))
    (get_or_from_slice_get forms i form (Label 0) here)

-- no form grows past the size that it settles at, form by form
form_leap_below : (forms : List Form) (starts sizes : List ℕ) (known i : ℕ) (form : Form)
    → ArePlaceable forms → AreKnown forms starts known → AreSoFar forms sizes → i < known
    → slice_get forms i ≡ Some form → (site_of forms form).target ≤ known
    → leap_size (site_of forms form).kind (get_or sizes i 0)
    (apart starts i (site_of forms form).target)
    ≤ get_or (settled forms) i 0
form_leap_below forms starts sizes known i (Jump name label) placeable are so_far within here to =
    let t = target forms label in
    let grows =
    jump_length forms are.sizes i label (get_or sizes i 0) (apart starts i t) name placeable here
    (known_apart forms starts known i t are within to) in
    omega (
      arith,
      grows,
      form_below forms are.sizes (settled forms) i (Jump name label) are.below,
      settled_at forms i (Jump name label) here,
    )
form_leap_below forms starts sizes known i _ placeable are so_far within here to = so_far.below i

-- a site that is found is its form's
site_is : (forms : List Form) (sites : List Site) (i : ℕ) (site : Site)
    → sites ≡ map (site_of forms) forms → i < length forms → slice_get sites i ≡ Some site
    → site ≡ site_of forms (get_or forms i (Label 0))
site_is forms sites i site all within found =
    let form = get_or forms i (Label 0) in
    same_Some site (site_of forms form)
    (sym found
    ∙ site_at forms sites i form all (slice_get-get_or forms i (Label 0) within))

-- no form grows past the size that it settles at
pub leap_below : (forms : List Form) (sites : List Site) (starts sizes : List ℕ) (known i : ℕ)
    (site : Site) → ArePlaceable forms → sites ≡ map (site_of forms) forms
    → AreKnown forms starts known → AreSoFar forms sizes → i < known
    → slice_get sites i ≡ Some site → site.target ≤ known
    → leap_size site.kind (get_or sizes i 0) (apart starts i site.target)
    ≤ get_or (settled forms) i 0
leap_below forms sites starts sizes known i site placeable all are so_far within found to =
    let before : i < length forms = omega (arith, are.within, within) in
    let form = get_or forms i (Label 0) in
    let is = site_is forms sites i site all before found in
    let there : (site_of forms form).target ≤ known = subst (λ s. s.target ≤ known) is to in
    subst (λ (s : Site). leap_size s.kind (get_or sizes i 0) (apart starts i s.target)
    ≤ get_or (settled forms) i 0) (sym is)
    (form_leap_below forms starts sizes known i form placeable are so_far within
    (slice_get-get_or forms i (Label 0) before) there)

-- ---- a form that has grown

-- no other form has lost any bytes
pub below_longer : (sizes longer : List ℕ) (i : ℕ) → IsLonger sizes longer i → Below sizes longer
below_longer sizes longer i is k =
    elim (cases_lt k i) [
      | inl before ↦ omega (arith, is.before k before)
      | inr not_before ↦
          elim (cases_lt i k) [
            | inl after ↦ omega (arith, is.after k after)
            | inr not_after ↦
                let same : k ≡ i = omega (arith, not_before, not_after) in
                omega (
                  arith,
                  ap (λ n. get_or sizes n 0) same,
                  ap (λ n. get_or longer n 0) same,
                  is.more,
                )
          ]
    ]

-- all forms together have more bytes
pub sum_longer : (sizes longer : List ℕ) (i : ℕ) → IsLonger sizes longer i
    → sum sizes < sum longer
sum_longer sizes longer i is =
    let below = below_longer sizes longer i is in
    elim (cases_lt (sum sizes) (sum longer)) [
      | inl less ↦ less
      | inr not_less ↦
          let same =
          same_sum sizes longer (sym is.count) below
          (omega (arith, not_less, sum_below sizes longer below)) in
          absurd (omega (arith, ap (λ l. get_or l i 0) same, is.more))
    ]

-- what stands before it is as it was
pub take_longer : (sizes longer : List ℕ) (i k : ℕ) → IsLonger sizes longer i → k ≤ i
    → take k longer ≡ take k sizes
take_longer sizes longer i k is h =
    ext_get_or 0 (take k longer) (take k sizes)
    (omega (arith, length-take k longer, length-take k sizes, is.count)) (λ j within.
    let before : j < k = omega (arith, within, length-take k longer) in
    get_or-take k longer j 0 before
    ∙ is.before j (omega (arith, before, h))
    ∙ sym (get_or-take k sizes j 0 before))

-- a form that has grown to no more than it settles at is on the way
pub so_far_longer : (forms : List Form) (sizes longer : List ℕ) (i : ℕ) → AreSoFar forms sizes
    → IsLonger sizes longer i → get_or longer i 0 ≤ get_or (settled forms) i 0
    → AreSoFar forms longer
so_far_longer forms sizes longer i so_far is small = record {
  count = is.count ∙ so_far.count;
  first = λ k. omega (arith, so_far.first k, below_longer sizes longer i is k);
  below = λ k.
      elim (cases_lt k i) [
        | inl before ↦ omega (arith, is.before k before, so_far.below k)
        | inr not_before ↦
            elim (cases_lt i k) [
              | inl after ↦ omega (arith, is.after k after, so_far.below k)
              | inr not_after ↦
                  let same : k ≡ i = omega (arith, not_before, not_after) in
                  omega (
                    arith,
                    ap (λ n. get_or longer n 0) same,
                    ap (λ n. get_or (settled forms) n 0) same,
                    small,
                  )
            ]
      ];
}

-- ---- where each size is enough

-- a form's first size
first_at : (forms : List Form) (k : ℕ) (form : Form) → slice_get forms k ≡ Some form
    → get_or (sizes_after 1 forms) k 0 ≡ length (form_bytes forms (sizes_after 0 forms) k form)
unfolding sizes_after
first_at forms k form here =
    get_or-grown forms (sizes_after 0 forms) k (slice_get_within forms k form here)
    ∙ ap (λ f. length (form_bytes forms (sizes_after 0 forms) k f))
    (get_or_from_slice_get forms k form (Label 0) here)

-- a size that is enough holds the form
form_enough : (forms : List Form) (starts sizes : List ℕ) (k : ℕ) (form : Form)
    → ArePlaceable forms → AreSoFar forms sizes → AreStarts sizes starts
    → slice_get forms k ≡ Some form → IsEnough starts sizes k (site_of forms form)
    → length (form_bytes forms sizes k form) ≤ get_or sizes k 0
form_enough forms starts sizes k (Op instr) placeable so_far are here enough =
    omega (arith, first_at forms k (Op instr) here, so_far.first k)
form_enough forms starts sizes k (Label label) placeable so_far are here enough = omega arith
form_enough forms starts sizes k (Jump name label) placeable so_far are here enough =
    let t = target forms label in
    let within = slice_get_within forms k (Jump name label) here in
    let is =
    jump_length forms sizes k label (get_or sizes k 0) (apart starts k t) name placeable here
    (apart_is sizes starts k t are (omega (arith, within, so_far.count))
    (omega (arith, target_within forms label, so_far.count))) in
    omega (arith, is, enough)

-- another pass makes no form longer
grown_enough : (forms : List Form) (sites : List Site) (starts sizes : List ℕ)
    → ArePlaceable forms → sites ≡ map (site_of forms) forms → AreSoFar forms sizes
    → AreStarts sizes starts
    → ((k : ℕ) → k < length forms → (site : Site) → slice_get sites k ≡ Some site
    → IsEnough starts sizes k site)
    → Below (grown forms sizes) sizes
grown_enough forms sites starts sizes placeable all so_far are enough k =
    elim (cases_lt k (length forms)) [
      | inl within ↦
          let form = get_or forms k (Label 0) in
          let here = slice_get-get_or forms k (Label 0) within in
          omega (
            arith,
            get_or-grown forms sizes k within,
            form_enough forms starts sizes k form placeable so_far are here
                (enough k within (site_of forms form) (site_at forms sites k form all here)),
          )
      | inr past ↦
          omega (
            arith,
            get_or_past (grown forms sizes) k 0 (omega (
              arith,
              past,
              length-grown forms sizes,
            )),
          )
    ]

-- they are those that the forms settle at
pub settled_enough : (forms : List Form) (sites : List Site) (starts sizes : List ℕ)
    → ArePlaceable forms → sites ≡ map (site_of forms) forms → AreSoFar forms sizes
    → AreStarts sizes starts
    → ((k : ℕ) → k < length forms → (site : Site) → slice_get sites k ≡ Some site
    → IsEnough starts sizes k site)
    → sizes ≡ settled forms
settled_enough forms sites starts sizes placeable all so_far are enough =
    let least =
    settled_least forms sizes (grown_enough forms sites starts sizes placeable all so_far are
    enough) in
    ext_get_or 0 sizes (settled forms) (so_far.count ∙ sym (length-settled forms))
    (λ k within. omega (arith, so_far.below k, least k))

-- so are those that have as many bytes as the wide code
pub settled_wide : (forms : List Form) (sizes : List ℕ) → AreSoFar forms sizes
    → wide forms ≤ sum sizes → sizes ≡ settled forms
settled_wide forms sizes so_far all =
    same_sum sizes (settled forms) (so_far.count ∙ sym (length-settled forms)) so_far.below
    (omega (arith, all, sum_below sizes (settled forms) so_far.below, sum-settled forms))

-- on the way there are no more bytes than in the wide code
pub so_far_wide : (forms : List Form) (sizes : List ℕ) → AreSoFar forms sizes
    → sum sizes ≤ wide forms
so_far_wide forms sizes so_far =
    omega (arith, sum_below sizes (settled forms) so_far.below, sum-settled forms)

-- ---- the first sizes, and known places

-- the first sizes are on the way
pub so_far_first : (forms : List Form) (sizes : List ℕ) → sizes ≡ sizes_after 1 forms
    → AreSoFar forms sizes
so_far_first forms sizes is = record {
  count = ap length is ∙ length-sizes_after 1 forms;
  first = λ k. omega (arith, ap (λ l. get_or l k 0) is);
  below = λ k.
      let settled_less : Below (grown forms (settled forms)) (settled forms) =
      λ j. omega (arith, ap (λ l. get_or l j 0) (settled_fixed forms)) in
      omega (
        arith,
        ap (λ l. get_or l k 0) is,
        least_after 1 forms (settled forms) settled_less k,
      );
}

-- ---- the work that is left

-- one that grows takes more from the work than going back adds
pub less_left : (most sum_before sum_after n i j : ℕ) → sum_before < sum_after → sum_after ≤ most
    → (n + 1) * (most - sum_after) + (n - j) < (n + 1) * (most - sum_before) + (n - i)
less_left most sum_before sum_after n i j more all =
    let fewer : most - sum_after + 1 ≤ most - sum_before = omega (arith, more, all) in
    omega (arith, mul-le-mul_left (n + 1) fewer)

-- ---- a form is lengthened

-- no known start is past the wide code
known_few : (forms : List Form) (starts : List ℕ) (known k : ℕ)
    → AreKnown forms starts known → wide forms ≤ 65535 → k ≤ known
    → slice_index starts k ≤ 65535
known_few forms starts known k are few h =
    omega (
      arith,
      are.each k h,
      sum_by-take-le (λ (m : ℕ). m) are.sizes k,
      sum_below are.sizes (settled forms) are.below,
      sum-settled forms,
      few,
    )

-- two known starts can be added
pub known_both_few : (forms : List Form) (starts : List ℕ) (known t i : ℕ)
    → AreKnown forms starts known → wide forms ≤ 65535 → t ≤ known → i ≤ known
    → slice_index starts t + slice_index starts i < 4294967296
known_both_few forms starts known t i are few to within =
    omega (
      arith,
      known_few forms starts known t are few to,
      known_few forms starts known i are few within,
    )

-- a size set to a greater one
pub set_longer : (sizes : List ℕ) (i size : ℕ) → i < length sizes → get_or sizes i 0 < size
    → IsLonger sizes (slice_set sizes i size) i
set_longer sizes i size within more = record {
  count = length-set sizes i size;
  before = λ k h. get_or-set_other sizes i k size 0 (λ e. omega (arith, h, e));
  after = λ k h. get_or-set_other sizes i k size 0 (λ e. omega (arith, h, e));
  more = omega (arith, get_or-set_same sizes i size 0 within, more);
}

-- by the site that the code reads
pub enough_read : (sites : List Site) (starts sizes : List ℕ) (i size distance : ℕ)
    (site other : Site) → slice_get sites i ≡ Some site
    → distance ≡ apart starts i (get_or sites i other).target
    → size ≡ leap_size (get_or sites i other).kind (get_or sizes i 0) distance
    → size ≤ get_or sizes i 0 → IsEnough starts sizes i site
enough_read sites starts sizes i size distance site other found is grows small =
    let read : get_or sites i other ≡ site = get_or_from_slice_get sites i site other found in
    subst (λ s. IsEnough starts sizes i s) read
    (omega (
      arith,
      grows,
      ap (leap_size (get_or sites i other).kind (get_or sizes i 0)) is,
      small,
    ))

-- a form set to the size that it grows to is on the way
pub set_so_far : (forms : List Form) (sites : List Site) (starts sizes : List ℕ)
    (known i size distance : ℕ) (other : Site)
    → ArePlaceable forms → sites ≡ map (site_of forms) forms
    → AreKnown forms starts known → AreSoFar forms sizes → i < known
    → (get_or sites i other).target ≤ known
    → distance ≡ apart starts i (get_or sites i other).target
    → size ≡ leap_size (get_or sites i other).kind (get_or sizes i 0) distance
    → get_or sizes i 0 < size → AreSoFar forms (slice_set sizes i size)
set_so_far forms sites starts sizes known i size distance other placeable all are so_far within to
    is grows more =
    let before : i < length forms = omega (arith, are.within, within) in
    let site = get_or sites i other in
    let found : slice_get sites i ≡ Some site =
    slice_get-get_or sites i other
    (omega (arith, before, ap length all, length-map forms (site_of forms))) in
    let small =
    leap_below forms sites starts sizes known i site placeable all are so_far within found to in
    let long : i < length sizes = omega (arith, before, so_far.count) in
    so_far_longer forms sizes (slice_set sizes i size) i so_far (set_longer sizes i size long more)
    (omega (
      arith,
      get_or-set_same sizes i size 0 long,
      grows,
      ap (leap_size site.kind (get_or sizes i 0)) is,
      small,
    ))

-- ---- forms lengthened in order

-- where the next form begins is not past the wide code
pub next_few : (forms : List Form) (sizes : List ℕ) (i at : ℕ) → AreSoFar forms sizes
    → wide forms ≤ 65535 → i < length forms → at ≡ sum (take i sizes)
    → at + get_or sizes i 0 ≤ 65535
next_few forms sizes i at so_far few within is =
    omega (
      arith,
      is,
      sum_by_more (λ (n : ℕ). n) sizes i 0 (omega (arith, within, so_far.count)),
      sum_by-take-le (λ (n : ℕ). n) sizes (i + 1),
      so_far_wide forms sizes so_far,
      few,
    )

-- where the next form begins is known
pub known_next : (forms : List Form) (sizes starts : List ℕ) (i : ℕ) → AreSoFar forms sizes
    → length starts ≡ length forms + 1 → i < length forms
    → ((k : ℕ) → k ≤ i → get_or starts k 0 ≡ sum (take k sizes))
    → AreKnown forms (slice_set starts (i + 1) (get_or starts i 0 + get_or sizes i 0)) (i + 1)
known_next forms sizes starts i so_far long within each =
    let next = get_or starts i 0 + get_or sizes i 0 in
    record {
      sizes = sizes;
      count = so_far.count;
      below = so_far.below;
      long = length-set starts (i + 1) next ∙ long;
      within = omega (arith, within);
      each = λ k h.
          elim (cases_lt k (i + 1)) [
            | inl before ↦
                get_or-set_other starts (i + 1) k next 0 (λ e. omega (arith, before, e))
                ∙ each k (omega (arith, before))
            | inr not_before ↦
                let same : k ≡ i + 1 = omega (arith, h, not_before) in
                ap (λ n. get_or (slice_set starts (i + 1) next) n 0) same
                ∙ get_or-set_same starts (i + 1) next 0 (omega (arith, within, long))
                ∙ ap (λ at. at + get_or sizes i 0) (each i (omega arith))
                ∙ sym (sum_by_more (λ (n : ℕ). n) sizes i 0 (omega (
                  arith,
                  within,
                  so_far.count,
                )))
                ∙ ap (λ n. sum (take n sizes)) (sym same)
          ];
    }

-- up to the form that has grown all is known as before
pub known_before : (sizes longer starts : List ℕ) (i jump next k : ℕ) → IsLonger sizes longer jump
    → jump ≤ i → ((j : ℕ) → j ≤ i → get_or starts j 0 ≡ sum (take j sizes)) → k ≤ jump
    → get_or (slice_set starts (i + 1) next) k 0 ≡ sum (take k longer)
known_before sizes longer starts i jump next k is within each h =
    get_or-set_other starts (i + 1) k next 0 (λ e. omega (arith, h, within, e))
    ∙ each k (omega (arith, h, within))
    ∙ ap sum (sym (take_longer sizes longer jump k is h))
