-- The code splits into the forms, and each jump leads to its label.
use Rattle.std.proofs.Common.{◌≡◌, ℕ, ◌+◌, ◌-◌, ◌<◌, ◌≤◌, true, false, nat_lt, ◌&&◌, List, ◌∷◌}
use Rattle.std.proofs.Common.{◌++◌, Option, Some, None, IsSomeAnd, IsTrue, length, get_or, take}
use Rattle.std.proofs.Common.{drop, map, sum, slice_get, inl, inr, refl, sym, ◌∙◌, ap, subst, arith}
use Rattle.std.specs.List.{enumerate_from, flat_map}
use Rattle.std.proofs.lemmas.Bool.{cases_Bool, lt-ltb, eqb-true, eq-eqb}
use Rattle.std.proofs.lemmas.Option.{slice_get_within, get_or_from_slice_get, slice_get-get_or}
use Rattle.std.proofs.lemmas.List.{take-map, take-append-drop, take_all, drop_more}
use Rattle.std.proofs.lemmas.List.Concat.{flat_map-append, flat_map-cons, length-flat_map}
use Rattle.std.proofs.lemmas.List.Sums.{sum-map, sum_by_more, sum_by-take-le, position_or_len_is}
use Rattle.std.proofs.lemmas.List.FromFn.{length-enumerate_from, get_or-enumerate_from}
use Rattle.wap_unit.specs.declared.instr.Instr.{Instr}
use Rattle.wap_unit.specs.declared.row.OpName.{OpName}
use Rattle.wap_unit.specs.contracts.row.OpName.{the_type}
use Rattle.wap_unit.specs.declared.row.OpName.TheVariants.{JumpFw, JumpBw, TjumpFw, TjumpBw}
use Rattle.wap_unit.specs.declared.row.OpName.TheVariants.{JumpFwW, JumpBwW, TjumpFwW, TjumpBwW}
use Rattle.wap_unit.specs.declared.row.Slot.TheVariants.{Absent, Word}
use Rattle.wap_unit.specs.declared.row.Operands.TheVariants.{Plain}
use Rattle.wap_unit.specs.declared.row.Takes.TheVariants.{Values}
use Rattle.wap_unit.specs.declared.row.After.TheVariants.{Forward, Backward, ForwardOrOn}
use Rattle.wap_unit.specs.declared.row.After.TheVariants.{BackwardOrOn}
use Rattle.wap_unit.specs.declared.row.Row.{Row}
use Rattle.wap_unit.specs.Rows.{row}
use Rattle.wap_unit.specs.Instructions.{size}
use Rattle.wap_asm.specs.Spelling.{holds, is_spelling, shortest, spelling}
use Rattle.wap_asm.proofs.RowLaws.{length-spelling}
use Rattle.wap_asm.specs.declared.form.Form.{Form}
use Rattle.wap_asm.specs.declared.form.Form.TheVariants.{Op, Jump, Label}
use Rattle.wap_asm.specs.Spellings.{operation_of, longest, row_bytes}
use Rattle.wap_asm.specs.Placing.{is_label, target, between, form_bytes, bytes_at, grown}
use Rattle.wap_asm.specs.Placing.{instr_bytes, jump_bytes, wide, settled, placed}
use Rattle.wap_asm.specs.Placed.{Leads, IsLabelled, ArePlaceable, start, Stands, IsPlaced}
use Rattle.wap_asm.proofs.SpellingLaws.{longest_among, shortest_some, spelled_shortest}
use Rattle.wap_asm.proofs.Sums.{sum-range, split_take}
use Rattle.wap_asm.proofs.Settling.{none, get_or-grown, settled_fixed, length-sizes_after}
use Rattle.wap_asm.proofs.Settling.{sum-sizes_after}
use Rattle.wap_asm.proofs.Standing.{instr_of, stands}
use denote.Enum.Bare.{true_same}

-- ---- starts

pub length-settled : (forms : List Form) → length (settled forms) ≡ length forms
unfolding settled
length-settled forms = length-sizes_after (wide forms) forms

pub sum-settled : (forms : List Form) → sum (settled forms) ≤ wide forms
unfolding settled
sum-settled forms = sum-sizes_after (wide forms) forms

get_or-settled : (forms : List Form) (i : ℕ) → i < length forms
    → get_or (settled forms) i 0
    ≡ length (form_bytes forms (settled forms) i (get_or forms i (Label 0)))
get_or-settled forms i h =
    ap (λ sizes. get_or sizes i 0) (sym (settled_fixed forms))
    ∙ get_or-grown forms (settled forms) i h

next_start : (forms : List Form) (i : ℕ) → i < length forms
    → start forms (i + 1)
    ≡ start forms i + length (form_bytes forms (settled forms) i (get_or forms i (Label 0)))
unfolding start
next_start forms i h =
    sum_by_more (λ (n : ℕ). n) (settled forms) i 0 (omega (arith, length-settled forms))
    ∙ ap (λ n. sum (take i (settled forms)) + n) (get_or-settled forms i h)

rising_start : (forms : List Form) (i j : ℕ) → i ≤ j → start forms i ≤ start forms j
unfolding start
rising_start forms i j h =
    let both = split_take i (j - i) (settled forms) in
    let end : sum (take (i + (j - i)) (settled forms)) ≡ sum (take j (settled forms)) =
    ap (λ n. sum (take n (settled forms))) (omega arith) in
    omega (arith, both, end)

start_below : (forms : List Form) (i : ℕ) → start forms i ≤ wide forms
unfolding start
start_below forms i =
    omega (arith, sum_by-take-le (λ (n : ℕ). n) (settled forms) i, sum-settled forms)

-- ---- the code before a form

abbrev numbered : List Form → List (ℕ × Form)
numbered forms = enumerate_from 0 forms

abbrev code_of : List Form → List (ℕ × Form) → List ℕ
code_of forms = flat_map (bytes_at forms (settled forms))

length-before : (forms : List Form) (i : ℕ)
    → length (code_of forms (take i (numbered forms))) ≡ start forms i
unfolding start grown
length-before forms i =
    let f = bytes_at forms (settled forms) in
    let g : ℕ × Form → ℕ = λ form. length (f form) in
    let fixed : map g (numbered forms) ≡ settled forms = settled_fixed forms in
    length-flat_map f (take i (numbered forms))
    ∙ sym (sum-map g (take i (numbered forms)))
    ∙ ap sum (sym (take-map g i (numbered forms)))
    ∙ ap (λ sizes. sum (take i sizes)) fixed

split_code : (forms : List Form) (i : ℕ) → i < length forms
    → placed forms
    ≡ code_of forms (take i (numbered forms))
    ++ (form_bytes forms (settled forms) i (get_or forms i (Label 0))
    ++ code_of forms (drop (i + 1) (numbered forms)))
unfolding placed
split_code forms i h =
    let f = bytes_at forms (settled forms) in
    let all = numbered forms in
    let item : get_or all i none ≡ (i, get_or forms i (Label 0)) =
    get_or-enumerate_from 0 forms i none h
    ∙ ap (λ n. (n, get_or forms i (Label 0))) (omega arith) in
    let here : drop i all ≡ get_or all i none ∷ drop (i + 1) all =
    drop_more all i none (omega (arith, length-enumerate_from 0 forms)) in
    ap (flat_map f) (sym (take-append-drop i all))
    ∙ flat_map-append f (take i all) (drop i all)
    ∙ ap (λ rest. flat_map f (take i all) ++ rest)
    (ap (flat_map f) here ∙ flat_map-cons f (get_or all i none) (drop (i + 1) all)
    ∙ ap (λ x. f x ++ flat_map f (drop (i + 1) all)) item)

-- ---- an instruction at its start

stands_at : (forms : List Form) (i : ℕ) (operation : OpName) (a b c : ℕ) (least : Row)
    → i < length forms → shortest operation a b c ≡ Some least
    → form_bytes forms (settled forms) i (get_or forms i (Label 0)) ≡ instr_bytes operation a b c
    → Stands (placed forms) (start forms i) operation
    (instr_of least.name a b c (start forms (i + 1)))
stands_at forms i operation a b c least h short bytes =
    let before = code_of forms (take i (numbered forms)) in
    let rest = code_of forms (drop (i + 1) (numbered forms)) in
    let spelled : instr_bytes operation a b c ≡ spelling least a b c =
    ap (λ o. row_bytes o a b c) (spelled_shortest operation a b c least short) in
    let code : placed forms ≡ before ++ (spelling least a b c ++ rest) =
    split_code forms i h ∙ ap (λ middle. before ++ (middle ++ rest)) (bytes ∙ spelled) in
    let at : length before ≡ start forms i = length-before forms i in
    let next : length before + size least ≡ start forms (i + 1) =
    omega (
      arith,
      at,
      next_start forms i h,
      ap length (bytes ∙ spelled),
      length-spelling least a b
          c,
    ) in
    let there = stands before rest operation a b c least short in
    subst (λ n. Stands (placed forms) (start forms i) operation (instr_of least.name a b c n)) next
    (subst (λ n. Stands (placed forms) n operation
    (instr_of least.name a b c (length before + size least))) at
    (subst (λ bytes. Stands bytes (length before) operation
    (instr_of least.name a b c (length before + size least)))
    (sym code) there))

pub op_least : (o : Option Row) (operation : OpName) (a b c : ℕ) → longest operation ≡ o
    → IsSomeAnd o (λ last. IsTrue (holds last a b c))
    → (least : Row) × (shortest operation a b c ≡ Some least)
op_least None operation a b c e h = absurd h
op_least (Some last) operation a b c e h =
    let it = longest_among operation last e in
    let fits : holds last a b c ≡ true = h in
    let is : is_spelling operation a b c last ≡ true =
    rw (true_same the_type last.operation operation it.1) fits in
    shortest_some operation a b c last it.0 is

jump_fits : (d : ℕ) → d < 65536 → (nat_lt d 65536 && (nat_lt 0 1 && nat_lt 0 1)) ≡ true
jump_fits d h = rw (lt-ltb d 65536 h) refl

-- a jump has room for a distance within the code
pub jump_least : (operation : OpName) (i t d : ℕ) → Leads operation i t → d < 65536
    → (least : Row) × (shortest operation d 0 0 ≡ Some least)
jump_least JumpFw i t d leads h =
    shortest_some JumpFw d 0 0 (row 0x02 1 JumpFw JumpFwW Word Absent Absent Plain (Values 0) 0
    Forward)
    (inr (inr (inl refl))) (jump_fits d h)
jump_least JumpBw i t d leads h =
    shortest_some JumpBw d 0 0 (row 0x04 1 JumpBw JumpBwW Word Absent Absent Plain (Values 0) 0
    Backward)
    (inr (inr (inr (inr (inr (inl refl)))))) (jump_fits d h)
jump_least TjumpFw i t d leads h =
    shortest_some TjumpFw d 0 0
    (row 0x06 1 TjumpFw TjumpFwW Word Absent Absent Plain (Values 1) 0 ForwardOrOn)
    (inr (inr (inr (inr (inr (inr (inr (inr (inl refl))))))))) (jump_fits d h)
jump_least TjumpBw i t d leads h =
    shortest_some TjumpBw d 0 0
    (row 0x08 1 TjumpBw TjumpBwW Word Absent Absent Plain (Values 1) 0 BackwardOrOn)
    (inr (inr (inr (inr (inr (inr (inr (inr (inr (inr (inl refl))))))))))) (jump_fits d h)
jump_least _ i t d leads h = absurd leads

-- ---- labels

pub label_is : (label : ℕ) (form : Form) → is_label label form ≡ true → form ≡ Label label
label_is label (Op instr) h = absurd (true_false h) where
  true_false : false ≡ true → ⊥
  true_false e = cc
label_is label (Jump name other) h = absurd (true_false h) where
  true_false : false ≡ true → ⊥
  true_false e = cc
label_is label (Label other) h = ap Label (eqb-true other label h)

pub target_is : (forms : List Form) (operation : OpName) (i label t : ℕ)
    → IsLabelled forms operation i label → slice_get forms t ≡ Some (Label label)
    → target forms label ≡ t
target_is forms operation i label t labelled there =
    let within = slice_get_within forms t (Label label) there in
    position_or_len_is (is_label label) forms t (Label 0) (omega (arith, within))
    (λ k before. elim (cases_Bool (is_label label (get_or forms k (Label 0)))) [
      | inl is ↦
          let here : slice_get forms k ≡ Some (Label label) =
          slice_get-get_or forms k (Label 0) (omega (arith, within, before))
          ∙ ap Some (label_is label (get_or forms k (Label 0)) is) in
          let one = labelled.once k here in
          let two = labelled.once t there in
          absurd (omega (arith, before, one, two))
      | inr isnt ↦ isnt
    ])
    (λ _. ap (is_label label) (get_or_from_slice_get forms t (Label label) (Label 0) there)
    ∙ eq-eqb label label refl)

-- ---- distances

distance_is : (forms : List Form) (i t : ℕ)
    → between (settled forms) i t
    ≡ (start forms t - start forms (i + 1)) + (start forms i - start forms t)
unfolding start
distance_is forms i t =
    omega (arith, sum-range (settled forms) (i + 1) t, sum-range (settled forms) t i)

pub distance_below : (forms : List Form) (i t : ℕ) → wide forms ≤ 65535
    → between (settled forms) i t < 65536
distance_below forms i t h =
    omega (
      arith,
      distance_is forms i t,
      start_below forms t,
      start_below forms i,
      rising_start forms i (i + 1) (omega arith),
    )

-- a jump that stands at a place, ends at another, and has this operand
record Jumps (code : List ℕ) (at next distance : ℕ) (operation : OpName) : Type 0 where
  instr : Instr
  stands : Stands code at operation instr
  ends : instr.next ≡ next
  is : instr.a ≡ distance

jumps_at : (forms : List Form) (i t label : ℕ) (name : OpName) (distance : ℕ)
    → ArePlaceable forms → wide forms ≤ 65535
    → slice_get forms i ≡ Some (Jump name label) → slice_get forms t ≡ Some (Label label)
    → between (settled forms) i t ≡ distance
    → Jumps (placed forms) (start forms i) (start forms (i + 1)) distance (operation_of name)
jumps_at forms i t label name distance placeable fits here there is =
    let operation = operation_of name in
    let within = slice_get_within forms i (Jump name label) here in
    let labelled = placeable.jumps i label name here in
    let d = between (settled forms) i t in
    let small : d < 65536 = distance_below forms i t fits in
    let least = jump_least operation i labelled.index d labelled.leads small in
    let form : get_or forms i (Label 0) ≡ Jump name label =
    get_or_from_slice_get forms i (Jump name label) (Label 0) here in
    let bytes : form_bytes forms (settled forms) i (get_or forms i (Label 0))
    ≡ instr_bytes operation d 0 0 =
    ap (form_bytes forms (settled forms) i) form
    ∙ ap (λ t. jump_bytes operation (between (settled forms) i t))
    (target_is forms operation i label t labelled there) in
    record {
      instr = instr_of least.0.name d 0 0 (start forms (i + 1));
      stands = stands_at forms i operation d 0 0 least.0 within least.1 bytes;
      ends = refl;
      is = is;
    }

-- ---- all together

op_at : (forms : List Form) (i : ℕ) (form : Instr) → ArePlaceable forms
    → slice_get forms i ≡ Some (Op form)
    → (name : OpName) × Stands (placed forms) (start forms i) (operation_of form.name)
    (instr_of name form.a form.b form.c (start forms (i + 1)))
op_at forms i form placeable here =
    let operation = operation_of form.name in
    let within = slice_get_within forms i (Op form) here in
    let least =
    op_least (longest operation) operation form.a form.b form.c refl (placeable.ops i form here) in
    let is : get_or forms i (Label 0) ≡ Op form =
    get_or_from_slice_get forms i (Op form) (Label 0) here in (
      least.0.name,
      stands_at forms i operation form.a form.b form.c least.0 within least.1
          (ap (form_bytes forms (settled forms) i) is),
    )

label_at : (forms : List Form) (i label : ℕ) → slice_get forms i ≡ Some (Label label)
    → start forms (i + 1) ≡ start forms i
label_at forms i label here =
    let within = slice_get_within forms i (Label label) here in
    let is : get_or forms i (Label 0) ≡ Label label =
    get_or_from_slice_get forms i (Label label) (Label 0) here in
    let none_of : length (form_bytes forms (settled forms) i (get_or forms i (Label 0))) ≡ 0 =
    ap (λ form. length (form_bytes forms (settled forms) i form)) is in
    omega (arith, next_start forms i within, none_of)

end_at : (forms : List Form) → start forms (length forms) ≡ length (placed forms)
unfolding placed
end_at forms =
    sym (length-before forms (length forms))
    ∙ ap (λ part. length (code_of forms part))
    (take_all (length forms) (numbered forms) (omega (arith, length-enumerate_from 0 forms)))

start_within : (forms : List Form) (i : ℕ) → start forms i ≤ length (placed forms)
unfolding start
start_within forms i =
    let all : sum (take (length forms) (settled forms)) ≡ sum (settled forms) =
    ap sum (take_all (length forms) (settled forms) (omega (arith, length-settled forms))) in
    let end : sum (take (length forms) (settled forms)) ≡ length (placed forms) = end_at forms in
    omega (arith, sum_by-take-le (λ (n : ℕ). n) (settled forms) i, all, end)

begin_at : (forms : List Form) → start forms 0 ≡ 0
unfolding start
begin_at forms = refl

pub no_longer : (forms : List Form) → length (placed forms) ≤ wide forms
no_longer forms = omega (arith, end_at forms, start_below forms (length forms))

pub is_placed : (forms : List Form) → ArePlaceable forms → wide forms ≤ 65535
    → IsPlaced (placed forms) forms (start forms)
is_placed forms placeable fits = record {
  begins = begin_at forms;
  ends = end_at forms;
  within = start_within forms;
  no_longer = no_longer forms;
  labels = label_at forms;
  ops = λ i form here. op_at forms i form placeable here;
  jumps_on = λ i t label name here there before.
      let up = rising_start forms (i + 1) t (omega (arith, before)) in
      let low = rising_start forms i (i + 1) (omega arith) in
      let jump =
      jumps_at forms i t label name (start forms t - start forms (i + 1)) placeable fits here there
      (omega (arith, distance_is forms i t, up, low)) in
      record {
        instr = jump.instr;
        stands = jump.stands;
        ends = jump.ends;
        lands = omega (arith, jump.ends, jump.is, up);
      };
  jumps_back = λ i t label name here there after.
      let up = rising_start forms t i (omega (arith, after)) in
      let on = rising_start forms t (i + 1) (omega (arith, after)) in
      let jump =
      jumps_at forms i t label name (start forms i - start forms t) placeable fits here there
      (omega (arith, distance_is forms i t, up, on)) in
      record {
        instr = jump.instr;
        stands = jump.stands;
        ends = jump.ends;
        reaches = omega (arith, jump.is);
        lands = omega (arith, jump.is, up);
      };
}
