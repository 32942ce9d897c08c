-- Loops and their exits go from no operands to none.
use Rattle.std.proofs.Common.{◌≡◌, ℕ, suc, ◌+◌, ◌-◌, ◌≤◌, List, [], ◌∷◌, ◌++◌, length, Some, None}
use Rattle.std.proofs.Common.{refl, sym, ap, ◌∙◌, subst, arith, slice_get, length-append}
use Rattle.wap_unit.specs.declared.row.OpName.TheVariants as op
use Rattle.wap_asm.specs.Spellings.{operation_of, longest}
use Rattle.wap_asm.specs.declared.form.Form.TheVariants.{Jump, Label}
use Rattle.wap_meaning.specs.coding.Coded.{Exits, Coded, empty, one, ◌⨾◌, jump_over}
use Rattle.wap_meaning.specs.coding.Statements.{exit_form, loop_code}
use Rattle.wap_compiled_laws.proofs.Pieces.Pieces.{Holds, front, behind, Sized, sized_both}
use Rattle.wap_compiled_laws.proofs.Pieces.Sizes.{sized_loop}
use Rattle.wap_compiled_laws.proofs.Depths.Spots.{Same, same_front, same_back, Layout, HasLabel}
use Rattle.wap_compiled_laws.proofs.Depths.Spots.{Spot, spot, AllSpots, all_both, all_first, Free}
use Rattle.wap_compiled_laws.proofs.Depths.Spots.{nearer, Shape}
use Rattle.wap_compiled_laws.proofs.Labels.Wired.{forward, tests, backward}

module _ (layout : Layout) where
  open layout use {forms}

  -- the condition of a loop, with a jump over so many forms
  pub record TestShape (coded : ℕ → Coded) : Type 0 where
    pub sized : (count : ℕ) → Sized (coded count)
    pub depths : List ℕ
    pub long : (count : ℕ) → length depths ≡ (coded count).size
    pub fits : (exits : Exits) (i count : ℕ) (d : ℕ → ℕ) → Same d i depths
        → d (i + (coded count).size) ≡ 0 → d (i + (coded count).size + count) ≡ 0
        → HasLabel layout (i + (coded count).size + count)
        → Free layout exits d (i + (coded count).size)
        → Holds forms i ((coded count).forms exits i)
        → (d i ≡ 0) × AllSpots layout d i (coded count).size

  -- no condition
  pub no_test : TestShape (λ count. empty)
  no_test = record {
    sized = λ count exits i. refl;
    depths = [];
    long = λ count. refl;
    fits = λ exits i count d same last target there free holds.
        let e : i + 0 ≡ i = omega arith in
        (subst (λ n. d n ≡ 0) e last, λ k least most. absurd (omega arith));
  }

  -- a condition
  pub one_test : (coded : Coded) → Shape layout coded 0 1
      → TestShape (λ count. coded ⨾ jump_over op.TjumpFw count)
  one_test coded p = record {
    sized = λ count. sized_both coded (jump_over op.TjumpFw count) p.sized (λ exits i. refl);
    depths = p.depths ++ 1 ∷ [];
    long = λ count. omega (arith, length-append p.depths (1 ∷ []), p.long);
    fits = λ exits i count d same last target label free holds.
        let there = behind forms i coded.size (coded.forms exits i) _ holds (p.sized exits i) in
        let back = same_back d i coded.size p.depths (1 ∷ []) same p.long in
        let ps = p.fits exits i d (same_front d i p.depths (1 ∷ []) same) back.0
        (nearer layout exits d (omega arith) free) (front forms i (coded.forms exits i) _ holds) in
        let next : i + (coded.size + 1) ≡ i + coded.size + 1 = omega arith in
        let far : i + (coded.size + 1) + count ≡ i + coded.size + 1 + count = omega arith in
        let at_far : d (i + coded.size + 1 + count) ≡ 0 = subst (λ n. d n ≡ 0) far target in
        let test_spot : Spot layout d (i + coded.size) = spot layout there.0
        (back.0 ∙ ap suc (sym at_far), subst (λ n. d n ≡ 0) next last ∙ sym at_far)
        (subst (HasLabel layout) far label, tests (omega arith)) in (
          ps.0,
          all_both layout coded.size 1 ps.1 (all_first layout
              test_spot),
        );
  }

  -- a loop
  pub shape_loop : {test : ℕ → Coded} {body update : Coded} → TestShape test → Shape layout body 0 0
      → Shape layout update 0 0 → Shape layout (loop_code test body update) 0 0
  shape_loop {test} {body} {update} p q r =
      let past : ℕ = body.size + (update.size + 2) in
      let t : ℕ = (test past).size in
      let ends : List ℕ = 0 ∷ 0 ∷ [] in
      let after_body : List ℕ = 0 ∷ (r.depths ++ ends) in
      record {
        sized = sized_loop test body update p.sized q.sized r.sized;
        depths = 0 ∷ (p.depths ++ (q.depths ++ after_body));
        long = omega (
          arith,
          length-append p.depths (q.depths ++ after_body),
          length-append q.depths after_body,
          length-append r.depths ends,
          p.long past,
          q.long,
          r.long,
        );
        fits = λ exits i d same last free holds.
            let inside : ℕ = i + 1 + t in
            let again : ℕ = inside + body.size in
            let back : ℕ = again + 1 + update.size in
            let end : ℕ = inside + past in
            let inner : Exits = Some (end, again) in
            let at_body = behind forms (i + 1) t ((test past).forms exits (i + 1)) _ holds.1
            (p.sized past exits (i + 1)) in
            let at_again = behind forms inside body.size (body.forms inner inside) _ at_body
            (q.sized inner inside) in
            let at_back = behind forms (again + 1) update.size (update.forms exits (again + 1)) _
            at_again.1 (r.sized exits (again + 1)) in
            let s1 = same_back d (i + 1) t p.depths (q.depths ++ after_body) same.1
            (p.long past) in
            let s2 = same_back d inside body.size q.depths after_body s1 q.long in
            let s3 = same_back d (again + 1) update.size r.depths ends s2.1 r.long in
            let is_end : back + 1 ≡ end = omega arith in
            let is_start : back - (1 + t + body.size + 1 + update.size) ≡ i = omega arith in
            let whole : end + 1 ≡ i + (loop_code test body update).size = omega arith in
            let end_none : d end ≡ 0 = subst (λ n. d n ≡ 0) is_end s3.1.0 in
            let end_label : HasLabel layout end =
            subst (λ n. slice_get forms n ≡ Some (Label n)) is_end at_back.1.0 in
            let near : (n : ℕ) → n ≤ end → Free layout exits d n =
            λ n less. nearer layout exits d (omega arith) free in
            let qs = q.fits inner inside d (same_front d inside q.depths after_body s1) s2.0
            (end_none, end_label, omega arith, s2.0, at_again.0, omega arith)
            (front forms inside (body.forms inner inside) _ at_body) in
            let rs = r.fits exits (again + 1) d (same_front d (again + 1) r.depths ends s2.1) s3.0
            (near back (omega arith))
            (front forms (again + 1) (update.forms exits (again + 1)) _ at_again.1) in
            let ps = p.fits exits (i + 1) past d
            (same_front d (i + 1) p.depths (q.depths ++ after_body) same.1) qs.0 end_none end_label
            (near inside (omega arith))
            (front forms (i + 1) ((test past).forms exits (i + 1)) _ holds.1) in
            let start_spot : Spot layout d i = spot layout holds.0 (ps.0 ∙ sym same.0) refl in
            let again_spot : Spot layout d again = spot layout at_again.0 (rs.0 ∙ sym s2.0) refl in
            let jumps : slice_get forms back ≡ Some (Jump op.JumpBw i) =
            subst (λ n. slice_get forms back ≡ Some (Jump op.JumpBw n)) is_start at_back.0 in
            let back_spot : Spot layout d back = spot layout jumps (same.0 ∙ sym s3.0)
            (holds.0, backward (omega arith)) in
            let end_spot : Spot layout d end = spot layout end_label
            (subst (λ n. d n ≡ 0) (sym whole) last ∙ sym end_none) refl in
            let last_spots : AllSpots layout d back (1 + 1) =
            all_both layout 1 1 (all_first layout back_spot)
            (all_first layout (subst (Spot layout d) (sym is_end) end_spot)) in (
              same.0,
              all_both layout 1 (t + (body.size + (1 + (update.size + (1 + 1)))))
                  (all_first layout start_spot)
                  (all_both layout t (body.size + (1 + (update.size + (1 + 1)))) ps.1
                  (all_both layout body.size (1 + (update.size + (1 + 1))) qs.1
                  (all_both layout 1 (update.size + (1 + 1)) (all_first layout again_spot)
                  (all_both layout update.size (1 + 1) rs.1 last_spots)))),
            );
      }

  -- `break` and `continue`
  pub shape_exit : {which : ℕ × ℕ → ℕ}
      → ((labels : ℕ × ℕ) (d : ℕ → ℕ) (end : ℕ) → Free layout (Some labels) d end
      → (d (which labels) ≡ 0) × HasLabel layout (which labels) × (end ≤ which labels))
      → Shape layout (one (λ exits at. exit_form exits which)) 0 0
  unfolding operation_of longest
  shape_exit {which} frees = record {
    sized = λ exits i. refl;
    depths = 0 ∷ [];
    long = refl;
    fits = λ exits i d same last free holds.
        (same.0, all_first layout (by exits i d same.0 free holds.0));
  }
    where
      by : (exits : Exits) (i : ℕ) (d : ℕ → ℕ) → d i ≡ 0 → Free layout exits d (i + 1)
          → slice_get forms i ≡ Some (exit_form exits which) → Spot layout d i
      by None i d none free is = spot layout is (omega arith) ((refl, refl), tt)
      by (Some labels) i d none free is =
          let there = frees labels d (i + 1) free in
          let further = there.2 in
          spot layout is (there.0 ∙ sym none) (there.1, forward (omega arith))
