-- Branches and short-circuits go from one number of operands to another.
use Rattle.std.proofs.Common.{◌≡◌, ℕ, suc, ◌+◌, ◌≤◌, [], ◌∷◌, ◌++◌, refl, sym, ap, ◌∙◌, subst}
use Rattle.std.proofs.Common.{arith, length-append}
use Rattle.wap_unit.specs.declared.row.OpName.{OpName}
use Rattle.wap_asm.specs.Spellings.{operation_of, longest}
use Rattle.wap_meaning.specs.coding.Coded.{Coded, instr}
use Rattle.wap_meaning.specs.coding.Expressions.{short_code}
use Rattle.wap_meaning.specs.coding.Statements.{branch_code}
use Rattle.wap_compiled_laws.proofs.Pieces.Pieces.{front, behind}
use Rattle.wap_compiled_laws.proofs.Pieces.Sizes.{branches}
use Rattle.wap_compiled_laws.proofs.Pieces.Sizes.{sized_branches, sized_branch, sized_short}
use Rattle.wap_compiled_laws.proofs.Labels.Wired.{IsOperation}
use Rattle.wap_compiled_laws.proofs.Depths.Flow.{short, flow_of}
use Rattle.wap_compiled_laws.proofs.Depths.Fine.{joined, OpFine}
use Rattle.wap_compiled_laws.proofs.Depths.Spots.{same_front, same_back, Layout, Ranged}
use Rattle.wap_compiled_laws.proofs.Depths.Spots.{HasLabel, Spot, spot_of, spot, AllSpots, all_both}
use Rattle.wap_compiled_laws.proofs.Depths.Spots.{all_first, Free, nearer, Shape}
use Rattle.wap_compiled_laws.proofs.Labels.Wired.{forward, tests}

module _ (layout : Layout) where
  open layout use {unit, forms}

  -- two branches
  pub shape_branches : {first second : Coded} {x y : ℕ} → Shape layout first x y
      → Shape layout second x y → Shape layout (branches first second) (suc x) y
  shape_branches {first} {second} {x} {y} p q = record {
    sized = sized_branches first second p.sized q.sized;
    depths = suc x ∷ (p.depths ++ (y ∷ x ∷ (q.depths ++ y ∷ [])));
    long =
        omega (
          arith,
          length-append p.depths (y ∷ x ∷ (q.depths ++ y ∷ [])),
          length-append q.depths (y ∷ []),
          p.long,
          q.long,
        );
    fits = λ exits i d same last free holds.
        let rest = y ∷ x ∷ (q.depths ++ y ∷ []) in
        let after_first = behind forms (i + 1) first.size (first.forms exits (i + 1)) _
        holds.1 (p.sized exits (i + 1)) in
        let start : ℕ = i + 1 + first.size + 1 + 1 in
        let after_second = behind forms start second.size (second.forms exits start) _
        after_first.1.1 (q.sized exits start) in
        let end : ℕ = start + second.size in
        let near : (n : ℕ) → n ≤ end → Free layout exits d n =
        λ n less. nearer layout exits d (omega arith) free in
        let back = same_back d (i + 1) first.size p.depths rest same.1 p.long in
        let last_label = same_back d start second.size q.depths (y ∷ []) back.1.1 q.long in
        let whole : end + 1 ≡ i + (branches first second).size = omega arith in
        let ps = p.fits exits (i + 1) d (same_front d (i + 1) p.depths rest same.1) back.0
        (near (i + 1 + first.size) (omega arith))
        (front forms (i + 1) (first.forms exits (i + 1)) _ holds.1) in
        let qs = q.fits exits start d (same_front d start q.depths (y ∷ []) back.1.1)
        last_label.0 (near end (omega arith))
        (front forms start (second.forms exits start) _ after_first.1.1) in
        let to_second : i + 1 + first.size + 1 ≡ i + 1 + (first.size + 1) = omega arith in
        let to_end : end ≡ i + 1 + first.size + 1 + (1 + second.size) = omega arith in
        let at_second : d (i + 1 + (first.size + 1)) ≡ x =
        subst (λ n. d n ≡ x) to_second back.1.0 in
        let at_end : d (i + 1 + first.size + 1 + (1 + second.size)) ≡ y =
        subst (λ n. d n ≡ y) to_end last_label.0 in
        let end_spot : Spot layout d end = spot layout after_second.0
        (subst (λ n. d n ≡ y) (sym whole) last ∙ sym last_label.0) refl in
        let label_spot : Spot layout d (i + 1 + first.size + 1) = spot layout after_first.1.0
        (qs.0 ∙ sym back.1.0) refl in
        let jump_spot : Spot layout d (i + 1 + first.size) = spot layout after_first.0
        (at_end ∙ sym back.0) (subst (HasLabel layout) to_end after_second.0, forward (omega arith))
        in
        let test_spot : Spot layout d i = spot layout holds.0
        (same.0 ∙ ap suc (sym at_second), ps.0 ∙ sym at_second)
        (subst (HasLabel layout) to_second after_first.1.0, tests (omega arith)) in
        let tail : AllSpots layout d start (second.size + 1) =
        all_both layout second.size 1 qs.1 (all_first layout end_spot) in
        let labels : AllSpots layout d (i + 1 + first.size) (1 + (1 + (second.size + 1))) =
        all_both layout 1 (1 + (second.size + 1)) (all_first layout jump_spot)
        (all_both layout 1 (second.size + 1) (all_first layout label_spot) tail) in (
          same.0,
          all_both layout 1 (first.size + (1 + (1 + (second.size + 1))))
              (all_first layout test_spot)
              (all_both layout first.size (1 + (1 + (second.size + 1))) ps.1 labels),
        );
  }

  -- one branch
  pub shape_branch : {body : Coded} → Shape layout body 0 0 → Shape layout (branch_code body) 1 0
  shape_branch {body} p = record {
    sized = sized_branch body p.sized;
    depths = 1 ∷ (p.depths ++ 0 ∷ []);
    long = omega (arith, length-append p.depths (0 ∷ []), p.long);
    fits = λ exits i d same last free holds.
        let there = behind forms (i + 1) body.size (body.forms exits (i + 1)) _ holds.1
        (p.sized exits (i + 1)) in
        let back = same_back d (i + 1) body.size p.depths (0 ∷ []) same.1 p.long in
        let end : ℕ = i + 1 + body.size in
        let ps = p.fits exits (i + 1) d (same_front d (i + 1) p.depths (0 ∷ []) same.1) back.0
        (nearer layout exits d (omega arith) free)
        (front forms (i + 1) (body.forms exits (i + 1)) _ holds.1) in
        let whole : end + 1 ≡ i + (1 + (body.size + 1)) = omega arith in
        let test_spot : Spot layout d i = spot layout holds.0
        (same.0 ∙ ap suc (sym back.0), ps.0 ∙ sym back.0) (there.0, tests (omega arith)) in
        let end_spot : Spot layout d end = spot layout there.0
        (subst (λ n. d n ≡ 0) (sym whole) last ∙ sym back.0) refl in (
          same.0,
          all_both layout 1 (body.size + 1) (all_first layout test_spot)
              (all_both layout body.size 1 ps.1 (all_first layout end_spot)),
        );
  }

  -- a short-circuit
  pub shape_short : {name : OpName} {second : Coded} {x : ℕ}
      → flow_of unit (instr name 0 0 0) ≡ short
      → IsOperation name × Ranged layout (instr name 0 0 0)
      → Shape layout second x (suc x) → Shape layout (short_code name second) (suc x) (suc x)
  unfolding operation_of longest
  shape_short {name} {second} {x} flows is p = record {
    sized = sized_short name second p.sized;
    depths = suc x ∷ suc x ∷ (p.depths ++ (suc x ∷ suc x ∷ []));
    long = omega (arith, length-append p.depths (suc x ∷ suc x ∷ []), p.long);
    fits = λ exits i d same last free holds.
        let ends = suc x ∷ suc x ∷ [] in
        let start : ℕ = i + 1 + 1 in
        let there = behind forms start second.size (second.forms exits start) _
        holds.1.1 (p.sized exits start) in
        let back = same_back d start second.size p.depths ends same.1.1 p.long in
        let ps = p.fits exits start d (same_front d start p.depths ends same.1.1) back.0
        (nearer layout exits d (omega arith) free) (front forms start (second.forms exits start) _
        holds.1.1) in
        let end : ℕ = start + second.size + 1 in
        let to_end : end ≡ start + (second.size + 1) = omega arith in
        let whole : end + 1 ≡ i + (short_code name second).size = omega arith in
        let at_end : d (start + (second.size + 1)) ≡ suc x =
        subst (λ n. d n ≡ suc x) to_end back.1.0 in
        let short_spot : Spot layout d i = spot layout holds.0
        (subst (OpFine (flow_of unit) forms d i) (sym flows) (
          start + (second.size + 1),
          holds.1.0,
          at_end ∙ sym same.0,
          same.0 ∙ ap suc (sym ps.0),
        )) is in
        let jump_spot : Spot layout d (i + 1) = spot_of layout holds.1.0
        (joined i refl (instr name 0 0 0) holds.0 flows)
        (subst (HasLabel layout) to_end there.1.0, tests (omega arith)) in
        let tobool_spot : Spot layout d (start + second.size) = spot layout there.0
        (omega (arith, back.0), back.1.0 ∙ omega (arith, back.0)) ((refl, refl), tt) in
        let end_spot : Spot layout d end = spot layout there.1.0
        (subst (λ n. d n ≡ suc x) (sym whole) last ∙ sym back.1.0) refl in (
          same.0,
          all_both layout 1 (1 + (second.size + (1 + 1))) (all_first layout short_spot)
              (all_both layout 1 (second.size + (1 + 1)) (all_first layout jump_spot)
              (all_both layout second.size (1 + 1) ps.1 (all_both layout 1 1
              (all_first layout tobool_spot) (all_first layout end_spot)))),
        );
  }
