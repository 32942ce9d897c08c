-- Forms that pass the test may be placed.
use Rattle.std.proofs.Common.{◌≡◌, ℕ, zero, suc, ◌+◌, ◌==◌, Bool, true, false, not, ◌||◌}
use Rattle.std.proofs.Common.{List, [], ◌∷◌, Option, Some, None, IsSomeAnd, slice_get, IsTrue}
use Rattle.std.proofs.Common.{refl, ◌∙◌, ap, subst, arith}
use Rattle.std.specs.List.{list_all, enumerate_from}
use Rattle.std.specs.Option.{option_map_or}
use Rattle.std.proofs.lemmas.Bool.{and_parts, ltb-true, eqb-true, eq-eqb, false≢true}
use Rattle.std.proofs.lemmas.Option.{none-some, same_Some}
use Rattle.wap_unit.specs.declared.row.OpName.{OpName}
use Rattle.wap_unit.specs.declared.row.OpName.TheVariants.{JumpFw, JumpBw, TjumpFw, TjumpBw}
use Rattle.wap_unit.specs.declared.row.Row.{Row}
use Rattle.wap_asm.specs.Spelling.{holds}
use Rattle.wap_asm.specs.declared.form.Form.{Form}
use Rattle.wap_asm.specs.declared.form.Form.TheVariants.{Op, Jump, Label}
use Rattle.wap_asm.specs.Spellings.{operation_of, longest}
use Rattle.wap_asm.specs.Placing.{is_label, target}
use Rattle.wap_asm.specs.Placed.{Leads, IsLabelled, ArePlaceable}
use Rattle.wap_asm.specs.Checking.{leads_test, is_apart, form_test, are_placeable}
use Rattle.wap_asm.proofs.PlacedLaws.{label_is}

list_all_at : {X : Type 0} (p : X → Bool) (xs : List X) (k : ℕ) (x : X) → list_all p xs ≡ true
    → slice_get xs k ≡ Some x → p x ≡ true
list_all_at p [] k x all here = absurd (none-some x here)
list_all_at p (y ∷ ys) zero x all here =
    subst (λ z. p z ≡ true) (same_Some y x here) (and_parts (p y) (list_all p ys) all).0
list_all_at p (y ∷ ys) (suc k) x all here =
    list_all_at p ys k x (and_parts (p y) (list_all p ys) all).1 here

numbered_from : (n k m : ℕ) (xs : List Form) (x : Form) → m ≡ n + k → slice_get xs k ≡ Some x
    → slice_get (enumerate_from n xs) k ≡ Some (m, x)
numbered_from n k m [] x e here = absurd (none-some x here)
numbered_from n zero m (y ∷ ys) x e here =
    ap (λ z. Some (n, z)) (same_Some y x here)
    ∙ ap (λ i. Some (i, x)) (let same : n ≡ m = omega arith in same)
numbered_from n (suc k) m (y ∷ ys) x e here = numbered_from (n + 1) k m ys x (omega arith) here

some_and : (o : Option Row) (p : Row → Bool) → option_map_or p o false ≡ true
    → IsSomeAnd o (λ row. IsTrue (p row))
some_and None p h = absurd (false≢true h)
some_and (Some row) p h = h

leads_from : (operation : OpName) (i t : ℕ) → leads_test operation i t ≡ true → Leads operation i t
leads_from JumpFw i t h = ltb-true i t h
leads_from TjumpFw i t h = ltb-true i t h
leads_from JumpBw i t h = ltb-true t i h
leads_from TjumpBw i t h = ltb-true t i h
leads_from _ i t h = absurd (false≢true h)

label_from : (label : ℕ) (o : Option Form) → option_map_or (is_label label) o false ≡ true
    → o ≡ Some (Label label)
label_from label None h = absurd (false≢true h)
label_from label (Some form) h = ap Some (label_is label form h)

or_right : (x y : Bool) → x ≡ true → (not x || y) ≡ true → y ≡ true
or_right true y e h = h
or_right false y e h = absurd (false≢true e)

labelled_from : (forms : List Form) (i label : ℕ) (name : OpName)
    → form_test forms (i, Jump name label) ≡ true → IsLabelled forms (operation_of name) i label
labelled_from forms i label name h =
    let t = target forms label in
    let parts = and_parts (leads_test (operation_of name) i t) _ h in
    let rest =
    and_parts (option_map_or (is_label label) (slice_get forms t) false)
    (list_all (is_apart label t) (enumerate_from 0 forms)) parts.1 in
    record {
      index = t;
      stands = label_from label (slice_get forms t) rest.0;
      once = λ u there. eqb-true u t
          (or_right (is_label label (Label label)) (u == t) (eq-eqb label label refl)
          (list_all_at (is_apart label t) (enumerate_from 0 forms) u (u, Label label) rest.1
          (numbered_from 0 u u forms (Label label) (omega arith) there)));
      leads = leads_from (operation_of name) i t parts.0;
    }

pub placeable_from : (forms : List Form) → are_placeable forms ≡ true → ArePlaceable forms
unfolding are_placeable
placeable_from forms h = record {
  ops = λ i instr here. some_and (longest (operation_of instr.name))
      (λ row. holds row instr.a instr.b instr.c)
      (list_all_at (form_test forms) (enumerate_from 0 forms) i (i, Op instr) h
      (numbered_from 0 i i forms (Op instr) (omega arith) here));
  jumps = λ i label name here. labelled_from forms i label name
      (list_all_at (form_test forms) (enumerate_from 0 forms) i (i, Jump name label) h
      (numbered_from 0 i i forms (Jump name label) (omega arith) here));
}
