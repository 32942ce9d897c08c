-- Forms of which each may stand where it stands may be placed.
use Rattle.std.proofs.Common.{◌≡◌, ℕ, ◌<◌, List, Some, length, slice_get, sym}
use Rattle.std.proofs.lemmas.Option.{slice_get_within}
use Rattle.wap_asm.specs.declared.form.Form.{Form}
use Rattle.wap_asm.specs.declared.form.Form.TheVariants.{Op, Jump, Label}
use Rattle.wap_asm.specs.Placed.{ArePlaceable}
use Rattle.wap_cases.specs.Numbered.{MayStand}

-- each form that was tried may stand where it stands
abbrev pub MayAll : List Form → ℕ → Type 0
MayAll forms n =
    (k : ℕ) (form : Form) → k < n → slice_get forms k ≡ Some form → MayStand forms k form

-- where all may, they may be placed
pub placeable : (forms : List Form) → MayAll forms (length forms) → ArePlaceable forms
placeable forms all = record {
  ops = λ i instr here.
      all i (Op instr) (slice_get_within forms i (Op instr) here) here;
  jumps = λ i label name here.
      let may = all i (Jump name label) (slice_get_within forms i (Jump name label) here) here in
      record {
        index = label;
        stands = may.0;
        once = λ t there.
            sym (all t (Label label) (slice_get_within forms t (Label label) there) there);
        leads = may.1;
      };
}
