-- The bytes of placed code are bytes.
use Rattle.std.proofs.Common.{◌≡◌, ℕ, suc, ◌+◌, ◌<◌, ◌≤◌, List, [], ◌∷◌, ◌++◌, Option}
use Rattle.std.proofs.Common.{Some, None, refl, subst, arith, slice_get}
use Rattle.std.specs.List.{flat_map, enumerate_from}
use Rattle.wap_unit.specs.declared.row.OpName.{OpName}
use Rattle.wap_unit.specs.declared.row.Slot.{Slot}
use Rattle.wap_unit.specs.declared.row.Slot.TheVariants.{Byte, Word}
use Rattle.wap_unit.specs.declared.row.Row.{Row}
use Rattle.wap_asm.specs.Spelling.{limit, slot_bytes, spelling}
use Rattle.wap_asm.specs.Spellings.{spelling_of, row_bytes}
use Rattle.wap_asm.specs.declared.form.Form.{Form}
use Rattle.wap_asm.specs.declared.form.Form.TheVariants.{Op, Jump, Label}
use Rattle.wap_asm.specs.Placing.{form_bytes, bytes_at, wide, settled, placed}
use Rattle.wap_asm.specs.Placed.{ArePlaceable}
use Rattle.wap_asm.specs.Operands.{Holds}
use Rattle.wap_asm.specs.inside.Passes.{HasSpelling}
use Rattle.wap_asm.proofs.SlotLaws.{low_part-below}
use Rattle.wap_asm.proofs.BytesLaws.{op_spelling, jump_spelling, has_room}
use Rattle.wap_compiled_laws.proofs.SpellingLemmas.Written.{AreBytes, bytes_both}

-- an operand that has room
slot_fits : (count n : ℕ) (slot : Slot) → n < limit count slot → AreBytes (slot_bytes slot n)
slot_fits count n Byte less = (less, tt)
slot_fits count n Word less = (omega (arith, less), (omega arith, tt))
slot_fits count n _ less = tt

-- an instruction whose operands have room
row_fits : {row : Row} {a b c : ℕ} → 0 < row.count → row.first + row.count ≤ 256
    → Holds row a b c → AreBytes (spelling row a b c)
row_fits {row} {a} {b} {c} some few room = (
  omega (arith, few, low_part-below row.count row.a a some room.a_fits),
  bytes_both (slot_bytes row.a a) (slot_bytes row.b b ++ slot_bytes row.c c)
      (slot_fits row.count a row.a room.a_fits)
      (bytes_both (slot_bytes row.b b) (slot_bytes row.c c)
      (slot_fits row.count b row.b room.b_fits)
      (slot_fits row.count c row.c room.c_fits)),
)

-- one that has a spelling
spelled_fits : {operation : OpName} {a b c : ℕ} → HasSpelling operation a b c
    → AreBytes (row_bytes (spelling_of operation a b c) a b c)
spelled_fits {operation} {a} {b} {c} has = by (spelling_of operation a b c) refl
  where
    by : (o : Option Row) → spelling_of operation a b c ≡ o → AreBytes (row_bytes o a b c)
    by None is = tt
    by (Some row) is =
        let fits = has_room operation a b c row has is in row_fits fits.0 fits.1 fits.2

module _ (forms : List Form) (placeable : ArePlaceable forms) (few : wide forms ≤ 65535) where
  -- each form
  form_fits : (i : ℕ) (form : Form) → slice_get forms i ≡ Some form
      → AreBytes (form_bytes forms (settled forms) i form)
  form_fits i (Op instr) here = spelled_fits (op_spelling forms i instr placeable here)
  form_fits i (Jump name label) here =
      spelled_fits (jump_spelling forms i label name placeable few here)
  form_fits i (Label label) here = tt

  -- those from an index on
  all_fit : (n : ℕ) (rest : List Form)
      → ((k : ℕ) (form : Form) → slice_get rest k ≡ Some form → slice_get forms (n + k) ≡ Some form)
      → AreBytes (flat_map (bytes_at forms (settled forms)) (enumerate_from n rest))
  all_fit n [] stand = tt
  all_fit n (form ∷ rest) stand =
      let here : n + 0 ≡ n = omega arith in
      bytes_both (form_bytes forms (settled forms) n form)
      (flat_map (bytes_at forms (settled forms)) (enumerate_from (n + 1) rest))
      (form_fits n form (subst (λ (m : ℕ). slice_get forms m ≡ Some form) here (stand 0 form refl)))
      (all_fit (n + 1) rest (λ k other there.
      let e : n + suc k ≡ n + 1 + k = omega arith in
      subst (λ (m : ℕ). slice_get forms m ≡ Some other) e (stand (suc k) other there)))

  pub placed_bytes : AreBytes (placed forms)
  unfolding placed
  placed_bytes =
      all_fit 0 forms (λ k form here. let e : k ≡ 0 + k = omega arith in
      subst (λ (m : ℕ). slice_get forms m ≡ Some form) e here)
