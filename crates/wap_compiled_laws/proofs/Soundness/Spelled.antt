-- Code that is placed, by the operations that its forms name, where each of them names one.
use Rattle.std.proofs.Common.{◌≡◌, ℕ, ◌+◌, ◌-◌, ◌≤◌, false, List, length}
use Rattle.std.proofs.Common.{Some, Ok, refl, subst, slice_get}
use Rattle.std.specs.Prelude.{slice_index}
use Rattle.wap_unit.specs.declared.row.OpName.{OpName}
use Rattle.wap_unit.specs.declared.row.OpName.TheVariants as op
use Rattle.wap_unit.specs.declared.row.Row.{Row}
use Rattle.wap_unit.specs.declared.instr.Instr.{Instr}
use Rattle.wap_unit.specs.Instructions.{row_of, read_row}
use Rattle.wap_asm.specs.declared.form.Form.{Form}
use Rattle.wap_asm.specs.declared.form.Form.TheVariants.{Op, Jump, Label}
use Rattle.wap_asm.specs.Spellings.{operation_of}
use Rattle.wap_asm.specs.Placed as placing
use Rattle.wap_compiled_laws.proofs.Labels.Wired.{is_jump, LeadsTo, forward, tests, backward}

-- jumps know their labels, each label's number is its index, and operations are no jumps
pub record IsWired (forms : List Form) : Type 0 where
  pub named : (k : ℕ) (instr : Instr) → slice_get forms k ≡ Some (Op instr)
      → operation_of instr.name ≡ instr.name
  pub plain : (k : ℕ) (instr : Instr) → slice_get forms k ≡ Some (Op instr)
      → is_jump instr.name ≡ false
  pub labels : (k n : ℕ) → slice_get forms k ≡ Some (Label n) → n ≡ k
  pub jumps : (k n : ℕ) (name : OpName) → slice_get forms k ≡ Some (Jump name n)
      → (slice_get forms n ≡ Some (Label n)) × LeadsTo k n name

-- an instruction of an operation stands at a place
pub record Stands (code : List ℕ) (at : ℕ) (operation : OpName) (instr : Instr) : Type 0 where
  pub row : Row
  pub has_row : row_of (slice_index code at) ≡ Some row
  pub of_operation : row.operation ≡ operation
  pub reads : read_row row code at ≡ Ok instr

-- where a jump that stands at a place leads
abbrev pub Lands : OpName → Instr → ℕ → ℕ → Type 0
Lands op.JumpBw jump place there = (jump.a ≤ place) × (place - jump.a ≡ there)
Lands name jump place there = jump.next + jump.a ≡ there

-- a jump stands at a form's place, before the next, and leads to its label's
pub record JumpAt (code : List ℕ) (pos : ℕ → ℕ) (k n : ℕ) (name : OpName) : Type 0 where
  pub instr : Instr
  pub stands : Stands code (pos k) name instr
  pub ends : instr.next ≡ pos (k + 1)
  pub lands : Lands name instr (pos k) (pos n)

-- the code splits into the forms in order, each of the operation that it names
pub record IsPlaced (code : List ℕ) (forms : List Form) (pos : ℕ → ℕ) : Type 0 where
  pub begins : pos 0 ≡ 0
  pub ends : pos (length forms) ≡ length code
  pub labels : (i n : ℕ) → slice_get forms i ≡ Some (Label n) → pos (i + 1) ≡ pos i
  pub ops : (i : ℕ) (form : Instr) → slice_get forms i ≡ Some (Op form) →
      (name : OpName) × Stands code (pos i) form.name
      (record { name = name; a = form.a; b = form.b; c = form.c; next = pos (i + 1) })
  pub jumps : (i n : ℕ) (name : OpName) → slice_get forms i ≡ Some (Jump name n)
      → JumpAt code pos i n name

-- what stands there is of the operation that it names
stands_so : {code : List ℕ} {at : ℕ} {operation other : OpName} {instr : Instr} → operation ≡ other
    → placing.Stands code at operation instr → Stands code at other instr
stands_so {code} {at} {instr} same it =
    subst (λ o. Stands code at o instr) same (record {
      row = it.row;
      has_row = it.has_row;
      of_operation = it.of_operation;
      reads = it.reads;
    })

-- placed code whose forms are wired is so
pub spelled : {code : List ℕ} {forms : List Form} {pos : ℕ → ℕ} → IsWired forms
    → placing.IsPlaced code forms pos → IsPlaced code forms pos
unfolding operation_of
spelled {code} {forms} {pos} wired it = record {
  begins = it.begins;
  ends = it.ends;
  labels = it.labels;
  ops = λ i form here.
      let found = it.ops i form here in
      (found.0, stands_so (wired.named i form here) found.1);
  jumps = λ i n name here.
      let wires = wired.jumps i n name here in jump_at here wires.0 wires.1;
}
  where
    jump_at : {i n : ℕ} {name : OpName} → slice_get forms i ≡ Some (Jump name n)
        → slice_get forms n ≡ Some (Label n) → LeadsTo i n name → JumpAt code pos i n name
    jump_at {i} {n} here there (forward less) =
        let jump = it.jumps_on i n n op.JumpFw here there less in record {
          instr = jump.instr;
          stands = stands_so refl jump.stands;
          ends = jump.ends;
          lands = jump.lands;
        }
    jump_at {i} {n} here there (tests less) =
        let jump = it.jumps_on i n n op.TjumpFw here there less in record {
          instr = jump.instr;
          stands = stands_so refl jump.stands;
          ends = jump.ends;
          lands = jump.lands;
        }
    jump_at {i} {n} here there (backward less) =
        let jump = it.jumps_back i n n op.JumpBw here there less in record {
          instr = jump.instr;
          stands = stands_so refl jump.stands;
          ends = jump.ends;
          lands = (jump.reaches, jump.lands);
        }
