-- How many operands stand at each form: the numbers at a form and at those where it goes on fit one
-- another.
use Rattle.std.proofs.Common.{◌≡◌, ℕ, suc, ◌+◌, ◌-◌, ◌<◌, ◌≤◌, List, Some, slice_get}
use Rattle.wap_unit.specs.declared.row.OpName.{OpName}
use Rattle.wap_unit.specs.declared.row.OpName.TheVariants as op
use Rattle.wap_unit.specs.declared.instr.Instr.{Instr}
use Rattle.wap_asm.specs.declared.form.Form.{Form}
use Rattle.wap_asm.specs.declared.form.Form.TheVariants.{Op, Jump, Label}
use Rattle.wap_compiled_laws.proofs.Depths.Flow.{Flow, goes, leaves, short}

module _ (flow_of : Instr → Flow) (forms : List Form) where
  -- how many operands stand before each form
  abbrev pub Depth : Type 0
  Depth = ℕ → ℕ

  -- an operation finds what it takes, and leaves what it gives
  abbrev pub OpFine : Depth → ℕ → Flow → Type 0
  OpFine d k (goes takes gives) = (takes ≤ d k) × (d (k + 1) ≡ d k - takes + gives)
  OpFine d k (leaves takes) = takes ≤ d k
  -- with the jump behind it
  OpFine d k short = (n : ℕ) × (slice_get forms (k + 1) ≡ Some (Jump op.TjumpFw n))
      × (d n ≡ d k) × (d k ≡ suc (d (k + 1 + 1)))

  -- the numbers at a form fit those at the forms where it goes on; a jump behind a short-circuit
  -- belongs to this
  abbrev pub JumpFine : Depth → ℕ → OpName → ℕ → Type 0
  JumpFine d k op.TjumpFw n = (d k ≡ suc (d n)) × (d (k + 1) ≡ d n)
  JumpFine d k name n = d n ≡ d k

  -- every form
  abbrev pub FormFine : Depth → ℕ → Form → Type 0
  FormFine d k (Op instr) = OpFine d k (flow_of instr)
  FormFine d k (Jump name n) = JumpFine d k name n
  FormFine d k (Label n) = d (k + 1) ≡ d k

  -- what stands at an index
  abbrev pub Fine : Depth → ℕ → Type 0
  Fine d k = (form : Form) × (slice_get forms k ≡ Some form) × FormFine d k form

  -- the second of a pair is no place of its own
  pub data FineAt (d : Depth) (k : ℕ) : Type 0 where
    fine : Fine d k → FineAt d k
    joined : (before : ℕ) → k ≡ before + 1 → (instr : Instr)
        → slice_get forms before ≡ Some (Op instr) → flow_of instr ≡ short → FineAt d k

  -- so many forms from an index on
  abbrev pub AllFine : Depth → ℕ → ℕ → Type 0
  AllFine d i size = (k : ℕ) → i ≤ k → k < i + size → FineAt d k
