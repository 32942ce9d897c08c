-- What a jump has to know: its label, before or after it by its name. And what an operation has: a
-- name that is its own, and operands in range.
use Rattle.std.proofs.Common.{◌≡◌, ℕ, ◌<◌, Bool, true, false, List, Some, slice_get}
use Rattle.wap_unit.specs.declared.row.OpName.{OpName}
use Rattle.wap_unit.specs.declared.row.OpName.TheVariants as op
use Rattle.wap_unit.specs.declared.instr.Instr.{Instr}
use Rattle.wap_asm.specs.Spellings.{operation_of}
use Rattle.wap_asm.specs.declared.form.Form.{Form}
use Rattle.wap_asm.specs.declared.form.Form.TheVariants.{Op, Jump, Label}

-- the operations that are jumps
abbrev pub is_jump : OpName → Bool
is_jump op.JumpFw = true
is_jump op.JumpBw = true
is_jump op.TjumpFw = true
is_jump op.TjumpBw = true
is_jump _ = false

-- a name is that of an operation that is no jump
abbrev pub IsOperation : OpName → Type 0
IsOperation name = (operation_of name ≡ name) × (is_jump name ≡ false)

-- a jump of this name leads from one index to another
pub data LeadsTo (k n : ℕ) : OpName → Type 0 where
  forward : k < n → LeadsTo k n op.JumpFw
  tests : k < n → LeadsTo k n op.TjumpFw
  backward : n < k → LeadsTo k n op.JumpBw

module _ (Ranged : Instr → Type 0) (forms : List Form) where
  -- a label stands at its index
  abbrev pub HasLabel : ℕ → Type 0
  HasLabel n = slice_get forms n ≡ Some (Label n)

  -- a form at an index is an operation whose operands are in range, a jump that knows its label, or
  -- a label that knows itself
  abbrev pub WiredForm : ℕ → Form → Type 0
  WiredForm k (Op form) = IsOperation form.name × Ranged form
  WiredForm k (Jump name n) = HasLabel n × LeadsTo k n name
  WiredForm k (Label n) = n ≡ k
