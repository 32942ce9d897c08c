-- An operation does the same by each of its spellings.
use Rattle.std.proofs.Common.{◌≡◌, refl}
use Rattle.wap_unit.specs.declared.row.OpName.{OpName}
use Rattle.wap_unit.specs.declared.row.OpName.TheVariants as op
use Rattle.wap_asm.specs.Spellings.{operation_of}
use Rattle.wap_execution.specs.Actions.{action_of}

-- the operation that a name is a spelling of does what the name says
pub acts_same : (name : OpName) → action_of (operation_of name) ≡ action_of name
unfolding operation_of
acts_same op.JumpFw = refl
acts_same _ = refl
