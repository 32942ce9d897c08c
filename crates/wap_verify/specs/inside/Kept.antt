-- The verifier's work as the lists that it keeps.
use Rattle.std.specs.Prelude.{◌≡◌, ◌≢◌, ℕ, ◌+◌, Option, Some, None}
use Rattle.wap_verify.specs.declared.depths.Work.{Work}
use Rattle.wap_verify.specs.declared.step.Way.{Way}
use Rattle.wap_verify.specs.declared.fault.VerifyFault.{VerifyFault}
use Rattle.wap_verify.specs.declared.fault.VerifyFault.TheVariants.{Depths}
use Rattle.wap_verify.specs.Depths.{State, depth_of}

abbrev pub state : Work → State
state work = record { depths = work.depths.items; pending = work.pending.items; room = work.room }

-- another number is kept there
pub record IsConflict (state : State) (index to values : ℕ) (found : VerifyFault) : Type 0 where
  pub other : ℕ
  pub kept : depth_of state to ≡ Some (Some other)
  pub apart : values ≢ other
  pub fault : found ≡ Depths index to values other

abbrev pub IsConflictOn : State → ℕ → ℕ → Option Way → VerifyFault → Type 0
IsConflictOn state index left None found = ⊥
IsConflictOn state index left (Some way) found =
    IsConflict state index way.to (left + way.gives) found
