-- What a verified unit means for who runs it: wherever a function is reached, what its instruction
-- needs is there. This project's own.
use Rattle.std.specs.Prelude.{◌≡◌, ℕ, ◌<◌, ◌≤◌, false, length, slice_get}
use Rattle.std.specs.Prelude.{slice_index, Some, None, Ok}
use Rattle.wap_unit.specs.declared.unit.Unit.{Unit}
use Rattle.wap_unit.specs.declared.unit.Code.{Code}
use Rattle.wap_unit.specs.declared.row.Row.{Row}
use Rattle.wap_unit.specs.declared.instr.Instr.{Instr}
use Rattle.wap_unit.specs.Instructions.{row_of, read_row}
use Rattle.wap_verify.specs.declared.step.Step.{Step}
use Rattle.wap_verify.specs.declared.step.Way.{Way}
use Rattle.wap_verify.specs.CodePlaces.{operand_fault, step_at}
use Rattle.wap_verify.specs.Paths.{HasWay, Reaches}
use Rattle.wap_verify.specs.Sound.{IsVerified}

-- the instruction at a place that is reached with so many values
pub record IsReady (unit : Unit) (index : ℕ) (function : Code) (at values : ℕ) : Type 0 where
  -- it is one of the table, whole
  pub row : Row
  pub row_is : row_of (slice_index function.code at) ≡ Some row
  pub instr : Instr
  pub read : read_row row function.code at ≡ Ok instr
  -- each variable, constant, function and library that it names is there
  pub operands : operand_fault unit index function at row.operands instr ≡ None
  -- as many values as it takes are there, of a pair with the jump that belongs to it
  pub step : Step
  pub stands : step_at unit index function at ≡ Ok step
  pub enough : step.takes ≤ values
  -- wherever it goes on, there is an instruction or the end
  pub stays : step.strays ≡ false
  pub ways : (way : Way) → HasWay step way → way.to ≤ length function.code

-- wherever a function of a verified unit is reached before its end, the instruction there is ready
pub record NeverStuck : Type 0 where
  pub ready : (unit : Unit) (index : ℕ) (function : Code) (at values : ℕ) → IsVerified unit
      → slice_get unit.functions index ≡ Some function
      → Reaches unit index function at values → at < length function.code
      → IsReady unit index function at values
