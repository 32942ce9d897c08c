-- How many values each operation of compiled code takes and gives.
use Rattle.std.specs.Prelude.{ℕ}
use Rattle.std.specs.Option.{option_map_or}
use Rattle.wap_unit.specs.declared.unit.Unit.{Unit as CodeUnit}
use Rattle.wap_unit.specs.declared.row.OpName.{OpName}
use Rattle.wap_unit.specs.declared.row.After.{After}
use Rattle.wap_unit.specs.declared.row.After.TheVariants.{Pair, Leave}
use Rattle.wap_unit.specs.declared.row.Row.{Row}
use Rattle.wap_unit.specs.declared.instr.Instr.{Instr}
use Rattle.wap_asm.specs.Spellings.{longest}
use Rattle.wap_verify.specs.CodePlaces.{values_taken}

-- what an operation takes and gives, where it goes on, or takes where it leaves the function;
-- short-circuits aside
pub data Flow : Type 0 where
  goes : (takes gives : ℕ) → Flow
  leaves : (takes : ℕ) → Flow
  short : Flow

-- by where it goes on, and how many values are taken and given
abbrev pub flow_after : After → ℕ → ℕ → Flow
flow_after Leave takes gives = leaves takes
flow_after Pair takes gives = short
flow_after _ takes gives = goes takes gives

-- by the name of an operation, as its row has it
abbrev pub flow_by : CodeUnit → OpName → Instr → Flow
flow_by unit name instr =
    option_map_or (λ (row : Row).
    flow_after row.after (values_taken unit row.takes row.operands instr) row.gives)
    (longest name) short

-- by an instruction
abbrev pub flow_of : CodeUnit → Instr → Flow
flow_of unit instr = flow_by unit instr.name instr
