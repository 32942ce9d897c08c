-- What the operands of operations have to name, in a unit and a function with so many variables.
use Rattle.std.proofs.Common.{◌≡◌, ℕ, ◌<◌, List, length, Option, Some, option_and_then}
use Rattle.std.proofs.Common.{option_map, slice_get}
use Rattle.std.specs.Option.{option_map_or}
use Rattle.std.proofs.lemmas.Option.{slice_get_within}
use Rattle.wap_value.specs.declared.value.Value.{Value}
use Rattle.wap_unit.specs.declared.unit.Unit.{Unit as CodeUnit}
use Rattle.wap_unit.specs.declared.unit.Code.{Code}
use Rattle.wap_unit.specs.declared.row.OpName.{OpName}
use Rattle.wap_unit.specs.declared.row.Row.{Row}
use Rattle.wap_unit.specs.declared.row.Operands.{Operands}
use Rattle.wap_unit.specs.declared.row.Operands.TheVariants as operands
use Rattle.wap_unit.specs.declared.instr.Instr.{Instr}
use Rattle.wap_unit.specs.Libraries.{lib_args}
use Rattle.wap_unit.specs.Strings.{string_at}
use Rattle.wap_asm.specs.Spellings.{longest}
use Rattle.wap_execution.specs.Frames.{constant_of, constant_at}
use Rattle.std.proofs.Common.{arith}
use Rattle.std.proofs.lemmas.Grind.{common_steps}

-- what the operands of an operation name, as its row has it
abbrev pub kind_of : OpName → Operands
kind_of name = option_map_or (λ (row : Row). row.operands) (longest name) operands.Plain

-- what they name is there
abbrev pub AreThere : CodeUnit → ℕ → Operands → Instr → Type 0
AreThere unit count operands.Plain instr = Unit {0}
AreThere unit count operands.Variable instr = instr.a < count
AreThere unit count operands.Constant instr = instr.a < length unit.constants
AreThere unit count operands.Function instr = instr.a < length unit.functions
AreThere unit count operands.Library instr = (n : ℕ) × (lib_args instr.b instr.a ≡ Some n)
AreThere unit count operands.Address instr =
    ((url : List ℕ) × (string_at unit instr.a ≡ Some url))
    × ((name : List ℕ) × (string_at unit instr.b ≡ Some name))

-- what has something by its place in a list is within it
pub then_within : {X Y : Type 0} (f : X → Option Y) (xs : List X) {i : ℕ} {y : Y}
    → option_and_then f (slice_get xs i) ≡ Some y → i < length xs
then_within f xs {i} {y} is = grind (arith, common_steps, option_and_then, slice_get_within)

-- the same of what it is mapped to
pub mapped_within : {X Y : Type 0} (f : X → Y) (xs : List X) {i : ℕ} {y : Y}
    → option_map f (slice_get xs i) ≡ Some y → i < length xs
mapped_within f xs {i} {y} is = grind (arith, common_steps, slice_get_within)

-- a constant that has a value is there
pub constant_within : (unit : CodeUnit) {index : ℕ} {v : Value} → constant_at unit index ≡ Some v
    → index < length unit.constants
constant_within unit is = then_within (constant_of unit.charset) unit.constants is

-- a function that takes so many arguments is there
pub function_within : (unit : CodeUnit) (index count : ℕ)
    → option_map (λ (code : Code). code.args) (slice_get unit.functions index) ≡ Some count
    → index < length unit.functions
function_within unit index count is = mapped_within (λ (code : Code). code.args) unit.functions is
