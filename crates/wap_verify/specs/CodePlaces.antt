-- What stands at a place of a function's code: one instruction, or a short-circuit and the jump
-- after it, with every operand in range; or the first fault there. This project's own rules over
-- the table of instructions.
use Rattle.std.specs.Prelude.{ℕ, ◌+◌, ◌-◌, Bool, true, false, ◌&&◌, nat_lt, is_some}
use Rattle.std.specs.Prelude.{if◌then◌else◌, List, length, slice_get, slice_index, Option}
use Rattle.std.specs.Prelude.{Some, None, unwrap_or, Result, Ok, Err}
use Rattle.std.specs.Option.{option_map_or}
use Rattle.wap_unit.specs.declared.unit.Unit.{Unit}
use Rattle.wap_unit.specs.declared.unit.Code.{Code}
use Rattle.wap_unit.specs.declared.instr.Instr.{Instr}
use Rattle.wap_unit.specs.declared.instr.InstrFault.{InstrFault}
use Rattle.wap_unit.specs.declared.row.Row.{Row}
use Rattle.wap_unit.specs.declared.row.Operands.{Operands}
use Rattle.wap_unit.specs.declared.row.Operands.TheVariants.{Plain, Variable, Constant}
use Rattle.wap_unit.specs.declared.row.Operands.TheVariants.{Function, Library, Address}
use Rattle.wap_unit.specs.declared.row.Takes.{Takes}
use Rattle.wap_unit.specs.declared.row.Takes.TheVariants.{Values, Arguments}
use Rattle.wap_unit.specs.declared.row.After.{After}
use Rattle.wap_unit.specs.declared.row.After.TheVariants.{On, Forward, Backward, ForwardOrOn}
use Rattle.wap_unit.specs.declared.row.After.TheVariants.{BackwardOrOn, Pair, Leave}
use Rattle.wap_unit.specs.Instructions.{row_of, read_row}
use Rattle.wap_unit.specs.Libraries.{lib_args}
use Rattle.wap_unit.specs.Strings.{is_string}
use Rattle.wap_verify.specs.declared.step.Step.{Step}
use Rattle.wap_verify.specs.declared.step.Way.{Way}
use Rattle.wap_verify.specs.declared.fault.VerifyFault.{VerifyFault}
use Rattle.wap_verify.specs.declared.fault.VerifyFault.TheVariants as fault

-- how many arguments a call hands over
abbrev pub arguments : Unit → Operands → Instr → ℕ
arguments unit Function instr =
    option_map_or (λ function. function.args) (slice_get unit.functions instr.a) 0
arguments unit Library instr = unwrap_or (lib_args instr.b instr.a) 0
arguments unit Address instr = instr.c
arguments unit _ instr = 0

-- how many values an instruction takes
abbrev pub values_taken : Unit → Takes → Operands → Instr → ℕ
values_taken unit (Values number) operands instr = number
values_taken unit Arguments operands instr = arguments unit operands instr

-- an operand of the instruction at this place names nothing
abbrev pub operand_fault : Unit → ℕ → Code → ℕ → Operands → Instr → Option VerifyFault
operand_fault unit index function at Plain instr = None
operand_fault unit index function at Variable instr =
    if nat_lt instr.a (function.args + function.locals) then None
    else Some (fault.Variable index at)
operand_fault unit index function at Constant instr =
    if nat_lt instr.a (length unit.constants) then None else Some (fault.Constant index at)
operand_fault unit index function at Function instr =
    if nat_lt instr.a (length unit.functions) then None else Some (fault.Function index at)
operand_fault unit index function at Library instr =
    if is_some (lib_args instr.b instr.a) then None else Some (fault.Library index at)
operand_fault unit index function at Address instr =
    if is_string unit instr.a && is_string unit instr.b then None
    else Some (fault.Constant index at)

-- a way to a place, on which so many values are given
abbrev pub way_to : ℕ → ℕ → Option Way
way_to to gives = Some (record { to = to; gives = gives })

-- a way to the place after it, where some number of values is given there
abbrev pub way_behind : ℕ → Option ℕ → Option Way
way_behind next None = None
way_behind next (Some gives) = way_to next gives

-- the way to what stands after it
abbrev pub way_on : Step → Option Way
way_on step = way_behind step.next step.on

-- the way to as many bytes after an instruction as its operand says
abbrev pub forward : Instr → ℕ → Option Way
forward instr gives = way_to (instr.next + instr.a) gives

-- the way to as many bytes before its place
abbrev pub backward : ℕ → Instr → ℕ → Option Way
backward at instr gives = way_to (at - instr.a) gives

-- so many values are taken; the next place, and how many are given on the way there, if it goes on;
-- its jump, and whether that leads to before the code
abbrev pub step_with : ℕ → ℕ → Option ℕ → Option Way → Bool → Step
step_with takes next on jump strays =
    record { takes = takes; next = next; on = on; jump = jump; strays = strays }

-- where it goes on after an instruction at a place that takes and gives so many values
abbrev pub step_of : After → ℕ → Instr → ℕ → ℕ → Step
step_of On at instr takes gives = step_with takes instr.next (Some gives) None false
step_of Forward at instr takes gives =
    step_with takes instr.next None (forward instr gives) false
step_of Backward at instr takes gives =
    step_with takes instr.next None (backward at instr gives) (nat_lt at instr.a)
step_of ForwardOrOn at instr takes gives =
    step_with takes instr.next (Some gives) (forward instr gives) false
step_of BackwardOrOn at instr takes gives =
    step_with takes instr.next (Some gives) (backward at instr gives) (nat_lt at instr.a)
step_of Pair at instr takes gives = step_with takes instr.next None None false
step_of Leave at instr takes gives = step_with takes instr.next None None false

-- a short-circuit and its jump are one: it goes on after the jump with none, or jumps with one
abbrev pub pair : ℕ → Instr → Step
pair takes jump = step_with takes jump.next (Some 0) (forward jump 1) false

-- it goes on, or jumps forward
abbrev pub is_conditional_forward : After → Bool
is_conditional_forward ForwardOrOn = true
is_conditional_forward _ = false

-- a short-circuit and the jump that was read after it
abbrev pub jump_read : ℕ → ℕ → ℕ → Result Instr InstrFault → Result Step VerifyFault
jump_read index next takes (Ok jump) = Ok (pair takes jump)
jump_read index next takes (Err short) = Err (fault.Operand index next)

-- a short-circuit and what has this row after it, which has to be a conditional jump forward
abbrev pub jump_by : ℕ → List ℕ → ℕ → ℕ → ℕ → Option Row → Result Step VerifyFault
jump_by index code at next takes None = Err (fault.LoneShort index at)
jump_by index code at next takes (Some row) =
    if is_conditional_forward row.after
    then jump_read index next takes (read_row row code next)
    else Err (fault.LoneShort index at)

-- a short-circuit at a place, and the jump that has to stand at the next
unfoldable pub pair_at : ℕ → List ℕ → ℕ → ℕ → ℕ → Result Step VerifyFault
pair_at index code at next takes =
    if nat_lt next (length code)
    then jump_by index code at next takes (row_of (slice_index code next))
    else Err (fault.LoneShort index at)

-- it is one with the jump after it
abbrev pub is_pair : After → Bool
is_pair Pair = true
is_pair _ = false

-- an instruction whose operands are in range
unfoldable pub fine_at : Unit → ℕ → Code → ℕ → Row → Instr → Result Step VerifyFault
fine_at unit index function at row instr =
    let takes = values_taken unit row.takes row.operands instr in
    if is_pair row.after then pair_at index function.code at instr.next takes
    else Ok (step_of row.after at instr takes row.gives)

-- an instruction whose operands were looked at, with the fault that was found in them
abbrev pub checked : Unit → ℕ → Code → ℕ → Row → Instr → Option VerifyFault
    → Result Step VerifyFault
checked unit index function at row instr (Some found) = Err found
checked unit index function at row instr None = fine_at unit index function at row instr

-- what was read of an instruction of this row
abbrev pub instr_read : Unit → ℕ → Code → ℕ → Row → Result Instr InstrFault
    → Result Step VerifyFault
instr_read unit index function at row (Ok instr) =
    checked unit index function at row instr
    (operand_fault unit index function at row.operands instr)
instr_read unit index function at row (Err short) = Err (fault.Operand index at)

-- what stands at a place whose byte is a code of this row
abbrev pub step_by : Unit → ℕ → Code → ℕ → Option Row → Result Step VerifyFault
step_by unit index function at None = Err (fault.Opcode index at)
step_by unit index function at (Some row) =
    instr_read unit index function at row (read_row row function.code at)

-- what stands at a place of the function with this index
unfoldable pub step_at : Unit → ℕ → Code → ℕ → Result Step VerifyFault
step_at unit index function at =
    step_by unit index function at (row_of (slice_index function.code at))
