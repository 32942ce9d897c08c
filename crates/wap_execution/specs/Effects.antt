-- What one instruction does in its frame (WAP-193, section 10), a row for each action. It says
-- nothing of turns, and nothing of what a call comes to.
use Rattle.std.specs.Prelude.{ℕ, ◌+◌, ◌-◌, nat_lt, nat_le, Bool, true, false, not, List, [], ◌∷◌}
use Rattle.std.specs.Prelude.{length, take, drop, reverse, slice_get, slice_set, slice_index}
use Rattle.std.specs.Prelude.{if◌then◌else◌, Option, Some, None, Result, Ok, Err, option_map}
use Rattle.std.specs.Option.{option_map_or}
use Rattle.wap_value.specs.declared.value.Value.{Value}
use Rattle.wap_value.specs.declared.value.Value.TheVariants.{Int, Bool as Boolean, Str, Invalid}
use Rattle.wap_value.specs.declared.fault.ValueFault.{ValueFault}
use Rattle.wap_value.specs.Conversion.{boolean_of}
use Rattle.wap_value.specs.Unary.{unary_of}
use Rattle.wap_value.specs.Binary.{binary_of}
use Rattle.wap_value.specs.TooLong.{kept_within}
use Rattle.wap_unit.specs.declared.row.Row.{Row}
use Rattle.wap_unit.specs.declared.instr.Instr.{Instr}
use Rattle.wap_unit.specs.declared.instr.InstrFault.{InstrFault}
use Rattle.wap_unit.specs.Instructions.{row_of, read_row}
use Rattle.wap_unit.specs.Libraries.{lib_args}
use Rattle.wap_unit.specs.Strings.{string_at}
use Rattle.wap_execution.specs.declared.action.Action.{Action}
use Rattle.wap_execution.specs.declared.action.Action.TheVariants.{Jump, JumpBack, JumpUnless}
use Rattle.wap_execution.specs.declared.action.Action.TheVariants.{JumpBackUnless, ShortCircuit}
use Rattle.wap_execution.specs.declared.action.Action.TheVariants.{CallLocal, CallLibrary}
use Rattle.wap_execution.specs.declared.action.Action.TheVariants.{CallExternal, LoadVariable}
use Rattle.wap_execution.specs.declared.action.Action.TheVariants.{StoreVariable, ChangeVariable}
use Rattle.wap_execution.specs.declared.action.Action.TheVariants.{AssignVariable, LoadConstant}
use Rattle.wap_execution.specs.declared.action.Action.TheVariants.{GiveInteger, GiveBoolean}
use Rattle.wap_execution.specs.declared.action.Action.TheVariants.{GiveEmpty, GiveInvalid, Unary}
use Rattle.wap_execution.specs.declared.action.Action.TheVariants.{Binary, Pop, Return, ReturnEmpty}
use Rattle.wap_execution.specs.declared.action.Action.TheVariants.{Pass}
use Rattle.wap_execution.specs.declared.fatal.Fatal.{Fatal}
use Rattle.wap_execution.specs.declared.fatal.Fatal.TheVariants.{TooLong}
use Rattle.wap_execution.specs.Actions.{action_of}
use Rattle.wap_execution.specs.Frames.{Frame, code_of, constant_at}

-- what is called
pub data Called : Type 0 where
  local : ℕ → Called
  -- by the numbers of library and function
  library : ℕ → ℕ → Called
  -- by URL and name
  external : List ℕ → List ℕ → Called

-- where a place stands before the variables and the operands, the frame goes on there with these
pub data Effect : Type 0 where
  onward : ℕ → List Value → List Value → Effect
  back : ℕ → List Value → List Value → Effect
  -- it goes on when the call with these arguments has given a value
  calls : Called → List Value → ℕ → List Value → List Value → Effect
  -- the function ends with a value
  returns : Value → Effect
  -- the script ends
  ends : Fatal → Effect
  -- something that the instruction needs isn't there
  stuck : Effect

-- ---- what an instruction needs

-- by the operand on top, and those below it
abbrev pub with_top : List Value → (Value → List Value → Effect) → Effect
with_top [] next = stuck
with_top (value ∷ operands) next = next value operands

-- by a value that has to be there
abbrev pub with_value : Option Value → (Value → Effect) → Effect
with_value None next = stuck
with_value (Some value) next = next value

-- a String that is given must not be longer than the limit
abbrev pub with_kept : Result Value ValueFault → (Value → Effect) → Effect
with_kept (Err fault) next = ends TooLong
with_kept (Ok value) next = next value

-- by so many operands, the last of which is on top, and those below them
abbrev pub with_arguments : ℕ → List Value → (List Value → List Value → Effect) → Effect
with_arguments count operands next =
    if nat_le count (length operands)
    then next (reverse (take count operands)) (drop count operands)
    else stuck

-- by a number that has to be there
abbrev pub with_count : Option ℕ → (ℕ → Effect) → Effect
with_count None next = stuck
with_count (Some count) next = next count

-- by two texts, a URL and a name, that have to be there
abbrev pub with_texts : Option (List ℕ) → Option (List ℕ) → (List ℕ → List ℕ → Effect) → Effect
with_texts None name next = stuck
with_texts (Some url) None next = stuck
with_texts (Some url) (Some name) next = next url name

-- ---- the rows

-- back from the place where the jump begins
abbrev pub backward : ℕ → Instr → List Value → List Value → Effect
backward place instr variables operands =
    if nat_lt place instr.a then stuck else back (place - instr.a) variables operands

-- a condition that is false or invalid jumps
abbrev pub jumps_at : Value → Bool
jumps_at value = option_map_or not (boolean_of value) true

-- a value is stored in a variable that has to be there
abbrev pub stored : ℕ → List Value → Value → List Value → ℕ → Effect
stored index variables value operands next =
    if nat_lt index (length variables) then onward next (slice_set variables index value) operands
    else stuck

-- the effect of an action, with the limit of Strings, in this frame, from whose operands the
-- instruction hasn't taken anything yet
unfoldable pub effect_of : ℕ → Frame → Action → Instr → Effect
effect_of string frame Jump instr = onward (instr.next + instr.a) frame.variables frame.operands
effect_of string frame JumpBack instr = backward frame.place instr frame.variables frame.operands
effect_of string frame JumpUnless instr = with_top frame.operands (λ value operands.
    if jumps_at value then onward (instr.next + instr.a) frame.variables operands else
    onward instr.next frame.variables operands)
effect_of string frame JumpBackUnless instr = with_top frame.operands (λ value operands.
    if jumps_at value then backward frame.place instr frame.variables operands else
    onward instr.next frame.variables operands)
-- it is never by itself: see below
effect_of string frame (ShortCircuit decides) instr = stuck
effect_of string frame CallLocal instr =
    with_count (option_map (λ code. code.args) (slice_get frame.function.unit.functions instr.a))
    (λ count.
    with_arguments count frame.operands (λ arguments operands.
    calls (local instr.a) arguments instr.next frame.variables operands))
effect_of string frame CallLibrary instr = with_count (lib_args instr.b instr.a) (λ count.
    with_arguments count frame.operands (λ arguments operands.
    calls (library instr.b instr.a) arguments instr.next frame.variables operands))
effect_of string frame CallExternal instr =
    with_texts (string_at frame.function.unit instr.a) (string_at frame.function.unit instr.b)
    (λ url name.
    with_arguments instr.c frame.operands (λ arguments operands.
    calls (external url name) arguments instr.next frame.variables operands))
effect_of string frame LoadVariable instr = with_value (slice_get frame.variables instr.a) (λ value.
    onward instr.next frame.variables (value ∷ frame.operands))
effect_of string frame StoreVariable instr = with_top frame.operands (λ value operands.
    stored instr.a frame.variables value operands instr.next)
effect_of string frame (ChangeVariable op) instr =
    with_value (slice_get frame.variables instr.a) (λ old.
    stored instr.a frame.variables (unary_of op old) frame.operands instr.next)
effect_of string frame (AssignVariable op) instr =
    with_value (slice_get frame.variables instr.a) (λ old.
    with_top frame.operands (λ value operands.
    with_kept (kept_within string (binary_of op old value)) (λ new.
    stored instr.a frame.variables new operands instr.next)))
effect_of string frame LoadConstant instr =
    with_value (constant_at frame.function.unit instr.a) (λ value.
    with_kept (kept_within string value) (λ kept.
    onward instr.next frame.variables (kept ∷ frame.operands)))
effect_of string frame (GiveInteger number) instr =
    onward instr.next frame.variables (Int number ∷ frame.operands)
effect_of string frame (GiveBoolean truth) instr =
    onward instr.next frame.variables (Boolean truth ∷ frame.operands)
effect_of string frame GiveEmpty instr = onward instr.next frame.variables (Str [] ∷ frame.operands)
effect_of string frame GiveInvalid instr =
    onward instr.next frame.variables (Invalid ∷ frame.operands)
effect_of string frame (Unary op) instr = with_top frame.operands (λ value operands.
    onward instr.next frame.variables (unary_of op value ∷ operands))
effect_of string frame (Binary op) instr =
    with_top frame.operands (λ right rest. with_top rest (λ left operands.
    with_kept (kept_within string (binary_of op left right)) (λ value.
    onward instr.next frame.variables (value ∷ operands))))
effect_of string frame Pop instr =
    with_top frame.operands (λ value operands. onward instr.next frame.variables operands)
effect_of string frame Return instr = with_top frame.operands (λ value operands. returns value)
effect_of string frame ReturnEmpty instr = returns (Str [])
effect_of string frame Pass instr = onward instr.next frame.variables frame.operands

-- true decides `||`, and false `&&`
abbrev pub is_decided : Bool → Bool → Bool
is_decided true truth = truth
is_decided false truth = not truth

-- a short-circuit and the jump after it are one: where the value as Boolean decides, or is invalid,
-- it is given and jumped with, and else it is taken
abbrev pub decided : Option Bool → Bool → ℕ → ℕ → List Value → List Value → Effect
decided None decides target next variables operands = onward target variables (Invalid ∷ operands)
decided (Some truth) decides target next variables operands =
    if is_decided decides truth then onward target variables (Boolean truth ∷ operands)
    else onward next variables operands

-- a jump on a condition, forward
abbrev pub is_jump_unless : Action → Bool
is_jump_unless JumpUnless = true
is_jump_unless _ = false

-- the effect of a short-circuit, by the instruction that was read after it
abbrev pub pair_with : Frame → Bool → Action → Result Instr InstrFault → Effect
pair_with frame decides action (Err fault) = stuck
pair_with frame decides action (Ok jump) = if is_jump_unless action
    then with_top frame.operands (λ value operands.
    decided (boolean_of value) decides (jump.next + jump.a) jump.next frame.variables operands)
    else stuck

-- the same, by the row of the byte after the short-circuit
abbrev pub pair_by : Frame → Bool → List ℕ → ℕ → Option Row → Effect
pair_by frame decides code at None = stuck
pair_by frame decides code at (Some row) =
    pair_with frame decides (action_of row.operation) (read_row row code at)

-- of a short-circuit, with what stands after it; of any other by its row
abbrev pub effect_read : ℕ → Frame → Action → Instr → Effect
effect_read string frame (ShortCircuit decides) instr =
    pair_by frame decides (code_of frame.function) instr.next
    (row_of (slice_index (code_of frame.function) instr.next))
effect_read string frame action instr = effect_of string frame action instr

-- the effect of an action whose instruction was read
abbrev pub effect_with : ℕ → Frame → Action → Result Instr InstrFault → Effect
effect_with string frame action (Err fault) = stuck
effect_with string frame action (Ok instr) = effect_read string frame action instr

-- the effect of what begins with a byte of this row
abbrev pub effect_by : ℕ → Frame → Option Row → Effect
effect_by string frame None = stuck
effect_by string frame (Some row) =
    effect_with string frame (action_of row.operation)
    (read_row row (code_of frame.function) frame.place)

-- the effect of what stands where the frame goes on
unfoldable pub effect_at : ℕ → Frame → Effect
effect_at string frame =
    effect_by string frame (row_of (slice_index (code_of frame.function) frame.place))
