-- Parts of instructions. This carries proofs alone.
use Rattle.std.specs.Prelude.{⊤, ◌≡◌, ℕ, ◌+◌, ◌<◌, ◌≤◌, ◌^◌, Bool, if◌then◌else◌, List}
use Rattle.std.specs.Prelude.{◌∷◌, length, slice_index, Option, Some, None}
use Rattle.wap_value.specs.declared.value.Value.{Value}
use Rattle.wap_value.specs.declared.value.Value.TheVariants.{Int, Bool as Boolean, Invalid}
use Rattle.wap_value.specs.Conversion.{boolean_of}
use Rattle.wap_value.specs.Binary.{TakesBoth}
use Rattle.wap_unit.specs.declared.unit.Unit.{Unit}
use Rattle.wap_unit.specs.declared.unit.Constant.{Constant}
use Rattle.wap_unit.specs.declared.unit.Constant.TheVariants.{Int8, Int16, Int32, Float}
use Rattle.wap_unit.specs.declared.instr.Instr.{Instr}
use Rattle.wap_unit.specs.Instructions.{row_of}
use Rattle.wap_execution.specs.declared.action.Action.{Action}
use Rattle.wap_execution.specs.declared.action.Action.TheVariants.{CallLocal, CallLibrary}
use Rattle.wap_execution.specs.declared.action.Action.TheVariants.{CallExternal, AssignVariable}
use Rattle.wap_execution.specs.declared.action.Action.TheVariants.{Binary, Return, ReturnEmpty}
use Rattle.wap_execution.specs.declared.fatal.Fatal.TheVariants as fatal
use Rattle.wap_execution.specs.Frames.{Frame, code_of, constant_at}
use Rattle.wap_execution.specs.Effects.{Effect, onward, calls, backward, stored, with_arguments}
use Rattle.wap_execution.specs.Effects.{with_top, is_decided, pair_by, effect_read, effect_at}
use Rattle.wap_machine.specs.declared.next.Callee.{Callee}
use Rattle.wap_machine.specs.declared.next.Next.{Next}
use Rattle.wap_machine.specs.declared.next.Next.TheVariants as next
use Rattle.wap_machine.specs.declared.next.Course.{Course}
use Rattle.wap_machine.specs.declared.next.Course.TheVariants.{Onward, Back, TooLong}
use Rattle.wap_machine.specs.Seen.{called_of}
use Rattle.wap_machine.specs.Doing.{Does}

-- operands that have to be short are, and an operator of two values takes both
abbrev pub IsSmall : Action → Instr → Type 0
IsSmall CallLocal instr = instr.a < 256
IsSmall CallLibrary instr = (instr.a < 256) × (instr.b < 65536)
IsSmall CallExternal instr = instr.c < 256
IsSmall (AssignVariable op) instr = TakesBoth op
IsSmall (Binary op) instr = TakesBoth op
IsSmall _ instr = ⊤

-- it calls something or ends its function
abbrev pub Leaves : Action → Type 0
Leaves CallLocal = ⊤
Leaves CallLibrary = ⊤
Leaves CallExternal = ⊤
Leaves Return = ⊤
Leaves ReturnEmpty = ⊤
Leaves _ = ⊥

-- what stands where the frame goes on
pub record IsInstruction (frame : Frame) (action : Action) (instr : Instr) : Type 0 where
  pub effect : (string : ℕ) → effect_at string frame ≡ effect_read string frame action instr
  pub next : instr.next ≤ length (code_of frame.function)
  pub small_code : length (code_of frame.function) < 2 ^ 32
  pub small_a : instr.a < 65536
  pub small : IsSmall action instr

-- the value of a constant that is no string
abbrev pub number_of : Constant → Option Value
number_of (Int8 number) = Some (Int number)
number_of (Int16 number) = Some (Int number)
number_of (Int32 number) = Some (Int number)
number_of (Float bits) = Some Invalid
number_of _ = None

-- there is such a constant, and it has a value
pub record HasConstant (unit : Unit) (index : ℕ) : Type 0 where
  pub value : Value
  pub is : constant_at unit index ≡ Some value

-- ---- effects on a frame

abbrev pub going : ℕ → Frame → Effect
going place frame = onward place frame.variables frame.operands

abbrev pub giving : Value → ℕ → Frame → Effect
giving value place frame = onward place frame.variables (value ∷ frame.operands)

abbrev pub going_back : Instr → Frame → Effect
going_back instr frame = backward frame.place instr frame.variables frame.operands

abbrev pub storing : ℕ → Value → ℕ → Frame → Effect
storing index value place frame = stored index frame.variables value frame.operands place

abbrev pub calling : Callee → ℕ → ℕ → Frame → Effect
calling callee count place frame = with_arguments count frame.operands (λ arguments operands.
    calls (called_of callee) arguments place frame.variables operands)

-- the effect is what was done to the frame
abbrev pub IsDone : Frame → Effect → Frame → Next → Type 0
IsDone before effect after next = Does effect before.function after next

-- what is to be done by a course
abbrev pub next_of : Course → Next
next_of Onward = next.Onward
next_of Back = next.Back
next_of TooLong = next.End fatal.TooLong

-- the effect is what was done to the frame, which goes on by this course
abbrev pub Stays : Frame → Effect → Frame → Course → Type 0
Stays before effect after course = IsDone before effect after (next_of course)

-- ---- short-circuits

-- what one gives where it jumps
abbrev pub given_by : Bool → Option Bool → Option Value
given_by decides None = Some Invalid
given_by decides (Some truth) = if is_decided decides truth then Some (Boolean truth) else None

abbrev pub given : Bool → Value → Option Value
given decides value = given_by decides (boolean_of value)

-- it jumps with what it gives, or goes on
abbrev pub jumping : Instr → List Value → List Value → Option Value → Effect
jumping jump variables operands None = onward jump.next variables operands
jumping jump variables operands (Some value) =
    onward (jump.next + jump.a) variables (value ∷ operands)

-- what it does by the row of what stands after it
abbrev pub pair_behind : Bool → ℕ → Frame → Effect
pair_behind decides next frame =
    pair_by frame decides (code_of frame.function) next
    (row_of (slice_index (code_of frame.function) next))

-- what it does by the jump after it
abbrev pub pair_done : Bool → Instr → Frame → Effect
pair_done decides jump frame = with_top frame.operands (λ value operands.
    jumping jump frame.variables operands (given decides value))

-- the jump after it
pub record IsJump (frame : Frame) (decides : Bool) (next : ℕ) (jump : Instr) : Type 0 where
  pub effect : pair_behind decides next frame ≡ pair_done decides jump frame
  pub within : jump.next ≤ length (code_of frame.function)
  pub small : jump.a < 65536
