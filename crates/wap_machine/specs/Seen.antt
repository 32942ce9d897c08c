-- The machine's types as the definitions see them. This project's own.
use Rattle.std.specs.Prelude.{ℕ, List, reverse, slice_set, Option}
use Rattle.wap_value.specs.declared.value.Value.{Value}
use Rattle.wap_url.specs.declared.url.Url.{Url}
use Rattle.wap_unit.specs.declared.unit.Unit.{Unit}
use Rattle.wap_execution.specs.Frames.{Function, Frame}
use Rattle.wap_execution.specs.Effects.{Called, local, library, external, Effect}
use Rattle.wap_execution.specs.Effects.{onward, back, calls, returns, ends}
use Rattle.wap_machine.specs.declared.script.Script.{Script}
use Rattle.wap_machine.specs.declared.next.Callee.{Callee}
use Rattle.wap_machine.specs.declared.next.Callee.TheVariants.{Local, Library, External}
use Rattle.wap_machine.specs.declared.next.Next.{Next}
use Rattle.wap_machine.specs.declared.next.Next.TheVariants.{Onward, Back, Call, Return, End}

-- a function of a unit, by its index
abbrev pub function_in : Unit → Url → Option Url → ℕ → Function
function_in unit base referer index = record {
  unit = unit;
  base = base;
  referer = referer;
  index = index;
}

-- the function of a script with this index
abbrev pub function_of : Script → ℕ → Function
function_of script index = function_in script.unit script.base script.referer index

-- a frame whose operands lie in a list with the topmost last
abbrev pub frame_of : Function → ℕ → List Value → List Value → Frame
frame_of function place variables items = record {
  function = function;
  place = place;
  variables = variables;
  operands = reverse items;
}

-- what is called, without the rows of the code
abbrev pub called_of : Callee → Called
called_of (Local index) = local index
called_of (Library number index) = library number index
called_of (External url name) = external url name

-- the frame at another place
abbrev pub moved : ℕ → Frame → Frame
moved place frame = record frame { place = place }

-- the frame with a value stored in a variable
abbrev pub with_variable : ℕ → Value → Frame → Frame
with_variable index value frame = record frame { variables = slice_set frame.variables index value }

-- the frame with other operands
abbrev pub with_operands : List Value → Frame → Frame
with_operands operands frame = record frame { operands = operands }

-- the effect of what was done to a frame, which is now this one
abbrev pub effect_after : Next → Frame → Effect
effect_after Onward frame = onward frame.place frame.variables frame.operands
effect_after Back frame = back frame.place frame.variables frame.operands
effect_after (Call callee arguments) frame =
    calls (called_of callee) arguments.items frame.place frame.variables frame.operands
effect_after (Return value) frame = returns value
effect_after (End why) frame = ends why
