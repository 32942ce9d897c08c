-- Small units that are run by the definitions, each with what it comes to: the definitions compute.
use Rattle.std.specs.Prelude.{◌≡◌, ℕ, ◌+◌, pos, false, List, [], ◌∷◌, None, refl}
use Rattle.wap_base.specs.Limits.{default_limits}
use Rattle.wap_value.specs.declared.value.Value.TheVariants.{Int, Bool as Boolean, Str, Invalid}
use Rattle.wap_url.specs.declared.url.Url.{Url}
use Rattle.wap_unit.specs.declared.unit.Unit.{Unit}
use Rattle.wap_unit.specs.declared.unit.Code.{Code}
use Rattle.wap_unit.specs.declared.unit.Constant.TheVariants.{Int8}
use Rattle.wap_unit.specs.Instructions.{row_of}
use Rattle.wap_unit.specs.Libraries.{lib_args}
use Rattle.wap_execution.specs.declared.dialog.Dialog.TheVariants.{Alert}
use Rattle.wap_execution.specs.declared.fatal.Fatal.TheVariants.{Budget, Depth, NoUnit}
use Rattle.wap_execution.specs.declared.found.Found.TheVariants.{Not}
use Rattle.wap_execution.specs.declared.library.HostOut.TheVariants as answer
use Rattle.wap_execution.specs.Frames.{Frame}
use Rattle.wap_execution.specs.Effects.{effect_of, effect_at}
use Rattle.wap_execution.specs.Outcomes.{value, fatal, waits, stuck, Ended, Hosting, Setting}
use Rattle.wap_execution.specs.Running.{forward_by, looping_by, goes, enter, resumed, finished}

here : Url
here = record { scheme = None; host = None; port = None; path = []; query = None; fragment = None }

unit_of : List Code → Unit
unit_of functions = record {
  version = 1;
  charset = 106;
  constants = Int8 (pos 7) ∷ [];
  pragmas = [];
  names = [];
  functions = functions;
}

-- a function without variables
code : List ℕ → Code
code bytes = record { args = 0; locals = 0; code = bytes }

-- every dialog alerts, and there are no other units
host : Hosting ℕ
host = record {
  external = λ state caller url name count working. (Not NoUnit, state);
  library = λ state base referer number function arguments. (answer.Asks (Alert []), state);
}

-- the state counts the instructions
counted : Setting ℕ
counted = record { limits = default_limits; host = host; tick = λ function count. count + 1 }

first : Unit → Frame
first unit = record {
  function = record { unit = unit; base = here; referer = None; index = 0 };
  place = 0;
  variables = [];
  operands = [];
}

ran : List Code → ℕ → Ended ℕ
ran functions turns = finished counted (first (unit_of functions) ∷ []) turns 0

-- a jump to the end
ends_empty : ran (code (0x80 ∷ []) ∷ []) 5
    ≡ record { outcome = value (Str []); turns = 5; state = 1 }
unfolding ran unit_of code first counted finished goes looping_by forward_by effect_at
    effect_of row_of resumed
ends_empty = refl

-- a jump to itself with four turns: the fifth instruction finds none
loops : ran (code (0xA0 ∷ []) ∷ []) 4 ≡ record { outcome = fatal Budget; turns = 0; state = 5 }
unfolding ran unit_of code first counted finished goes looping_by forward_by effect_at effect_of
    row_of
loops = refl

gives_seven : ran (code (0x50 ∷ 0x3A ∷ []) ∷ []) 0
    ≡ record { outcome = value (Int (pos 7)); turns = 0; state = 2 }
unfolding ran unit_of code first counted finished goes looping_by forward_by effect_at
    effect_of row_of resumed
gives_seven = refl

-- invalid && f(): f isn't called
short : ran (code (0x18 ∷ 0x34 ∷ 0xC1 ∷ 0x60 ∷ 0x3A ∷ []) ∷ []) 0
    ≡ record { outcome = value Invalid; turns = 0; state = 3 }
unfolding ran unit_of code first counted finished goes looping_by forward_by effect_at
    effect_of row_of resumed
short = refl

-- 0 || "": the second operand counts
second : ran (code (0x14 ∷ 0x35 ∷ 0xC2 ∷ 0x17 ∷ 0x36 ∷ 0x3A ∷ []) ∷ []) 0
    ≡ record { outcome = value (Boolean false); turns = 0; state = 5 }
unfolding ran unit_of code first counted finished goes looping_by forward_by effect_at
    effect_of row_of resumed
second = refl

-- a function that calls itself, and one that calls another and adds 1
deep : ran (code (0x60 ∷ 0x3A ∷ []) ∷ []) 100
    ≡ record { outcome = fatal Depth; turns = 36; state = 64 }
unfolding ran unit_of code first counted finished goes looping_by forward_by effect_at
    effect_of row_of enter
deep = refl

calls_other : ran (code (0x61 ∷ 0x1B ∷ 0x3A ∷ []) ∷ code (0x50 ∷ 0x3A ∷ []) ∷ []) 1
    ≡ record { outcome = value (Int (pos 8)); turns = 0; state = 5 }
unfolding ran unit_of code first counted finished goes looping_by forward_by effect_at effect_of
    row_of enter resumed
calls_other = refl

-- missing operands
underflow : ran (code (0x20 ∷ 0x3A ∷ []) ∷ []) 1 ≡ record { outcome = stuck; turns = 1; state = 1 }
unfolding ran unit_of code first counted finished goes looping_by forward_by effect_at effect_of
    row_of
underflow = refl

-- an alert in a called function: both frames wait, and go on with the answer
asking : List Code
asking = code (0x61 ∷ 0x3A ∷ []) ∷ code (0x17 ∷ 0x6A ∷ 0x05 ∷ 0x38 ∷ 0x3A ∷ []) ∷ []

waiting : List Frame
waiting = record (first (unit_of asking)) {
  function = record (first (unit_of asking)).function { index = 1 };
  place = 3;
} ∷ record (first (unit_of asking)) { place = 1 } ∷ []

asks : ran asking 2 ≡ record { outcome = waits (Alert []) waiting; turns = 0; state = 3 }
unfolding asking waiting ran unit_of code first counted host finished goes looping_by forward_by
    effect_at effect_of row_of lib_args enter
asks = refl

answered : resumed counted waiting (Str []) 0 3
    ≡ record { outcome = value (Int (pos 2)); turns = 0; state = 6 }
unfolding asking waiting unit_of code first counted host resumed goes looping_by forward_by
    effect_at effect_of row_of lib_args enter
answered = refl
