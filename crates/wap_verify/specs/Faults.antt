-- Why a unit may not be run: the pragmas come first, then the functions in order, each in three
-- passes. This project's own.
use Rattle.std.specs.Prelude.{◌≡◌, ◌≢◌, ℕ, ◌<◌, true, false, List, length}
use Rattle.std.specs.Prelude.{Some, None, slice_get, Ok, Err}
use Rattle.std.specs.List.{list_all}
use Rattle.wap_unit.specs.declared.unit.Unit.{Unit}
use Rattle.wap_unit.specs.declared.unit.Code.{Code}
use Rattle.wap_verify.specs.declared.step.Step.{Step}
use Rattle.wap_verify.specs.declared.fault.VerifyFault.{VerifyFault}
use Rattle.wap_verify.specs.declared.fault.VerifyFault.TheVariants as fault
use Rattle.wap_verify.specs.CodePlaces.{step_at}
use Rattle.wap_verify.specs.Paths.{Reaches}
use Rattle.wap_verify.specs.Sound.{Runs, is_aimed, IsSplit, stray_pragma, AreSound}

-- the fault of a function in the first pass that finds one; of the third pass any place where it
-- finds one may be named
pub data IsFunctionFault (unit : Unit) (index : ℕ) (function : Code)
    (found : VerifyFault) : Type 0 where
  -- first: after whole instructions an item that is none, or an operand that names nothing
  item : (places : List ℕ) (at : ℕ) → Runs unit index function 0 places at
      → at < length function.code → step_at unit index function at ≡ Err found
      → IsFunctionFault unit index function found
  -- then: the first instruction whose jump has no target
  target : (places front : List ℕ) (at : ℕ)
      → Runs unit index function 0 places (length function.code)
      → Runs unit index function 0 front at → at < length function.code
      → list_all (is_aimed unit index function places) front ≡ true
      → is_aimed unit index function places at ≡ false
      → found ≡ fault.Target index at → IsFunctionFault unit index function found
  -- then: a place that is reached with too few values
  underflow : (at values : ℕ) (step : Step) → IsSplit unit index function
      → at < length function.code → Reaches unit index function at values
      → step_at unit index function at ≡ Ok step → values < step.takes
      → found ≡ fault.Underflow index at → IsFunctionFault unit index function found
  -- or one that is reached with two numbers of values
  depths : (at some other : ℕ) → IsSplit unit index function → at < length function.code
      → Reaches unit index function at some → Reaches unit index function at other → some ≢ other
      → found ≡ fault.Depths index at some other → IsFunctionFault unit index function found

-- the fault of the pragmas, or of the first function that isn't sound
pub data IsFault (unit : Unit) (found : VerifyFault) : Type 0 where
  pragma : (index : ℕ) → stray_pragma unit ≡ Some index → found ≡ fault.Pragma index
      → IsFault unit found
  function : (index : ℕ) (code : Code) → stray_pragma unit ≡ None
      → slice_get unit.functions index ≡ Some code
      → AreSound unit index → IsFunctionFault unit index code found → IsFault unit found
