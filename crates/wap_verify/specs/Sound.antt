-- Units that may be run. This project's own.
use Rattle.std.specs.Prelude.{◌≡◌, ℕ, ◌<◌, ◌≤◌, Bool, true, false, not, ◌&&◌, ◌||◌, ◌==◌, List}
use Rattle.std.specs.Prelude.{[], ◌∷◌, length, find, Option, Some, None, slice_get, Result, Ok, Err}
use Rattle.std.specs.List.{list_any, list_all, flat_map}
use Rattle.wap_unit.specs.declared.unit.Unit.{Unit}
use Rattle.wap_unit.specs.declared.unit.Code.{Code}
use Rattle.wap_unit.specs.declared.unit.Pragma.{Pragma}
use Rattle.wap_unit.specs.declared.unit.Pragma.TheVariants.{Domain, Path, Property, Scheme}
use Rattle.wap_unit.specs.Strings.{is_string}
use Rattle.wap_verify.specs.declared.step.Step.{Step}
use Rattle.wap_verify.specs.declared.step.Way.{Way}
use Rattle.wap_verify.specs.declared.fault.VerifyFault.{VerifyFault}
use Rattle.wap_verify.specs.CodePlaces.{step_at}
use Rattle.wap_verify.specs.Paths.{Reaches}

-- from one place to another the code is instructions at these places, one after the other, each
-- with its operands in range
abbrev pub Runs : Unit → ℕ → Code → ℕ → List ℕ → ℕ → Type 0
Runs unit index function from [] to = from ≡ to
Runs unit index function from (place ∷ places) to =
    (place ≡ from) × (from < length function.code)
    × ((step : Step)
    × ((step_at unit index function from ≡ Ok step) × Runs unit index function step.next places to))

-- a jump leads to one of these places or to the end
abbrev pub leads_within : List ℕ → ℕ → Option Way → Bool
leads_within places end None = true
leads_within places end (Some way) = way.to == end || list_any (λ place. place == way.to) places

-- what was read is an instruction, and its jump, if it has one, leads to one of these places or to
-- the end
abbrev pub has_target : List ℕ → ℕ → Result Step VerifyFault → Bool
has_target places end (Ok step) = not step.strays && leads_within places end step.jump
has_target places end (Err fault) = false

-- the jump of the instruction at this place has its target among these places, or at the end
abbrev pub is_aimed : Unit → ℕ → Code → List ℕ → ℕ → Bool
is_aimed unit index function places at =
    has_target places (length function.code) (step_at unit index function at)

-- the code is whole instructions, and each jump has a target
pub record IsSplit (unit : Unit) (index : ℕ) (function : Code) : Type 0 where
  pub places : List ℕ
  pub runs : Runs unit index function 0 places (length function.code)
  pub aimed : list_all (is_aimed unit index function places) places ≡ true

-- every place before the end is reached with one number of values at most, and with as many as are
-- taken there
pub record IsSound (unit : Unit) (index : ℕ) (function : Code) : Type 0 where
  pub split : IsSplit unit index function
  pub one : (at some other : ℕ) → at < length function.code → Reaches unit index function at some
      → Reaches unit index function at other → some ≡ other
  pub enough : (at values : ℕ) (step : Step) → at < length function.code
      → Reaches unit index function at values → step_at unit index function at ≡ Ok step
      → step.takes ≤ values

-- the constants that a pragma names
abbrev pub indexes : Pragma → List ℕ
indexes (Domain text) = text ∷ []
indexes (Path text) = text ∷ []
indexes (Property name content) = name ∷ content ∷ []
indexes (Scheme name content scheme) = name ∷ content ∷ scheme ∷ []

-- the first index of a pragma that names no string
abbrev pub stray_pragma : Unit → Option ℕ
stray_pragma unit = find (λ index. not (is_string unit index)) (flat_map indexes unit.pragmas)

-- the functions before this index are sound
abbrev pub AreSound : Unit → ℕ → Type 0
AreSound unit count =
    (index : ℕ) (function : Code) → index < count → slice_get unit.functions index ≡ Some function
    → IsSound unit index function

-- the unit may be run
pub record IsVerified (unit : Unit) : Type 0 where
  pub pragmas : stray_pragma unit ≡ None
  pub functions : AreSound unit (length unit.functions)

-- room for as many values as a function has at most
pub record IsRoom (unit : Unit) (index : ℕ) (function : Code) (room : ℕ) : Type 0 where
  pub covers : (at values : ℕ) → Reaches unit index function at values → values ≤ room
  pub at : ℕ
  pub reached : Reaches unit index function at room
