-- Which places of a function are reached with how many values, over all ways through its code. This
-- project's own.
use Rattle.std.specs.Prelude.{◌≡◌, ℕ, ◌+◌, ◌-◌, ◌<◌, ◌≤◌, ◌⊎◌, List, [], ◌∷◌, length, Some, Ok}
use Rattle.wap_unit.specs.declared.unit.Unit.{Unit}
use Rattle.wap_unit.specs.declared.unit.Code.{Code}
use Rattle.wap_verify.specs.declared.step.Step.{Step}
use Rattle.wap_verify.specs.declared.step.Way.{Way}
use Rattle.wap_verify.specs.CodePlaces.{way_on, step_at}

-- a place of the code and a number of values
abbrev pub Stand : Type 0
Stand = ℕ × ℕ

-- it goes on this way: to what stands after it, or to the target of its jump
abbrev pub HasWay : Step → Way → Type 0
HasWay step way = (way_on step ≡ Some way) ⊎ (step.jump ≡ Some way)

-- one step leads from here to there: no more values are taken than there are
pub record Leads (unit : Unit) (index : ℕ) (function : Code) (here there : Stand) : Type 0 where
  pub within : here.0 < length function.code
  pub step : Step
  pub stands : step_at unit index function here.0 ≡ Ok step
  pub enough : step.takes ≤ here.1
  pub way : Way
  pub has : HasWay step way
  pub to : there.0 ≡ way.to
  pub values : there.1 ≡ here.1 - step.takes + way.gives

-- from the beginning with no values, step by step, the last place first in the list
abbrev pub IsPath : Unit → ℕ → Code → List Stand → Type 0
IsPath unit index function [] = ⊥
IsPath unit index function (stand ∷ []) = (stand.0 ≡ 0) × (stand.1 ≡ 0)
IsPath unit index function (there ∷ here ∷ before) =
    Leads unit index function here there × IsPath unit index function (here ∷ before)

-- some path ends at this place with so many values
pub record Reaches (unit : Unit) (index : ℕ) (function : Code) (at values : ℕ) : Type 0 where
  pub before : List Stand
  pub path : IsPath unit index function ((at, values) ∷ before)
