-- What machines are promised by their hosts. This project's own.
use Rattle.std.specs.Prelude.{⊤, ◌≡◌, ◌≢◌, ℕ, ◌<◌, ◌≤◌, Option, Some, None, IfSome, slice_get}
use Rattle.wap_base.specs.declared.limits.TheConstants.{MOST_DEPTH}
use Rattle.wap_unit.specs.declared.unit.Unit.{Unit}
use Rattle.wap_unit.specs.declared.unit.Code.{Code}
use Rattle.wap_execution.specs.declared.fatal.Fatal.TheVariants.{Budget}
use Rattle.wap_execution.specs.declared.found.Found.{Found}
use Rattle.wap_execution.specs.declared.found.Found.TheVariants.{Callee, Not}
use Rattle.wap_execution.specs.declared.library.HostOut.{HostOut}
use Rattle.wap_execution.specs.declared.library.HostOut.TheVariants.{Fatal}

-- what was answered and the state after it are these
pub record Gives {A S : Type 0} (means : A × S) (answer : A) (after : S) : Type 0 where
  pub answers : answer ≡ means.0
  pub stays : after ≡ means.1

-- the function is there and takes so many arguments, and so few functions are at work that one more
-- may be
pub record CanBeCalled (unit : Unit) (index count depth : ℕ) : Type 0 where
  pub code : Code
  pub found : slice_get unit.functions index ≡ Some code
  pub as_many : code.args ≡ count
  pub few : depth < MOST_DEPTH

-- what a host finds can be called; where it says that there is nothing to call, it isn't because
-- turns ran out
abbrev pub IsCallable : ℕ → ℕ → Found Unit → Type 0
IsCallable count depth (Callee unit base index) = CanBeCalled unit index count depth
IsCallable count depth (Not why) = why ≢ Budget

-- what a library answers isn't an end because turns ran out
abbrev pub IsNoBudget : HostOut → Type 0
IsNoBudget (Fatal why) = why ≢ Budget
IsNoBudget _ = ⊤

-- a count is known, and no lower than this
abbrev pub AtMost : ℕ → Option ℕ → Type 0
AtMost count None = ⊥
AtMost count (Some more) = count ≤ more

-- a count that was known before is known after, and no lower
abbrev pub Grows : Option ℕ → Option ℕ → Type 0
Grows before after = IfSome before (λ count. AtMost count after)

-- after a call that failed the count is above the one that was known before, and not above what the
-- call would have left
abbrev pub Fetches : Option ℕ → ℕ → Option ℕ → Type 0
Fetches before count after = IfSome before (λ least. (least < count) × AtMost count after)
