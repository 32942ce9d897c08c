-- Calls of a small host never lower what it tells of its pages. This carries proofs alone.
use Rattle.std.proofs.Common.{ℕ, ◌+◌, ◌≤◌, Bool, true, false, eqb, cond, List, Option, arith}
use Rattle.wap_value.specs.declared.value.Value.{Value as Given}
use Rattle.wap_value.specs.declared.value.Value.TheVariants.{Invalid}
use Rattle.wap_url.specs.declared.url.Url.{Url}
use Rattle.wap_execution.specs.declared.library.HostOut.{HostOut}
use Rattle.wap_execution.specs.declared.library.HostOut.TheVariants.{Value}
use Rattle.wap_cases.specs.Small.{Small, small}

-- a count is no lower than itself
pub still : (asked : ℕ) → asked ≤ asked
still asked = omega arith

-- and after two calls no lower than before the first
pub both : (one two three : ℕ) → one ≤ two → two ≤ three → one ≤ three
both one two three first second = omega arith

pub library_grows : (before : Small) (base : Url) (referer : Option Url) (library function : ℕ)
    (arguments : List Given)
    → before.asked ≤ (small.library before base referer library function arguments).1.asked
library_grows before base referer library function arguments =
    elim (eqb library 4) as (λ (b : Bool).
    before.asked ≤ (cond {A = HostOut × Small} b
    (Value Invalid, record before { asked = before.asked + 1 }) (Value Invalid, before)).1.asked) [
      | true ↦ omega arith
      | false ↦ omega arith
    ]
