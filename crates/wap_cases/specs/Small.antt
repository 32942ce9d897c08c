-- What a small host finds and answers. This project's own.
use Rattle.std.specs.Prelude.{ℕ, ◌+◌, ◌==◌, nat_le, List, Option, Some, None, Result, Ok, Err, not}
use Rattle.std.specs.Prelude.{if◌then◌else◌, bytes_eq, codes, encode_utf8_all, slice_get}
use Rattle.wap_value.specs.declared.value.Value.TheVariants.{Invalid}
use Rattle.wap_url.specs.declared.url.Url.{Url}
use Rattle.wap_unit.specs.declared.unit.Unit.{Unit}
use Rattle.wap_unit.specs.declared.unit.Code.{Code}
use Rattle.wap_verify.specs.Kept.{function_named}
use Rattle.wap_execution.specs.declared.fatal.Fatal.{Fatal as Why}
use Rattle.wap_execution.specs.declared.fatal.Fatal.TheVariants as why
use Rattle.wap_execution.specs.declared.found.Found.{Found}
use Rattle.wap_execution.specs.declared.found.Found.TheVariants.{Callee, Not}
use Rattle.wap_execution.specs.declared.library.HostOut.TheVariants.{Value}
use Rattle.wap_execution.specs.Outcomes.{Hosting}

-- the units of the URLs `first` and `second`, and how often the pages were asked
pub record Small : Type 0 where
  pub first : Unit
  pub second : Option Unit
  pub asked : ℕ

-- ---- functions of other units

-- the unit of a URL, if it is one of the two
abbrev pub unit_at : Unit → Option Unit → List ℕ → Option Unit
unit_at first second url =
    if bytes_eq (encode_utf8_all url) (codes "first") then Some first
    else if bytes_eq (encode_utf8_all url) (codes "second") then second
    else None

-- the function takes so many arguments, and one more may be at work
abbrev pub callable_as : ℕ → ℕ → ℕ → Option Code → Result ℕ Why
callable_as count working index None = Err why.NoFunction
callable_as count working index (Some code) =
    if not (code.args == count) then Err why.Arguments
    else if nat_le 255 working then Err why.Depth
    else Ok index

-- the function of an entry, if there is one
abbrev pub callable_at : Unit → ℕ → ℕ → Option ℕ → Result ℕ Why
callable_at unit count working None = Err why.NoFunction
callable_at unit count working (Some index) =
    callable_as count working index (slice_get unit.functions index)

-- the function of a name, or why it may not be called
abbrev pub callable : Unit → List ℕ → ℕ → ℕ → Result ℕ Why
callable unit name count working = callable_at unit count working (function_named unit name)

-- what was found in a unit; its URL is that of the caller
abbrev pub found_as : Unit → Url → Result ℕ Why → Found Unit
found_as unit base (Ok index) = Callee unit base index
found_as unit base (Err refused) = Not refused

-- what was found where there may be a unit
abbrev pub found_in : Option Unit → Url → List ℕ → ℕ → ℕ → Found Unit
found_in None base name count working = Not why.NoUnit
found_in (Some unit) base name count working = found_as unit base (callable unit name count working)

-- ---- the host

-- functions of the library WMLBrowser ask the pages, and those of the others give invalid
abbrev pub small : Hosting Small
small = record {
  external = λ state caller url name count working.
      (found_in (unit_at state.first state.second url) caller name count working, state);
  library = λ state base referer library function arguments.
      if library == 4 then (Value Invalid, record state { asked = state.asked + 1 })
      else (Value Invalid, state);
}
