-- What a call of a library comes to, where Strings have a limit in bytes of UTF-8. This project's
-- own.
use Rattle.std.specs.Prelude.{ℕ, ◌-◌, ◌^◌, min, nat_lt, if◌then◌else◌, List, Result, Ok, Err}
use Rattle.wap_base.specs.Utf8.{utf8_len}
use Rattle.wap_value.specs.declared.value.Value.{Value}
use Rattle.wap_value.specs.declared.value.Value.TheVariants.{Int, Bool as Boolean, Str, Invalid}
use Rattle.wap_libs.specs.declared.fault.LibFault.{LibFault}
use Rattle.wap_libs.specs.declared.fault.LibFault.TheVariants.{TooLong}
use Rattle.wap_libs.specs.declared.outcome.LibOut.{LibOut}
use Rattle.wap_libs.specs.declared.outcome.LibOut.TheVariants.{Value as Gives, Exit as Exits}
use Rattle.wap_libs.specs.declared.outcome.LibOut.TheVariants.{Abort as Aborts}
use Rattle.wap_libs.specs.Generator.{Generator}
use Rattle.wap_libs.specs.Row.{applied}
use Rattle.wap_libs.specs.Libraries.{row_at}

-- a number of bytes, as far as it is counted
abbrev pub counted : ℕ → ℕ
counted n = min n (2 ^ 64 - 1)

-- a value, or the fault with its number of bytes where it is a String past the limit
abbrev pub kept_within : ℕ → Value → Result Value LibFault
kept_within limit (Int z) = Ok (Int z)
kept_within limit (Boolean b) = Ok (Boolean b)
kept_within limit (Str s) =
    if nat_lt limit (utf8_len s) then Err (TooLong (counted (utf8_len s))) else Ok (Str s)
kept_within limit Invalid = Ok Invalid

-- a value that is given, or the fault
abbrev pub out_of : Result Value LibFault → Result LibOut LibFault
out_of (Ok v) = Ok (Gives v)
out_of (Err fault) = Err fault

-- a value that is given is kept within the limit; what ends a script is taken as it is
abbrev pub limited : ℕ → LibOut → Result LibOut LibFault
limited limit (Gives v) = out_of (kept_within limit v)
limited limit (Exits v) = Ok (Exits v)
limited limit (Aborts s) = Ok (Aborts s)

-- what a call comes to, by the numbers of library and function
abbrev pub outcome : ℕ → ℕ → ℕ → List Value → Generator → Result LibOut LibFault
outcome limit library number args g = limited limit (applied (row_at library number) args g).0

-- the generator after a call
abbrev pub generator_after : ℕ → ℕ → List Value → Generator → Generator
generator_after library number args g = (applied (row_at library number) args g).1
