-- Which results are too long to be kept: Strings of more bytes in UTF-8 than a limit. This
-- project's own.
use Rattle.std.specs.Prelude.{◌≡◌, ℕ, ◌<◌, nat_lt, Result, Ok, Err, if◌then◌else◌}
use Rattle.wap_value.specs.declared.value.Value.{Value}
use Rattle.wap_value.specs.declared.value.Value.TheVariants.{Str}
use Rattle.wap_value.specs.declared.fault.ValueFault.{ValueFault}
use Rattle.wap_value.specs.declared.fault.ValueFault.TheVariants.{TooLong}
use Rattle.wap_base.specs.Utf8.{utf8_len}

-- the value, or the fault with its number of bytes where it is a String past the limit
abbrev pub kept_within : ℕ → Value → Result Value ValueFault
kept_within limit (Str text) =
    if nat_lt limit (utf8_len text) then Err (TooLong (utf8_len text)) else Ok (Str text)
kept_within limit v = Ok v

-- v is a String of so many bytes, more than the limit
abbrev pub IsTooLong : ℕ → Value → ℕ → Type 0
IsTooLong limit (Str text) bytes = (utf8_len text ≡ bytes) × (limit < bytes)
IsTooLong limit _ bytes = ⊥
