-- Which constants are strings, and their characters (WAP-193, section 9).
use Rattle.std.specs.Prelude.{ℕ, Bool, true, false, List, [], Option, Some}
use Rattle.std.specs.Prelude.{None, slice_get, option_and_then}
use Rattle.std.specs.Option.{option_map, option_map_or}
use Rattle.wap_unit.specs.declared.unit.Unit.{Unit}
use Rattle.wap_unit.specs.declared.unit.Constant.{Constant}
use Rattle.wap_unit.specs.declared.unit.Constant.TheVariants.{Utf8}
use Rattle.wap_unit.specs.declared.unit.Constant.TheVariants.{Empty, Coded}
use Rattle.wap_base.specs.Charsets.{charset_of, characters_of}

-- the characters of a string in a pool whose strings are in the character set of this number
abbrev pub string_of : ℕ → Constant → Option (List ℕ)
string_of charset (Utf8 text) = Some text
string_of charset Empty = Some []
string_of charset (Coded text) = option_map (λ set. characters_of set text) (charset_of charset)
string_of charset _ = None

-- the characters of the constant with this index
abbrev pub string_at : Unit → ℕ → Option (List ℕ)
string_at unit index = option_and_then (string_of unit.charset) (slice_get unit.constants index)

-- whether a constant is a string
abbrev pub holds_text : Constant → Bool
holds_text (Utf8 text) = true
holds_text Empty = true
holds_text (Coded text) = true
holds_text _ = false

-- whether there is such a constant, and it is a string
abbrev pub is_string : Unit → ℕ → Bool
is_string unit index = option_map_or holds_text (slice_get unit.constants index) false
