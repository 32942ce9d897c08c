-- What is kept of a unit that may be run: room for the values of each function, and the texts of
-- its coded strings. This project's own.
use Rattle.std.specs.Prelude.{◌≡◌, ⊤, ℕ, ◌<◌, true, List, length, map}
use Rattle.std.specs.Prelude.{slice_get, slice_index, Option, Some, None}
use Rattle.std.specs.Map.{lookup}
use Rattle.std.specs.Option.{option_map}
use Rattle.wap_base.specs.Texts.{is_same_text}
use Rattle.wap_base.specs.declared.charset.Charset.{Charset}
use Rattle.wap_unit.specs.declared.unit.Unit.{Unit}
use Rattle.wap_unit.specs.declared.unit.Code.{Code}
use Rattle.wap_unit.specs.declared.unit.Constant.{Constant}
use Rattle.wap_unit.specs.declared.unit.Constant.TheVariants.{Coded}
use Rattle.wap_base.specs.Charsets.{charset_of, is_text, characters_of}
use Rattle.wap_unit.specs.Spelling.{HasSpelling}
use Rattle.wap_verify.specs.Sound.{IsRoom, AreSound, IsVerified}

-- an entry with its name first
abbrev pub by_name : ℕ × List ℕ → List ℕ × ℕ
by_name entry = (entry.1, entry.0)

-- the function of the first entry with a name
abbrev pub names_first : List (ℕ × List ℕ) → List ℕ → Option ℕ
names_first names name = lookup (λ other. is_same_text other name) (map by_name names)

-- the function that the unit gives this name
abbrev pub function_named : Unit → List ℕ → Option ℕ
function_named unit name = names_first unit.names name

-- the text of a coded string
abbrev pub coded_text : Option Charset → Constant → Option (List ℕ)
coded_text set (Coded bytes) = option_map (λ known. characters_of known bytes) set
coded_text set _ = None

-- the bytes of a coded string are a text of the character set, where that is one that is read
abbrev pub IsReadableText : Option Charset → List ℕ → Type 0
IsReadableText None bytes = ⊤
IsReadableText (Some set) bytes = is_text set bytes ≡ true

-- the bytes of a constant that is a coded string are a text
abbrev pub IsReadable : Option Charset → Constant → Type 0
IsReadable set (Coded bytes) = IsReadableText set bytes
IsReadable set _ = ⊤

-- the functions before this index are sound, and for each there is room
pub record AreRooms (unit : Unit) (count : ℕ) (rooms : List ℕ) : Type 0 where
  pub long : length rooms ≡ count
  pub sound : AreSound unit count
  pub each : (index : ℕ) (function : Code) → index < count
      → slice_get unit.functions index ≡ Some function
      → IsRoom unit index function (slice_index rooms index)

-- the unit may be run; its coded strings have these texts, and its functions these rooms
pub record IsKept (unit : Unit) (texts : List (Option (List ℕ))) (rooms : List ℕ) : Type 0 where
  pub spelled : HasSpelling unit
  pub verified : IsVerified unit
  pub rooms_are : AreRooms unit (length unit.functions) rooms
  pub texts_are : texts ≡ map (coded_text (charset_of unit.charset)) unit.constants
