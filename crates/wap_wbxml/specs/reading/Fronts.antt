-- Reading what an item begins with, numbers, strings and names. This project's own.
use Rattle.std.specs.Prelude.{ℕ, true, false, ◌==◌, if◌then◌else◌, List, []}
use Rattle.std.specs.Prelude.{◌∷◌, take, drop, Option, Some, None, Result, Ok, Err}
use Rattle.std.specs.List.{prefix_len}
use Rattle.wap_base.specs.Charsets.{text_in}
use Rattle.wap_base.specs.Outcome.{◌>>=◌}
use Rattle.wap_base.specs.formats.ByteReading as formats
use Rattle.wap_base.specs.formats.ByteReading.{Reader, in_turn, taken_at, passing, made_if}
use Rattle.wap_tokens.specs.declared.markup.codes.TheConstants.{SWITCH_PAGE}
use Rattle.wap_tokens.specs.declared.markup.mark.Lead.{Lead}
use Rattle.wap_tokens.specs.markup.Charsets.{is_character}
use Rattle.wap_tokens.specs.markup.Strings.{Strings, is_not_zero}
use Rattle.wap_tokens.specs.markup.Grammar.{State, counted}
use Rattle.wap_wbxml.specs.declared.fault.DocFault.{DocFault}
use Rattle.wap_wbxml.specs.declared.fault.DocFault.TheVariants as fault
use Rattle.wap_wbxml.specs.Places.{is_index, text_at, still_fit, place_before, just_before}
use Rattle.wap_wbxml.specs.reading.ByteReading.{Reading}

-- ---- the byte that an item begins with

-- after a switch of the page: the page, and the byte that it counts for
abbrev pub switched_in : List ℕ → Option (Lead × List ℕ)
switched_in [] = None
switched_in (page ∷ []) = None
switched_in (page ∷ byte ∷ rest) = Some (record { switched = true; page = page; byte = byte }, rest)

-- the byte that an item begins with, on this page or on one that a switch before it names; none
-- where too few bytes are left
abbrev pub lead_in : ℕ → List ℕ → Option (Lead × List ℕ)
lead_in page [] = None
lead_in page (byte ∷ rest) =
    if byte == SWITCH_PAGE then switched_in rest
    else Some (record { switched = false; page = page; byte = byte }, rest)

-- a value, or the fault that the input is too short
abbrev pub or_short : {A : Type 0} → ℕ → Option A → Result A DocFault
or_short total (Some x) = Ok x
or_short total None = Err (fault.Short total)

-- the byte that an item begins with, which has to be there
unfoldable pub lead_at : ℕ → ℕ → List ℕ → Reading Lead
lead_at total page bytes = or_short total (lead_in page bytes)

-- ---- numbers

-- a number of one to five bytes (WAP-192, section 5.1)
abbrev pub number_at : Reader DocFault ℕ
number_at = formats.number_at fault.Short fault.Number

-- a number, and so many bytes
unfoldable pub opaque_at : Reader DocFault (List ℕ)
opaque_at = in_turn number_at (taken_at fault.Short)

-- the number of a character, after the byte that calls for it
unfoldable pub character_at : Reader DocFault ℕ
character_at = passing is_character (just_before fault.Text) number_at

-- ---- texts

-- how many bytes stand before the first 0
abbrev pub zero_place : List ℕ → ℕ
zero_place = prefix_len is_not_zero

-- after the 0 at the end of a string, which has to be there
abbrev pub behind_zero : ℕ → List ℕ → Result (List ℕ) DocFault
behind_zero total [] = Err (fault.Short total)
behind_zero total (byte ∷ rest) = Ok rest

-- the bytes before a 0, which has to be there
abbrev pub string_at : Reader DocFault (List ℕ)
string_at total bytes =
    behind_zero total (drop (zero_place bytes) bytes) >>= λ rest.
    Ok (take (zero_place bytes) bytes, rest)

-- a string in place, after the byte that calls for it
unfoldable pub inline_at : Strings → Reader DocFault (List ℕ)
inline_at strings = made_if (text_in strings.charset) (just_before fault.Text) string_at

-- a string of the table, after the byte that calls for it
unfoldable pub indexed_at : Strings → Reader DocFault (List ℕ)
indexed_at strings =
    made_if (text_at strings) (just_before fault.Text)
    (passing (is_index strings) (just_before fault.Index) number_at)

-- ---- names of the string table

-- the state with one name more, where the names of the root fit into one string table with it
unfoldable pub counted_at : ℕ → State → List ℕ → Result State DocFault
counted_at at state name =
    if still_fit state name then Ok (counted name state) else Err (fault.Table at)

-- a name of the string table, which counts in the root, after the byte that calls for it
unfoldable pub name_at : Strings → State → Reader DocFault (List ℕ × State)
name_at strings state total bytes =
    indexed_at strings total bytes >>= λ name.
    counted_at (place_before total bytes) state name.0 >>= λ after.
    Ok ((name.0, after), name.1)
