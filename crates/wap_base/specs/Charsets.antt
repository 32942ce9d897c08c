-- Strings in a character set (the numbers are IANA's MIBenum): which sets are read, when bytes
-- spell a text in one, and which. This project's own: that these three sets are read and no other,
-- and that 0 is UTF-8.
use Rattle.std.specs.Prelude.{ℕ, Bool, true, nat_lt, ◌==◌, ◌||◌}
use Rattle.std.specs.Prelude.{if◌then◌else◌, List, Option, Some, None}
use Rattle.std.specs.List.{list_all}
use Rattle.std.specs.Str.{is_utf8, chars}
use Rattle.wap_base.specs.declared.charset.Charset.{Charset}
use Rattle.wap_base.specs.declared.charset.Charset.TheVariants.{Ascii, Latin1, Utf8}

-- 3 is US-ASCII, 4 is ISO-8859-1, 106 is UTF-8, and so is 0, which stands for none named
abbrev pub charset_of : ℕ → Option Charset
charset_of number =
    if number == 3 then Some Ascii
    else if number == 4 then Some Latin1
    else if number == 0 || number == 106 then Some Utf8
    else None

abbrev pub is_ascii : ℕ → Bool
is_ascii byte = nat_lt byte 128

abbrev pub is_text : Charset → List ℕ → Bool
is_text Ascii bytes = list_all is_ascii bytes
is_text Latin1 bytes = true
is_text Utf8 bytes = is_utf8 bytes

-- the characters of a text: one for each byte but in UTF-8
abbrev pub characters_of : Charset → List ℕ → List ℕ
characters_of Ascii bytes = bytes
characters_of Latin1 bytes = bytes
characters_of Utf8 bytes = chars bytes

-- the text that bytes spell, if they do
abbrev pub text_in : Charset → List ℕ → Option (List ℕ)
text_in set bytes = if is_text set bytes then Some (characters_of set bytes) else None
