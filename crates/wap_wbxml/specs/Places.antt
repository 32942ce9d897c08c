-- Places in the whole input, counted in bytes from its beginning, and what is tested there. This
-- project's own.
use Rattle.std.specs.Prelude.{ℕ, ◌-◌, ◌^◌, Bool, nat_lt, List, length, Option}
use Rattle.std.specs.Option.{option_map}
use Rattle.wap_base.specs.Charsets.{charset_of, text_in}
use Rattle.wap_base.specs.declared.charset.Charset.{Charset}
use Rattle.wap_tokens.specs.markup.Grammar.{State, counted, table_size}
use Rattle.wap_tokens.specs.markup.Strings.{Strings, string_from}
use Rattle.wap_wbxml.specs.declared.fault.DocFault.{DocFault}

-- how long the whole input is, and what it says of its strings
pub record Input : Type 0 where
  pub total : ℕ
  pub strings : Strings

-- where the first of the bytes that are left stands, and where the byte before them does
abbrev pub place : ℕ → List ℕ → ℕ
place total left = total - length left

-- the place of the byte before the bytes that are left
abbrev pub place_before : ℕ → List ℕ → ℕ
place_before total left = total - length left - 1

-- a fault at the byte before a place
abbrev pub just_before : (ℕ → DocFault) → ℕ → DocFault
just_before fault at = fault (at - 1)

-- whether an index is one of the string table
abbrev pub is_index : Strings → ℕ → Bool
is_index strings index = nat_lt index (length strings.table)

-- the text of the string there, if it is one
abbrev pub text_at : Strings → ℕ → Option (List ℕ)
text_at strings index = text_in strings.charset (string_from strings.table index)

-- whether the names of the root fit into one string table with this one
abbrev pub still_fit : State → List ℕ → Bool
still_fit state name = nat_lt (table_size (counted name state).names) (2 ^ 32)

-- a character set, with its number
abbrev pub charset_from : ℕ → Option (ℕ × Charset)
charset_from number = option_map (λ charset. (number, charset)) (charset_of number)

-- after a header with this character set, by number and as it is, and this string table
abbrev pub input_of : ℕ → ℕ × Charset → List ℕ → Input
input_of total charset table =
    record { total = total; strings = record { charset = charset.1; table = table } }
