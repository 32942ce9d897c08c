-- Strings in place and in the string table (WAP-192, sections 5.7 and 5.8.4.1). That a string of
-- the table may end with the table, without a 0, is this project's own.
use Rattle.std.specs.Prelude.{◌≡◌, ℕ, ◌<◌, Bool, true, not, ◌==◌, List, []}
use Rattle.std.specs.Prelude.{◌∷◌, ◌++◌, length, drop, take_while}
use Rattle.std.specs.List.{list_all}
use Rattle.wap_base.specs.Numbers.{IsMb}
use Rattle.wap_base.specs.declared.charset.Charset.{Charset}
use Rattle.wap_tokens.specs.markup.Charsets.{IsText}

-- what a document says of all of its strings
pub record Strings : Type 0 where
  pub charset : Charset
  pub table : List ℕ

-- whether a byte is another one than 0, which ends strings
abbrev pub is_not_zero : ℕ → Bool
is_not_zero byte = not (byte == 0)

-- a string of the table: from an index up to a 0, or to the end of the table
abbrev pub string_from : List ℕ → ℕ → List ℕ
string_from table index = take_while is_not_zero (drop index table)

-- a string in place: its bytes, and a 0 after them
pub record IsInline (strings : Strings) (bytes text : List ℕ) : Type 0 where
  pub string : List ℕ
  pub spelled : bytes ≡ string ++ (0 ∷ [])
  pub no_zero : list_all is_not_zero string ≡ true
  pub text_is : IsText strings.charset string text

-- an index of the table, for the string there
pub record IsIndexed (strings : Strings) (bytes text : List ℕ) : Type 0 where
  pub index : ℕ
  pub number : IsMb bytes index
  pub within : index < length strings.table
  pub text_is : IsText strings.charset (string_from strings.table index) text
