-- The text that a string stands for, by reading it from the left. This project's own.
use Rattle.std.specs.Prelude.{ℕ, ◌-◌, nat_le, nat_lt, Bool, ◌==◌, ◌&&◌}
use Rattle.std.specs.Prelude.{if◌then◌else◌, List, [], ◌∷◌}
use Rattle.std.specs.Char.{is_ascii_hexdigit}
use Rattle.std.specs.Str.{chars}
use Rattle.wap_base.specs.Ascii.{digit_zero, backslash, small_u, small_x}
use Rattle.wap_lex.specs.Characters.{is_octal_digit}
use Rattle.wap_lex.specs.Numbers.{with_digit}
use Rattle.wap_grammar.specs.Strings.{named_by, inside_quotes}

-- octal digits go on up to 377, hexadecimal ones as far as they are counted
abbrev pub goes_on : ℕ → ℕ → ℕ → Bool
goes_on base value c =
    if base == 8 then is_octal_digit c && nat_le (with_digit 8 value c) 255 else
    is_ascii_hexdigit c

abbrev mutual
  -- what characters between quotes stand for
  pub unescaped : List ℕ → List ℕ
  unescaped [] = []
  unescaped (c ∷ rest) = if c == backslash then escaped rest else c ∷ unescaped rest

  -- the same after a backslash
  pub escaped : List ℕ → List ℕ
  escaped [] = []
  escaped (c ∷ rest) =
      if c == small_x then numbered 16 2 0 rest else if c == small_u then numbered 16 4 0 rest else
      if is_octal_digit c then numbered 8 2 (c - digit_zero) rest else
      named_by c ∷ unescaped rest

  -- the same inside an escape by a number: its base, how many digits may follow, and its value so
  -- far
  pub numbered : ℕ → ℕ → ℕ → List ℕ → List ℕ
  numbered base left value [] = value ∷ []
  numbered base left value (c ∷ rest) =
      if nat_lt 0 left && goes_on base value c then numbered base (left - 1)
      (with_digit base value c) rest else
      value ∷ (if c == backslash then escaped rest else c ∷ unescaped rest)

-- the text that a string stands for, from its bytes with their quotes
unfoldable pub string_of : List ℕ → List ℕ
string_of bytes = unescaped (chars (inside_quotes bytes))
