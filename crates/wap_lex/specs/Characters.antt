-- Classes of characters, which are ASCII and so bytes (WAP-193, sections 6.1.1 and 6.1.2).
use Rattle.std.specs.Prelude.{ℕ, Bool, ◌||◌, ◌==◌, not}
use Rattle.std.specs.Char.{is_ascii_digit, is_ascii_hexdigit}
use Rattle.std.specs.Int.{is_in_range}
use Rattle.wap_base.specs.Ascii.{tab, line_feed, carriage_return, space, quotation_mark, apostrophe}
use Rattle.wap_base.specs.Ascii.{digit_zero, digit_seven}
use Rattle.wap_base.specs.Names.{continues_name}
use Rattle.wap_lex.specs.declared.class.Class.{Class}
use Rattle.wap_lex.specs.declared.class.Class.TheVariants.{InWord, Digit, OctalDigit}
use Rattle.wap_lex.specs.declared.class.Class.TheVariants.{HexadecimalDigit, White, InLine}

-- 0 to 7
abbrev pub is_octal_digit : ℕ → Bool
is_octal_digit = is_in_range digit_zero digit_seven

-- line feed and carriage return
abbrev pub is_line_end : ℕ → Bool
is_line_end c = (c == line_feed) || (c == carriage_return)

-- space, tab, line feed, vertical tab, form feed and carriage return
abbrev pub is_white : ℕ → Bool
is_white c = (c == space) || is_in_range tab carriage_return c

-- ' and "
abbrev pub is_quote : ℕ → Bool
is_quote c = (c == apostrophe) || (c == quotation_mark)

-- whether a byte is of a class
abbrev pub is_in : Class → ℕ → Bool
is_in InWord = continues_name
is_in Digit = is_ascii_digit
is_in OctalDigit = is_octal_digit
is_in HexadecimalDigit = is_ascii_hexdigit
is_in White = is_white
is_in InLine = λ c. not (is_line_end c)
