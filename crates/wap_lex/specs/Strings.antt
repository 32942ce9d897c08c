-- Strings (WAP-193, section 6.1.5.3).
use Rattle.std.specs.Prelude.{◌≡◌, ℕ, Bool, true, false, ◌||◌, ◌&&◌, ◌==◌, List, [], ◌∷◌, ◌++◌}
use Rattle.std.specs.Char.{is_ascii_hexdigit}
use Rattle.std.specs.Int.{is_in_range}
use Rattle.std.specs.List.{list_all}
use Rattle.wap_base.specs.Ascii.{slash, digit_eight, digit_nine, capital_a, capital_d, capital_f}
use Rattle.wap_base.specs.Ascii.{backslash, small_a, small_b, small_d, small_f, small_n, small_r}
use Rattle.wap_base.specs.Ascii.{small_t, small_u, small_x}
use Rattle.wap_lex.specs.Characters.{is_octal_digit, is_line_end, is_quote}

-- ' " \ / b f n r t
abbrev pub is_simple : ℕ → Bool
is_simple c =
    is_quote c
    || ((c == backslash)
    || ((c == slash)
    || ((c == small_b)
    || ((c == small_f) || ((c == small_n) || ((c == small_r) || (c == small_t)))))))

-- the first two of four hexadecimal digits are those of a surrogate, D8 to DF. That \uD800 to
-- \uDFFF are no escapes is this project's own.
abbrev pub is_surrogate : ℕ → ℕ → Bool
is_surrogate a b =
    ((a == capital_d) || (a == small_d))
    && (is_in_range digit_eight digit_nine b
    || (is_in_range capital_a capital_f b || is_in_range small_a small_f b))

-- what stands after a backslash. An octal escape may go on for two digits, which would stand there
-- without it too.
pub data IsEscape : List ℕ → Type 0 where
  simple : (c : ℕ) → is_simple c ≡ true → IsEscape (c ∷ [])
  octal : (c : ℕ) → is_octal_digit c ≡ true → IsEscape (c ∷ [])
  hexadecimal : (a b : ℕ) → list_all is_ascii_hexdigit (a ∷ b ∷ []) ≡ true →
      IsEscape (small_x ∷ a ∷ b ∷ [])
  unicode : (a b c d : ℕ) → list_all is_ascii_hexdigit (a ∷ b ∷ c ∷ d ∷ []) ≡ true →
      is_surrogate a b ≡ false →
      IsEscape (small_u ∷ a ∷ b ∷ c ∷ d ∷ [])

-- an escape, or a byte of a character other than the quote, the backslash and the ends of lines
pub data IsItem (quote : ℕ) : List ℕ → Type 0 where
  escape : (text : List ℕ) → IsEscape text → IsItem quote (backslash ∷ text)
  plain : (c : ℕ) → (c == backslash) ≡ false → ((c == quote) || is_line_end c) ≡ false →
      IsItem quote (c ∷ [])

-- what stands between the quotes
pub data AreItems (quote : ℕ) : List ℕ → Type 0 where
  none : AreItems quote []
  more : (item others : List ℕ) → IsItem quote item → AreItems quote others →
      AreItems quote (item ++ others)

-- items between two quotes of one kind
pub data IsString : List ℕ → Type 0 where
  quoted : (quote : ℕ) (items : List ℕ) → is_quote quote ≡ true → AreItems quote items →
      IsString (quote ∷ (items ++ quote ∷ []))
