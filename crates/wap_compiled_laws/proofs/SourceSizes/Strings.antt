-- A string's text has no more bytes than what stands between its quotes.
use Rattle.std.proofs.Common.{ℕ, ◌+◌, ◌<◌, ◌≤◌, true, ◌&&◌, nat_lt, List, [], ◌∷◌, length}
use Rattle.std.proofs.Common.{encode_utf8_all, ap, arith}
use Rattle.std.specs.Char.{len_utf8, is_ascii_hexdigit}
use Rattle.std.proofs.lemmas.Bool.{lt-ltb, and_parts}
use Rattle.std.proofs.lemmas.Str.{len_utf8_ascii, len_utf8_bounds}
use Rattle.std.proofs.lemmas.Grind.{common_steps}
use Rattle.wap_base.specs.Utf8.{utf8_len}
use Rattle.wap_base.proofs.Utf8Lengths.{length-encode_utf8_all, utf8_len-append, utf8_len-bounds}
use Rattle.wap_lex.specs.Numbers.{numeral}
use Rattle.wap_grammar.specs.Strings.{named_by, Escapes, single, octal, hexadecimal, unicode}
use Rattle.wap_grammar.specs.Strings.{StandFor, none, plain, escape, inside_quotes, StandsForText}
use Rattle.wap_grammar.proofs.Escapes.{parts, digit_small}

-- a character below 2^11 has two bytes, and one below 2^16 three
two_bytes : (c : ℕ) → c < 2048 → len_utf8 c ≤ 2
two_bytes c less = grind (arith, common_steps, len_utf8_ascii, nat_lt, lt-ltb)

three_bytes : (c : ℕ) → c < 65536 → len_utf8 c ≤ 3
three_bytes c less = grind (arith, common_steps, nat_lt, lt-ltb)

-- what a character names has no more bytes than it
named_bytes : (c : ℕ) → len_utf8 (named_by c) ≤ len_utf8 c
named_bytes c = grind (arith, common_steps, len_utf8_bounds)

-- an escape with its backslash has no fewer bytes than its character
escape_bytes : (spelling : List ℕ) (c : ℕ) → Escapes spelling c → len_utf8 c ≤ 1 + utf8_len spelling
escape_bytes spelling v (single c is) = omega (arith, named_bytes c)
escape_bytes spelling v (octal digits is) =
    let p = parts digits is in
    omega (
      arith,
      two_bytes (numeral 8 digits) (omega (arith, p.low)),
      utf8_len-bounds digits,
      p.some,
    )
escape_bytes spelling v (hexadecimal a b are) =
    let one = and_parts (is_ascii_hexdigit a) (is_ascii_hexdigit b && true) are in
    let two = and_parts (is_ascii_hexdigit b) true one.1 in
    omega (
      arith,
      two_bytes (numeral 16 (a ∷ b ∷ []))
          (omega (arith, digit_small a one.0, digit_small b two.0)),
      utf8_len-bounds (120 ∷ a ∷ b ∷ []),
    )
escape_bytes spelling v (unicode a b c d are apart) =
    let one = and_parts (is_ascii_hexdigit a)
    (is_ascii_hexdigit b && (is_ascii_hexdigit c && (is_ascii_hexdigit d && true))) are in
    let two = and_parts (is_ascii_hexdigit b)
    (is_ascii_hexdigit c && (is_ascii_hexdigit d && true)) one.1 in
    let three = and_parts (is_ascii_hexdigit c) (is_ascii_hexdigit d && true) two.1 in
    let four = and_parts (is_ascii_hexdigit d) true three.1 in
    let small : numeral 16 (a ∷ b ∷ c ∷ d ∷ []) < 65536 = omega (
      arith,
      digit_small a one.0,
      digit_small b two.0,
      digit_small c three.0,
      digit_small d four.0,
    ) in
    omega (
      arith,
      three_bytes (numeral 16 (a ∷ b ∷ c ∷ d ∷ [])) small,
      utf8_len-bounds (117 ∷ a ∷ b ∷ c ∷ d ∷ []),
    )

-- so have the characters that stand for a text
short : (cs text : List ℕ) → StandFor cs text → utf8_len text ≤ utf8_len cs
short cs text none = omega arith
short cs text (plain c rest after other stand) = omega (arith, short rest after stand)
short cs text (escape spelling rest after c is whole stand) =
    omega (
      arith,
      short rest after stand,
      escape_bytes spelling c is,
      utf8_len-append spelling rest,
      len_utf8_ascii 92 (omega arith),
    )

-- the text of a string, between its quotes
pub text_short : (bytes : List ℕ) {text : List ℕ} → StandsForText bytes text
    → length (encode_utf8_all text) ≤ length (inside_quotes bytes)
text_short bytes {text} is =
    omega (
      arith,
      length-encode_utf8_all text,
      short is.characters text is.stand,
      length-encode_utf8_all is.characters,
      ap length is.encoded,
    )
