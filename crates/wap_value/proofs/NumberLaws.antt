-- What std's reading of a number gives of a text's UTF-8 is the Integer that the text spells.
use Rattle.std.proofs.Common.{◌≡◌, ◌≢◌, ℕ, ◌<◌, ◌≤◌, ℤ, pos, neg_ℤ, List, [], ◌∷◌, ◌++◌, length}
use Rattle.std.proofs.Common.{get_or, Option, Some, None, Result, Ok, Err, true, false, refl, sym}
use Rattle.std.proofs.Common.{ap, ◌∙◌, subst, inl, inr, arith, length-append}
use Rattle.std.specs.Prelude.{encode_utf8_all, nat_le, ◌==◌, option_and_then, FitsSigned}
use Rattle.std.specs.Char.{encode_utf8, digit_value, is_ascii_digit}
use Rattle.std.specs.Int.{w32, IsInRange}
use Rattle.std.specs.Option.{option_map}
use Rattle.std.specs.Result.{result_ok, OkIff}
use Rattle.std.specs.Str.{all_ascii_digits}
use Rattle.std.specs.Str.Parse.{AllDigits, IsNumeral, digits_value, ParsesSigned}
use Rattle.std.proofs.lemmas.Bool.{true≢false, cond-true, cond-false, cases_lt, cases_eq}
use Rattle.std.proofs.lemmas.Bool.{ne_eqb, cases_Bool, and_parts, leb-true, and_from}
use Rattle.std.proofs.lemmas.Bool.{le-leb, and_left, and_right}
use Rattle.std.proofs.lemmas.Bool.Decides.{nat_tests}
use Rattle.std.proofs.lemmas.Str.{encode_ascii, char_from_byte, length-encode}
use Rattle.std.proofs.lemmas.Str.{len_utf8_bounds, digit_value_digit}
use Rattle.std.proofs.lemmas.Str.Parse.{digit_from_value}
use Rattle.wap_value.specs.Integer.{in_range}
use Rattle.wap_value.specs.Numeral.{unsigned_number, integer_of_text}
use Rattle.wap_value.proofs.Range.{fits_in_range, unfit_out_of_range}

-- an ASCII character is its byte
after_ascii : (c : ℕ) (cs : List ℕ) → c < 128 → encode_utf8_all (c ∷ cs) ≡ c ∷ encode_utf8_all cs
after_ascii c cs ascii = ap (λ (front : List ℕ). front ++ encode_utf8_all cs) (encode_ascii c ascii)

-- and any other character begins with a byte that is no ASCII
some_byte : (c : ℕ) (rest bs : List ℕ) → bs ≡ encode_utf8 c ++ rest → 0 < length bs
some_byte c rest bs is = omega (
  arith,
  ap length is,
  length-append (encode_utf8 c) rest,
  length-encode c,
  (len_utf8_bounds c).0,
)

high_byte : (c : ℕ) (rest bs : List ℕ) → 128 ≤ c → bs ≡ encode_utf8 c ++ rest → 128 ≤ get_or bs 0 0
high_byte c rest bs high is = elim (cases_lt (get_or bs 0 0) 128) [
  | inl low ↦
      let same : c ≡ get_or bs 0 0 = char_from_byte bs rest c is low (some_byte c rest bs is) in
      omega arith
  | inr enough ↦ enough
]

no_digits : (c : ℕ) (rest bs : List ℕ) → 128 ≤ c → bs ≡ encode_utf8 c ++ rest → ¬ (AllDigits 10 bs)
no_digits c rest [] high is digits =
    let some : 0 < length (let none : List ℕ = [] in none) = some_byte c rest [] is in
    omega (arith, some)
no_digits c rest (b ∷ bs) high is digits =
    let low : IsInRange 48 57 b = digit_from_value b digits.0 in
    let large : 128 ≤ b = high_byte c rest (b ∷ bs) high is in
    omega arith

-- a digit by its value
digit_below : (c : ℕ) → is_ascii_digit c ≡ true → digit_value c < 10
digit_below c digit =
    let bounds : (nat_le 48 c ≡ true) × (nat_le c 57 ≡ true) =
    and_parts (nat_le 48 c) (nat_le c 57) digit in
    let range : IsInRange 48 57 c = (leb-true 48 c bounds.0, leb-true c 57 bounds.1) in
    omega (arith, digit_value_digit c range)

below_digit : (c : ℕ) → digit_value c < 10 → is_ascii_digit c ≡ true
below_digit c below =
    let range : IsInRange 48 57 c = digit_from_value c below in
    and_from (nat_le 48 c) (nat_le c 57) (le-leb 48 c range.0) (le-leb c 57 range.1)

-- the bytes of a text are digits where its characters are, and then they are the characters
data DigitsOrNone (bytes cs : List ℕ) : Type 0 where
  digits : all_ascii_digits cs ≡ true → AllDigits 10 bytes → bytes ≡ cs → DigitsOrNone bytes cs
  none : all_ascii_digits cs ≡ false → ¬ (AllDigits 10 bytes) → DigitsOrNone bytes cs

one_more : (c : ℕ) (bytes cs : List ℕ) → DigitsOrNone bytes cs → DigitsOrNone (c ∷ bytes) (c ∷ cs)
one_more c bytes cs rest = elim (cases_Bool (is_ascii_digit c)) [
  | inl digit ↦ elim rest [
    | digits tested all same ↦
        digits (and_from (is_ascii_digit c) (all_ascii_digits cs) digit tested)
        (digit_below c digit, all) (ap (λ (tail : List ℕ). c ∷ tail) same)
    | none tested not_all ↦
        none (and_right (is_ascii_digit c) (all_ascii_digits cs) tested) (λ all. not_all all.1)
  ]
  | inr other ↦
      none (and_left (is_ascii_digit c) (all_ascii_digits cs) other)
      (λ all. true≢false (sym (below_digit c all.0) ∙ other))
]

digits_or_none : (cs : List ℕ) → DigitsOrNone (encode_utf8_all cs) cs
digits_or_none [] = digits refl tt refl
digits_or_none (c ∷ cs) = elim (cases_lt c 128) [
  | inl ascii ↦
      subst (λ (bytes : List ℕ). DigitsOrNone bytes (c ∷ cs)) (sym (after_ascii c cs ascii))
      (one_more c (encode_utf8_all cs) cs (digits_or_none cs))
  | inr high ↦ none
      (and_left (is_ascii_digit c) (all_ascii_digits cs) (grind (arith, nat_tests)))
      (no_digits c (encode_utf8_all cs) (encode_utf8_all (c ∷ cs)) high refl)
]

-- the same of one digit or more
data NumeralOrNone (bytes cs : List ℕ) : Type 0 where
  numeral : IsNumeral 10 bytes → unsigned_number cs ≡ Some (digits_value 10 bytes)
      → NumeralOrNone bytes cs
  no_numeral : ¬ (IsNumeral 10 bytes) → unsigned_number cs ≡ None → NumeralOrNone bytes cs

numeral_or_none : (cs : List ℕ) → NumeralOrNone (encode_utf8_all cs) cs
numeral_or_none [] = no_numeral (λ h. let empty : 0 < 0 = h.0 in omega arith) refl
numeral_or_none (c ∷ cs) = elim (digits_or_none (c ∷ cs)) [
  | digits tested all same ↦
      numeral (some_byte c (encode_utf8_all cs) (encode_utf8_all (c ∷ cs)) refl, all)
      (cond-true (all_ascii_digits (c ∷ cs)) (Some (digits_value 10 (c ∷ cs))) None tested
      ∙ ap (λ (ds : List ℕ). Some (digits_value 10 ds)) (sym same))
  | none tested not_all ↦
      no_numeral (λ h. not_all h.1)
      (cond-false (all_ascii_digits (c ∷ cs)) (Some (digits_value 10 (c ∷ cs))) None tested)
]

-- digits under a sign
signed_is_read : {E : Type 0} (sign : ℕ → ℤ) (bytes cs : List ℕ) (r : Result ℤ E)
    → NumeralOrNone bytes cs
    → OkIff r (IsNumeral 10 bytes × FitsSigned w32 (sign (digits_value 10 bytes)))
    (sign (digits_value 10 bytes))
    → result_ok r ≡ option_and_then in_range (option_map sign (unsigned_number cs))
signed_is_read sign bytes cs (Ok z) (numeral is number) h =
    ap Some h.1 ∙ sym (fits_in_range (sign (digits_value 10 bytes)) h.0.1)
    ∙ ap (λ (n : Option ℕ). option_and_then in_range (option_map sign n)) (sym number)
signed_is_read sign bytes cs (Err e) (numeral is number) h =
    sym (unfit_out_of_range (sign (digits_value 10 bytes)) (λ fits. h (is, fits)))
    ∙ ap (λ (n : Option ℕ). option_and_then in_range (option_map sign n)) (sym number)
signed_is_read sign bytes cs (Ok z) (no_numeral not number) h = absurd (not h.0.0)
signed_is_read sign bytes cs (Err e) (no_numeral not number) h =
    ap (λ (n : Option ℕ). option_and_then in_range (option_map sign n)) (sym number)

-- digits without a sign
plain_is_read : {E : Type 0} (bytes cs : List ℕ) (r : Result ℤ E) → get_or bytes 0 0 ≢ 45
    → get_or bytes 0 0 ≢ 43 → NumeralOrNone bytes cs
    → ParsesSigned w32 10 bytes r
    → result_ok r ≡ option_and_then in_range (option_map pos (unsigned_number cs))
plain_is_read bytes cs r no_minus no_plus number h =
    let minus : (get_or bytes 0 0 == 45) ≡ false = ne_eqb (get_or bytes 0 0) 45 no_minus in
    let plus : (get_or bytes 0 0 == 43) ≡ false = ne_eqb (get_or bytes 0 0) 43 no_plus in
    signed_is_read pos bytes cs r number (rw (minus, plus) at h)

first_is_apart : (c : ℕ) (cs : List ℕ) (sign : ℕ) → sign < 128 → c ≢ sign
    → get_or (encode_utf8_all (c ∷ cs)) 0 0 ≢ sign
first_is_apart c cs sign ascii apart same = elim (cases_lt c 128) [
  | inl low ↦ apart (ap (λ (bytes : List ℕ). get_or bytes 0 0) (sym (after_ascii c cs low)) ∙ same)
  | inr high ↦
      let large : 128 ≤ get_or (encode_utf8_all (c ∷ cs)) 0 0 =
      high_byte c (encode_utf8_all cs) (encode_utf8_all (c ∷ cs)) high refl in
      omega arith
]

pub parsed_is_read : {E : Type 0} (cs : List ℕ) (r : Result ℤ E)
    → ParsesSigned w32 10 (encode_utf8_all cs) r → result_ok r ≡ integer_of_text cs
parsed_is_read [] r h = signed_is_read pos [] [] r (numeral_or_none []) h
parsed_is_read {E} (c ∷ cs) r h = elim (cases_eq c 45) [
  | inl minus ↦
      rw minus (signed_is_read (λ n. neg_ℤ (pos n)) (encode_utf8_all cs) cs r (numeral_or_none cs)
      (subst (λ (bytes : List ℕ). ParsesSigned {E = E} w32 10 bytes r)
      (ap (λ (d : ℕ). encode_utf8_all (d ∷ cs)) minus ∙ after_ascii 45 cs (omega arith)) h))
  | inr no_minus ↦ elim (cases_eq c 43) [
    | inl plus ↦ rw plus (signed_is_read pos (encode_utf8_all cs) cs r (numeral_or_none cs)
        (subst (λ (bytes : List ℕ). ParsesSigned {E = E} w32 10 bytes r)
        (ap (λ (d : ℕ). encode_utf8_all (d ∷ cs)) plus ∙ after_ascii 43 cs (omega arith)) h))
    | inr no_plus ↦
        let minus : (c == 45) ≡ false = ne_eqb c 45 no_minus in
        let plus : (c == 43) ≡ false = ne_eqb c 43 no_plus in
        rw (minus, plus) (plain_is_read (encode_utf8_all (c ∷ cs)) (c ∷ cs) r
        (first_is_apart c cs 45 (omega arith) no_minus)
        (first_is_apart c cs 43 (omega arith) no_plus) (numeral_or_none (c ∷ cs)) h)
  ]
]

-- the same of the bytes that a text is read from
pub spelled_is_read : {E : Type 0} (cs bytes : List ℕ) (r : Result ℤ E)
    → ParsesSigned w32 10 bytes r → bytes ≡ encode_utf8_all cs → result_ok r ≡ integer_of_text cs
spelled_is_read {E} cs bytes r h is =
    parsed_is_read cs r (subst (λ (bs : List ℕ). ParsesSigned {E = E} w32 10 bs r) is h)
