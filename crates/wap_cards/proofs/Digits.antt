-- Decimal digits, as bytes and as characters.
use Rattle.std.proofs.Common.{◌≡◌, ℕ, ◌+◌, ◌*◌, ◌-◌, ◌^◌, ◌<◌, min, Bool, true}
use Rattle.std.proofs.Common.{false, cond, not, List, [], ◌∷◌, ◌++◌}
use Rattle.std.proofs.Common.{Some, None, refl, sym, ap, ◌∙◌, inl, inr, arith}
use Rattle.std.specs.Prelude.{encode_utf8_all, ◌&&◌, IsTrue, ◌↔◌}
use Rattle.std.specs.Option.{option_map}
use Rattle.std.specs.Char.{is_ascii_digit}
use Rattle.std.specs.List.{list_all}
use Rattle.std.specs.Str.Parse.{digits_value}
use Rattle.std.proofs.lemmas.Bool.{cases_lt, and_parts}
use Rattle.std.proofs.lemmas.Bool.Decides.{nat_tests}
use Rattle.std.proofs.lemmas.Str.{encode_ascii}
use Rattle.wap_base.proofs.NameLaws.{past-encode}
use Rattle.wap_base.proofs.DigitLaws.{digit_high}
use Rattle.wap_cardrules.specs.Values.{number_in, is_empty}

-- ---- bytes and characters

pub digits-encode : (cs : List ℕ)
    → list_all is_ascii_digit (encode_utf8_all cs) ≡ list_all is_ascii_digit cs
digits-encode [] = refl
digits-encode (c ∷ cs) = elim (cases_lt c 128) [
  | inl ascii ↦
      rw (encode_ascii c ascii) (ap (λ (b : Bool). is_ascii_digit c && b) (digits-encode cs))
  | inr past ↦
      let e = past-encode c past in
      rw (e.is, digit_high e.lead e.past, digit_high c past) refl
]

below : (c : ℕ) → is_ascii_digit c ≡ true → c < 128
below c digit = grind (arith, nat_tests)

digits-bytes : (cs : List ℕ) → list_all is_ascii_digit cs ≡ true → encode_utf8_all cs ≡ cs
digits-bytes [] all = refl
digits-bytes (c ∷ cs) all =
    let parts = and_parts (is_ascii_digit c) (list_all is_ascii_digit cs) all in
    ap (λ bytes. bytes ++ encode_utf8_all cs) (encode_ascii c (below c parts.0))
    ∙ ap (λ rest. c ∷ rest) (digits-bytes cs parts.1)

-- ---- numbers

pub none_empty : (text : List ℕ) → text ≡ [] → None ≡ option_map (min (2 ^ 64 - 1)) (number_in text)
none_empty text is = sym (ap (λ (text : List ℕ). option_map (min (2 ^ 64 - 1)) (number_in text)) is)

none_by : (b : Bool) (n : ℕ)
    → option_map (min (2 ^ 64 - 1)) (cond (b && false) (Some n) None) ≡ None
none_by true n = refl
none_by false n = refl

pub none_other : (bytes text : List ℕ) → bytes ≡ encode_utf8_all text
    → list_all is_ascii_digit bytes ≡ false → None ≡ option_map (min (2 ^ 64 - 1)) (number_in text)
none_other bytes text encoded other =
    let others : list_all is_ascii_digit text ≡ false =
    sym (digits-encode text) ∙ ap (list_all is_ascii_digit) (sym encoded) ∙ other in
    sym (ap (λ (b : Bool). option_map (min (2 ^ 64 - 1))
    (cond (not (is_empty text) && b) (Some (digits_value 10 text)) None)) others
    ∙ none_by (not (is_empty text)) (digits_value 10 text))

some_by : (text : List ℕ) (empty : Bool) → IsTrue empty ↔ (text ≡ []) → empty ≡ false
    → list_all is_ascii_digit text ≡ true → number_in text ≡ Some (digits_value 10 text)
some_by [] empty when isnt all = absurd (cc (when.1 refl, isnt))
some_by (c ∷ cs) empty when isnt all =
    let some : is_empty (c ∷ cs) ≡ false = grind (arith, nat_tests) in
    ap (λ (b : Bool).
    cond (not b && list_all is_ascii_digit (c ∷ cs)) (Some (digits_value 10 (c ∷ cs))) None) some
    ∙ ap (λ (b : Bool). cond b (Some (digits_value 10 (c ∷ cs))) None) all

pub some_number : (bytes text : List ℕ) (empty : Bool) (number : ℕ) → bytes ≡ encode_utf8_all text
    → IsTrue empty ↔ (text ≡ []) → empty ≡ false → list_all is_ascii_digit bytes ≡ true
    → number ≡ min (2 ^ 64 - 1) (digits_value 10 bytes)
    → Some number ≡ option_map (min (2 ^ 64 - 1)) (number_in text)
some_number bytes text empty number encoded when isnt all is =
    let digits : list_all is_ascii_digit text ≡ true =
    sym (digits-encode text) ∙ ap (list_all is_ascii_digit) (sym encoded) ∙ all in
    let same : bytes ≡ text = encoded ∙ digits-bytes text digits in
    ap Some (is ∙ ap (λ (ds : List ℕ). min (2 ^ 64 - 1) (digits_value 10 ds)) same)
    ∙ sym (ap (option_map (min (2 ^ 64 - 1))) (some_by text empty when isnt digits))

pub one_more : (number value digit : ℕ) → number ≡ min (2 ^ 64 - 1) value
    → min (min (number * 10) (2 ^ 64 - 1) + digit) (2 ^ 64 - 1)
    ≡ min (2 ^ 64 - 1) (value * 10 + digit)
one_more number value digit is = omega arith
