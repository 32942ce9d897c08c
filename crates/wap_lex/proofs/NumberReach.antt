-- Numbers reach as far as their digits, points and exponents do.
use Rattle.std.proofs.Common.{◌≡◌, ℕ, suc, ◌+◌, ◌<◌, ◌≤◌, Bool, true, false, cond, eqb, List, []}
use Rattle.std.proofs.Common.{◌∷◌, ◌++◌, length, take, drop, ◌⊎◌, inl, inr, refl, sym, ap, subst}
use Rattle.std.proofs.Common.{◌∙◌, append_assoc, length-append, length-drop, arith}
use Rattle.std.specs.Prelude.{◌||◌, nat_lt}
use Rattle.std.specs.Char.{is_ascii_digit, is_ascii_hexdigit}
use Rattle.std.proofs.Math.Seq.{take-append-add, take-add}
use Rattle.std.specs.List.{list_all, prefix_len}
use Rattle.std.proofs.lemmas.Bool.{and_parts, cond-true, cond-false, eqb-true, eqb-false}
use Rattle.std.proofs.lemmas.Bool.{eq-eqb, ne_eqb, ltb-true, ltb-false, or_parts, or_from}
use Rattle.std.proofs.lemmas.Bool.Decides.{nat_tests}
use Rattle.std.proofs.lemmas.List.{drop_at, take-append-drop}
use Rattle.wap_lex.specs.Characters.{is_octal_digit}
use Rattle.wap_lex.specs.Numbers.{AreDigits, IsInteger, decimal, octal, hexadecimal}
use Rattle.wap_lex.specs.Numbers.{IsExponent, plain, signed, IsFloat, pointed, scaled}
use Rattle.wap_lex.specs.Numbers.{both, is_x, is_e, is_sign}
use Rattle.wap_lex.specs.Calculation.{more_by, hexadecimal_len, octal_or, integer_len, signed_len}
use Rattle.wap_lex.specs.Calculation.{exponent_len, fraction_len, scaled_len, float_behind}
use Rattle.wap_lex.specs.Calculation.{float_len}
use Rattle.wap_lex.proofs.Runs.{run_all, run_over, run_length, run_first, run_more, run_until}
use Rattle.std.proofs.lemmas.List.Sums.{prefix_len-le-length}
use Rattle.wap_lex.proofs.WordReach.{Reaches, test_within}

-- so many more, where there are some
pub more_some : (by len : ℕ) → 0 < len → more_by by len ≡ by + len
more_some by len some = cond-false (eqb len 0) 0 (by + len) (ne_eqb len 0 (λ none. omega arith))

pub more_none : (by len : ℕ) → len ≡ 0 → more_by by len ≡ 0
more_none by len none = cond-true (eqb len 0) 0 (by + len) (eq-eqb len 0 none)

-- some only where there are some
pub more_from : (by len : ℕ) → 0 < more_by by len → (0 < len) × (more_by by len ≡ by + len)
more_from by len some = by_test (eqb len 0) refl where
  by_test : (b : Bool) → eqb len 0 ≡ b → (0 < len) × (more_by by len ≡ by + len)
  by_test true e = absurd (omega (arith, more_none by len (eqb-true len 0 e)))
  by_test false e =
      let kept = cond-false (eqb len 0) 0 (by + len) e in
      (omega (arith, some, kept, eqb-false len 0 e), kept)

-- a test that decides between a length and none
pub kept_len : (b : Bool) (n : ℕ) → 0 < cond b n 0 → (b ≡ true) × (cond b n 0 ≡ n)
kept_len true n some = (refl, refl)
kept_len false n some = absurd (omega arith)

pub more_within : (by len limit : ℕ) → by + len ≤ limit → more_by by len ≤ limit
more_within by len limit far = test_within (eqb len 0) 0 (by + len) limit (omega arith) far

-- ---- integers

hexadecimal_takes : (bytes : List ℕ) → 0 < hexadecimal_len bytes
    → (x : ℕ) × (digits : List ℕ) × (is_x x ≡ true) × (0 < length digits)
    × (list_all is_ascii_hexdigit digits ≡ true)
    × (take (hexadecimal_len bytes) bytes ≡ x ∷ digits)
hexadecimal_takes [] some = absurd (omega arith)
hexadecimal_takes (x ∷ rest) some =
    let run = prefix_len is_ascii_hexdigit rest in
    let kept = kept_len (is_x x) (more_by 1 run) some in
    let from = more_from 1 run (subst (λ (n : ℕ). 0 < n) kept.1 some) in
    let len : hexadecimal_len (x ∷ rest) ≡ suc run = omega (arith, kept.1, from.1) in (
      x,
      take run rest,
      kept.0,
      omega (arith, run_length is_ascii_hexdigit rest, from.0),
      run_all is_ascii_hexdigit rest,
      ap (λ (n : ℕ). take n (x ∷ rest)) len,
    )

zero_takes : (rest : List ℕ) (b : Bool) → eqb (hexadecimal_len rest) 0 ≡ b
    → IsInteger (take (octal_or (hexadecimal_len rest) rest) (48 ∷ rest))
zero_takes rest true e =
    let run = prefix_len is_octal_digit rest in
    let len : octal_or (hexadecimal_len rest) rest ≡ suc run =
    cond-true (eqb (hexadecimal_len rest) 0) (1 + run) (1 + hexadecimal_len rest) e ∙ omega arith in
    subst (λ (n : ℕ). IsInteger (take n (48 ∷ rest))) (sym len)
    (octal (take run rest) (run_all is_octal_digit rest))
zero_takes rest false e =
    let len : octal_or (hexadecimal_len rest) rest ≡ suc (hexadecimal_len rest) =
    cond-false (eqb (hexadecimal_len rest) 0) (1 + prefix_len is_octal_digit rest)
    (1 + hexadecimal_len rest) e
    ∙ omega arith in
    let some : 0 < hexadecimal_len rest = omega (arith, eqb-false (hexadecimal_len rest) 0 e) in
    let found = hexadecimal_takes rest some in
    subst (λ (n : ℕ). IsInteger (take n (48 ∷ rest))) (sym len)
    (subst (λ (l : List ℕ). IsInteger (48 ∷ l)) (sym found.5)
    (hexadecimal found.0 found.1 found.2 found.3 found.4))

integer_first : (first : ℕ) (rest : List ℕ) (b : Bool) → eqb first 48 ≡ b
    → 0 < integer_len (first ∷ rest) → IsInteger (take (integer_len (first ∷ rest)) (first ∷ rest))
integer_first first rest true e some =
    subst (λ (c : ℕ). IsInteger (take (integer_len (c ∷ rest)) (c ∷ rest)))
    (sym (eqb-true first 48 e)) (zero_takes rest (eqb (hexadecimal_len rest) 0) refl)
integer_first first rest false e some =
    let kept =
    cond-false (eqb first 48) (octal_or (hexadecimal_len rest) rest)
    (prefix_len is_ascii_digit (first ∷ rest)) e in
    let digit = run_first is_ascii_digit first rest (subst (λ (n : ℕ). 0 < n) kept some) in
    let len = kept ∙ run_more is_ascii_digit first rest digit in
    subst (λ (n : ℕ). IsInteger (take n (first ∷ rest))) (sym len)
    (decimal first (take (prefix_len is_ascii_digit rest) rest) digit e
    (run_all is_ascii_digit rest))

integer_takes : (bytes : List ℕ) → 0 < integer_len bytes
    → IsInteger (take (integer_len bytes) bytes)
integer_takes [] some = absurd (omega arith)
integer_takes (first ∷ rest) some = integer_first first rest (eqb first 48) refl some

octal_no_x : (c : ℕ) → is_octal_digit c ≡ true → is_x c ≡ false
octal_no_x c e = grind (arith, nat_tests)

octal_reach : (digits more : List ℕ) → list_all is_octal_digit digits ≡ true
    → length digits ≤ hexadecimal_len (digits ++ more) ⊎ hexadecimal_len (digits ++ more) ≡ 0
octal_reach [] more all = inl (omega arith)
octal_reach (c ∷ digits) more all =
    let parts = and_parts (is_octal_digit c) (list_all is_octal_digit digits) all in
    inr (cond-false (is_x c) (more_by 1 (prefix_len is_ascii_hexdigit (digits ++ more))) 0
    (octal_no_x c parts.0))

octal_most : (digits more : List ℕ) (b : Bool) → eqb (hexadecimal_len (digits ++ more)) 0 ≡ b
    → list_all is_octal_digit digits ≡ true
    → suc (length digits) ≤ octal_or (hexadecimal_len (digits ++ more)) (digits ++ more)
octal_most digits more true e all =
    let kept =
    cond-true (eqb (hexadecimal_len (digits ++ more)) 0)
    (1 + prefix_len is_octal_digit (digits ++ more)) (1 + hexadecimal_len (digits ++ more)) e in
    omega (arith, kept, run_over is_octal_digit digits more all)
octal_most digits more false e all =
    let kept =
    cond-false (eqb (hexadecimal_len (digits ++ more)) 0)
    (1 + prefix_len is_octal_digit (digits ++ more)) (1 + hexadecimal_len (digits ++ more)) e in
    elim (octal_reach digits more all) [
      | inl far ↦ omega (arith, kept, far)
      | inr none ↦ absurd (eqb-false (hexadecimal_len (digits ++ more)) 0 e none)
    ]

integer_most : (text more : List ℕ) → IsInteger text → length text ≤ integer_len (text ++ more)
integer_most text more (decimal first digits digit other all) =
    let kept =
    cond-false (eqb first 48) (octal_or (hexadecimal_len (digits ++ more)) (digits ++ more))
    (prefix_len is_ascii_digit (first ∷ (digits ++ more))) other in
    omega (
      arith,
      kept,
      run_more is_ascii_digit first (digits ++ more) digit,
      run_over is_ascii_digit
          digits more all,
    )
integer_most text more (octal digits all) =
    octal_most digits more (eqb (hexadecimal_len (digits ++ more)) 0) refl all
integer_most text more (hexadecimal x digits is some all) =
    let run = prefix_len is_ascii_hexdigit (digits ++ more) in
    let over = run_over is_ascii_hexdigit digits more all in
    let len =
    cond-true (is_x x) (more_by 1 run) 0 is ∙ more_some 1 run (omega (arith, over, some)) in
    let kept =
    cond-false (eqb (hexadecimal_len (x ∷ (digits ++ more))) 0) (1
    + prefix_len is_octal_digit (x ∷ (digits ++ more))) (1 + hexadecimal_len (x ∷ (digits ++ more)))
    (ne_eqb (hexadecimal_len (x ∷ (digits ++ more))) 0 (λ none. omega (arith, len, none))) in
    omega (arith, kept, len, over)

integer_some : (text : List ℕ) → IsInteger text → 0 < length text
integer_some text (decimal first digits digit other all) = omega arith
integer_some text (octal digits all) = omega arith
integer_some text (hexadecimal x digits is some all) = omega arith

hexadecimal_within : (bytes : List ℕ) → hexadecimal_len bytes ≤ length bytes
hexadecimal_within [] = omega arith
hexadecimal_within (x ∷ rest) =
    let run = prefix_len is_ascii_hexdigit rest in
    test_within (is_x x) (more_by 1 run) 0 (suc (length rest))
    (more_within 1 run (suc (length rest))
    (omega (arith, prefix_len-le-length is_ascii_hexdigit rest))) (omega arith)

integer_within : (bytes : List ℕ) → integer_len bytes ≤ length bytes
integer_within [] = omega arith
integer_within (first ∷ rest) =
    let n = hexadecimal_len rest in
    test_within (eqb first 48) (octal_or n rest) (prefix_len is_ascii_digit (first ∷ rest))
    (suc (length rest))
    (test_within (eqb n 0) (1 + prefix_len is_octal_digit rest) (1 + n) (suc (length rest)) (omega
    (arith, prefix_len-le-length is_octal_digit rest)) (omega (arith, hexadecimal_within rest)))
    (prefix_len-le-length is_ascii_digit (first ∷ rest))

pub integers : Reaches integer_len IsInteger
integers = record {
  takes = integer_takes;
  most = integer_most;
  some = integer_some;
  within = integer_within;
}

-- ---- exponents

exponent_takes : (bytes : List ℕ) → 0 < exponent_len bytes
    → IsExponent (take (exponent_len bytes) bytes)
exponent_takes [] some = absurd (omega arith)
exponent_takes (e ∷ rest) some =
    let kept = kept_len (is_e e) (more_by 1 (signed_len rest)) some in
    let from = more_from 1 (signed_len rest) (subst (λ (n : ℕ). 0 < n) kept.1 some) in
    let len : exponent_len (e ∷ rest) ≡ suc (signed_len rest) = omega (arith, kept.1, from.1) in
    subst (λ (n : ℕ). IsExponent (take n (e ∷ rest))) (sym len) (signed_takes rest from.0) where
      by_sign : (c : ℕ) (rest' : List ℕ) (b : Bool) → is_sign c ≡ b → 0 < signed_len (c ∷ rest')
          → is_e e ≡ true → IsExponent (e ∷ take (signed_len (c ∷ rest')) (c ∷ rest'))
      by_sign c rest' true s some' is =
          let run = prefix_len is_ascii_digit rest' in
          let kept' = cond-true (is_sign c) (more_by 1 run) (prefix_len is_ascii_digit (c ∷ rest'))
          s in
          let from' = more_from 1 run (subst (λ (n : ℕ). 0 < n) kept' some') in
          let len' : signed_len (c ∷ rest') ≡ suc run = omega (arith, kept', from'.1) in
          subst (λ (n : ℕ). IsExponent (e ∷ take n (c ∷ rest'))) (sym len') (signed e c (take run
          rest') is s (omega (arith, run_length is_ascii_digit rest', from'.0))
          (run_all is_ascii_digit rest'))
      by_sign c rest' false s some' is =
          let kept' =
          cond-false (is_sign c) (more_by 1 (prefix_len is_ascii_digit rest'))
          (prefix_len is_ascii_digit (c ∷ rest')) s in
          subst (λ (n : ℕ). IsExponent (e ∷ take n (c ∷ rest'))) (sym kept')
          (plain e (take (prefix_len is_ascii_digit (c ∷ rest')) (c ∷ rest')) is (omega
          (arith, run_length is_ascii_digit (c ∷ rest'), kept', some'))
          (run_all is_ascii_digit (c ∷ rest')))

      signed_takes : (bytes : List ℕ) → 0 < signed_len bytes
          → IsExponent (e ∷ take (signed_len bytes) bytes)
      signed_takes [] some' = absurd (omega arith)
      signed_takes (c ∷ rest') some' =
          by_sign c rest' (is_sign c) refl some'
          (kept_len (is_e e) (more_by 1 (signed_len rest)) some).0

-- an exponent doesn't begin with a digit
pub digit_no_e : (c : ℕ) → is_e c ≡ true → is_ascii_digit c ≡ false
digit_no_e c e = grind (arith, nat_tests)

digit_no_sign : (c : ℕ) → is_ascii_digit c ≡ true → is_sign c ≡ false
digit_no_sign c e = grind (arith, nat_tests)

point_no_e : (c : ℕ) → is_e c ≡ true → eqb c 46 ≡ false
point_no_e c e = grind (arith, nat_tests)

signed_of_digits : (digits more : List ℕ) → 0 < length digits → AreDigits digits
    → length digits ≤ signed_len (digits ++ more)
signed_of_digits [] more some all = omega arith
signed_of_digits (c ∷ digits) more some all =
    let parts = and_parts (is_ascii_digit c) (list_all is_ascii_digit digits) all in
    let kept =
    cond-false (is_sign c) (more_by 1 (prefix_len is_ascii_digit (digits ++ more)))
    (prefix_len is_ascii_digit (c ∷ (digits ++ more))) (digit_no_sign c parts.0) in
    omega (arith, kept, run_over is_ascii_digit (c ∷ digits) more all)

exponent_most : (text more : List ℕ) → IsExponent text → length text ≤ exponent_len (text ++ more)
exponent_most text more (plain e digits is some all) =
    let over = signed_of_digits digits more some all in
    let len =
    cond-true (is_e e) (more_by 1 (signed_len (digits ++ more))) 0 is
    ∙ more_some 1 (signed_len (digits ++ more)) (omega (arith, over, some)) in
    omega (arith, len, over)
exponent_most text more (signed e sign digits is sign_is some all) =
    let run = prefix_len is_ascii_digit (digits ++ more) in
    let over = run_over is_ascii_digit digits more all in
    let inner =
    cond-true (is_sign sign) (more_by 1 run) (prefix_len is_ascii_digit (sign ∷ (digits ++ more)))
    sign_is
    ∙ more_some 1 run (omega (arith, over, some)) in
    let len =
    cond-true (is_e e) (more_by 1 (signed_len (sign ∷ (digits ++ more)))) 0 is
    ∙ more_some 1 (signed_len (sign ∷ (digits ++ more))) (omega (arith, inner)) in
    omega (arith, len, inner, over)

pub exponent_first : (text : List ℕ) → IsExponent text
    → (e : ℕ) × (rest : List ℕ) × (is_e e ≡ true) × (text ≡ e ∷ rest)
exponent_first text (plain e digits is some all) = (e, digits, is, refl)
exponent_first text (signed e sign digits is sign_is some all) = (e, sign ∷ digits, is, refl)

-- ---- floats

float_pointed : (whole rest : List ℕ) (b : Bool) → AreDigits whole
    → 0 < length whole + prefix_len is_ascii_digit rest
    → nat_lt 0 (exponent_len (drop (prefix_len is_ascii_digit rest) rest)) ≡ b
    → IsFloat (whole ++ 46
    ∷ take (prefix_len is_ascii_digit rest + exponent_len
    (drop (prefix_len is_ascii_digit rest) rest)) rest)
float_pointed whole rest true all some e =
    let f = prefix_len is_ascii_digit rest in
    let scale = exponent_len (drop f rest) in
    let text = take-add f scale rest in
    subst (λ (l : List ℕ). IsFloat (whole ++ 46 ∷ l)) (sym text)
    (both whole (take f rest) (take scale (drop f rest)) all (run_all is_ascii_digit rest) (omega
    (arith, some, run_length is_ascii_digit rest))
    (exponent_takes (drop f rest) (ltb-true 0 scale e)))
float_pointed whole rest false all some e =
    let f = prefix_len is_ascii_digit rest in
    let none : f + exponent_len (drop f rest) ≡ f =
    omega (arith, ltb-false 0 (exponent_len (drop f rest)) e) in
    subst (λ (n : ℕ). IsFloat (whole ++ 46 ∷ take n rest)) (sym none)
    (pointed whole (take f rest) all (run_all is_ascii_digit rest)
    (omega (arith, some, run_length is_ascii_digit rest)))

pub nonzero_len : (b : Bool) (n : ℕ) → 0 < cond b 0 n → (b ≡ false) × (cond b 0 n ≡ n)
nonzero_len true n some = absurd (omega arith)
nonzero_len false n some = (refl, refl)

float_at_point : (whole rest : List ℕ) (c : ℕ) → AreDigits whole → c ≡ 46
    → 0 < fraction_len (length whole) rest
    → IsFloat (take (fraction_len (length whole) rest) (whole ++ c ∷ rest))
float_at_point whole rest c all is some =
    let f = prefix_len is_ascii_digit rest in
    let scale = exponent_len (drop f rest) in
    let kept = nonzero_len (eqb (length whole + f) 0) (length whole + 1 + f + scale) some in
    let digits : 0 < length whole + f = omega (arith, eqb-false (length whole + f) 0 kept.0) in
    let len : fraction_len (length whole) rest ≡ length whole + suc (f + scale) =
    omega (arith, kept.1) in
    subst
    (λ (d : ℕ). IsFloat (take (fraction_len (length whole) rest) (whole ++ d ∷ rest))) (sym is)
    (subst IsFloat (sym (ap (λ (n : ℕ). take n (whole ++ 46 ∷ rest)) len
    ∙ take-append-add whole (46 ∷ rest) (suc (f + scale))))
    (float_pointed whole rest (nat_lt 0 scale) all digits refl))

float_at_scale : (whole rest : List ℕ) → AreDigits whole
    → 0 < scaled_len (length whole) (exponent_len rest)
    → IsFloat (take (scaled_len (length whole) (exponent_len rest)) (whole ++ rest))
float_at_scale whole rest all some =
    let scale = exponent_len rest in
    let kept = nonzero_len (eqb (length whole) 0 || eqb scale 0) (length whole + scale) some in
    let parts = or_parts (eqb (length whole) 0) (eqb scale 0) kept.0 in
    let digits : 0 < length whole = omega (arith, eqb-false (length whole) 0 parts.0) in
    let exponent : 0 < scale = omega (arith, eqb-false scale 0 parts.1) in
    subst IsFloat
    (sym (ap (λ (n : ℕ). take n (whole ++ rest)) kept.1 ∙ take-append-add whole rest scale))
    (scaled whole (take scale rest) all digits (exponent_takes rest exponent))

float_from : (whole rest : List ℕ) → AreDigits whole → 0 < float_behind (length whole) rest
    → IsFloat (take (float_behind (length whole) rest) (whole ++ rest))
float_from whole [] all some = absurd (omega arith)
float_from whole (c ∷ rest) all some = by_point (eqb c 46) refl where
  by_point : (b : Bool) → eqb c 46 ≡ b
      → IsFloat (take (float_behind (length whole) (c ∷ rest)) (whole ++ c ∷ rest))
  by_point true e =
      let kept =
      cond-true (eqb c 46) (fraction_len (length whole) rest)
      (scaled_len (length whole) (exponent_len (c ∷ rest))) e in
      subst (λ (n : ℕ). IsFloat (take n (whole ++ c ∷ rest))) (sym kept)
      (float_at_point whole rest c all (eqb-true c 46 e) (subst (λ (n : ℕ). 0 < n) kept some))
  by_point false e =
      let kept =
      cond-false (eqb c 46) (fraction_len (length whole) rest)
      (scaled_len (length whole) (exponent_len (c ∷ rest))) e in
      subst (λ (n : ℕ). IsFloat (take n (whole ++ c ∷ rest))) (sym kept)
      (float_at_scale whole (c ∷ rest) all (subst (λ (n : ℕ). 0 < n) kept some))

float_takes : (bytes : List ℕ) → 0 < float_len bytes → IsFloat (take (float_len bytes) bytes)
float_takes bytes some =
    let n = prefix_len is_ascii_digit bytes in
    let whole = take n bytes in
    let len : length whole ≡ n = run_length is_ascii_digit bytes in
    let same = ap (λ (k : ℕ). float_behind k (drop n bytes)) len in
    subst (λ (k : ℕ). IsFloat (take k bytes)) same
    (subst (λ (l : List ℕ). IsFloat (take (float_behind (length whole) (drop n bytes)) l))
    (take-append-drop n bytes)
    (float_from whole (drop n bytes) (run_all is_ascii_digit bytes)
    (subst (λ (k : ℕ). 0 < k) (sym same) some)))

-- after digits and something else
float_len_at : (whole : List ℕ) (c : ℕ) (rest : List ℕ) → AreDigits whole → is_ascii_digit c ≡ false
    → float_len (whole ++ c ∷ rest) ≡ float_behind (length whole) (c ∷ rest)
float_len_at whole c rest all other =
    let run = run_until is_ascii_digit whole c rest all other in
    ap (λ (n : ℕ). float_behind n (drop n (whole ++ c ∷ rest))) run
    ∙ ap (float_behind (length whole)) (drop_at whole (c ∷ rest) (length whole) refl)

fraction_most : (whole : ℕ) (rest : List ℕ) → 0 < whole + prefix_len is_ascii_digit rest
    → fraction_len whole rest
    ≡ whole + 1 + prefix_len is_ascii_digit rest + exponent_len
    (drop (prefix_len is_ascii_digit rest) rest)
fraction_most whole rest some =
    let f = prefix_len is_ascii_digit rest in
    cond-false (eqb (whole + f) 0) 0 (whole + 1 + f + exponent_len (drop f rest))
    (ne_eqb (whole + f) 0 (λ none. omega (arith, none, some)))

pointed_len : (whole rest : List ℕ) → AreDigits whole
    → float_len (whole ++ 46 ∷ rest) ≡ fraction_len (length whole) rest
pointed_len whole rest all = float_len_at whole 46 rest all refl

float_most : (text more : List ℕ) → IsFloat text → length text ≤ float_len (text ++ more)
float_most text more (pointed whole fraction all parts some) =
    let rest = fraction ++ more in
    let len = ap float_len (append_assoc whole (46 ∷ fraction) more) ∙ pointed_len whole rest all in
    let over = run_over is_ascii_digit fraction more parts in
    let far = fraction_most (length whole) rest (omega (arith, over, some)) in
    omega (arith, len, over, far, length-append whole (46 ∷ fraction))
float_most text more (scaled whole exponent all some fits) =
    let first = exponent_first exponent fits in
    let begins : exponent ++ more ≡ first.0 ∷ (first.1 ++ more) =
    ap (λ (l : List ℕ). l ++ more) first.3 in
    let rest = first.1 ++ more in
    let len =
    ap float_len (append_assoc whole exponent more ∙ ap (λ (l : List ℕ). whole ++ l) begins)
    ∙ float_len_at whole first.0 rest all (digit_no_e first.0 first.2) in
    let kept =
    cond-false (eqb first.0 46) (fraction_len (length whole) rest)
    (scaled_len (length whole) (exponent_len (first.0 ∷ rest))) (point_no_e first.0 first.2) in
    let scale =
    subst (λ (l : List ℕ). length exponent ≤ exponent_len l) begins
    (exponent_most exponent more fits) in
    let long : 0 < length exponent = omega (arith, ap length first.3) in
    let e = exponent_len (first.0 ∷ rest) in
    let neither =
    or_from (eqb (length whole) 0) (eqb e 0) (ne_eqb (length whole) 0
    (λ none. omega (arith, none, some))) (ne_eqb e 0 (λ none. omega (arith, none, scale, long))) in
    let sum = cond-false (eqb (length whole) 0 || eqb e 0) 0 (length whole + e) neither in
    omega (arith, len, kept, sum, scale, length-append whole exponent)
float_most text more (both whole fraction exponent all parts some fits) =
    let first = exponent_first exponent fits in
    let begins : exponent ++ more ≡ first.0 ∷ (first.1 ++ more) =
    ap (λ (l : List ℕ). l ++ more) first.3 in
    let rest = fraction ++ (exponent ++ more) in
    let regroup =
    append_assoc whole (46 ∷ (fraction ++ exponent)) more
    ∙ ap (λ (l : List ℕ). whole ++ 46 ∷ l) (append_assoc fraction exponent more) in
    let len = ap float_len regroup ∙ pointed_len whole rest all in
    let run =
    ap (λ (l : List ℕ). prefix_len is_ascii_digit (fraction ++ l)) begins
    ∙ run_until is_ascii_digit fraction first.0 (first.1 ++ more) parts (digit_no_e first.0 first.2)
    in
    let far = fraction_most (length whole) rest (omega (arith, run, some)) in
    let behind =
    ap (λ (n : ℕ). exponent_len (drop n rest)) run
    ∙ ap exponent_len (drop_at fraction (exponent ++ more) (length fraction) refl) in
    let scale = exponent_most exponent more fits in
    omega (
      arith,
      len,
      run,
      far,
      behind,
      scale,
      length-append whole (46 ∷ (fraction ++ exponent)),
      length-append fraction exponent,
    )

float_some : (text : List ℕ) → IsFloat text → 0 < length text
float_some text (pointed whole fraction all parts some) =
    omega (arith, length-append whole (46 ∷ fraction))
float_some text (scaled whole exponent all some fits) =
    omega (arith, length-append whole exponent, some)
float_some text (both whole fraction exponent all parts some fits) =
    omega (arith, length-append whole (46 ∷ (fraction ++ exponent)))

signed_within : (bytes : List ℕ) → signed_len bytes ≤ length bytes
signed_within [] = omega arith
signed_within (c ∷ rest) =
    let run = prefix_len is_ascii_digit rest in
    test_within (is_sign c) (more_by 1 run) (prefix_len is_ascii_digit (c ∷ rest))
    (suc (length rest))
    (more_within 1 run (suc (length rest))
    (omega (arith, prefix_len-le-length is_ascii_digit rest)))
    (prefix_len-le-length is_ascii_digit (c ∷ rest))

exponent_within : (bytes : List ℕ) → exponent_len bytes ≤ length bytes
exponent_within [] = omega arith
exponent_within (c ∷ rest) =
    test_within (is_e c) (more_by 1 (signed_len rest)) 0 (suc (length rest)) (more_within 1
    (signed_len rest) (suc (length rest)) (omega (arith, signed_within rest))) (omega arith)

behind_within : (whole : ℕ) (rest : List ℕ) → float_behind whole rest ≤ whole + length rest
behind_within whole [] = omega arith
behind_within whole (c ∷ rest) =
    let f = prefix_len is_ascii_digit rest in
    let scale = exponent_len (drop f rest) in
    let e = exponent_len (c ∷ rest) in
    test_within (eqb c 46) (fraction_len whole rest) (scaled_len whole e)
    (whole + suc (length rest))
    (test_within (eqb (whole + f) 0) 0 (whole + 1 + f + scale) (whole + suc (length rest))
    (omega arith) (omega (
      arith,
      exponent_within (drop f rest),
      length-drop f rest,
      prefix_len-le-length is_ascii_digit
          rest,
    )))
    (test_within (eqb whole 0 || eqb e 0) 0 (whole + e) (whole + suc (length rest)) (omega arith)
    (omega (arith, exponent_within (c ∷ rest))))

float_within : (bytes : List ℕ) → float_len bytes ≤ length bytes
float_within bytes =
    let n = prefix_len is_ascii_digit bytes in
    omega (
      arith,
      behind_within n (drop n bytes),
      length-drop n bytes,
      prefix_len-le-length is_ascii_digit bytes,
    )

pub floats : Reaches float_len IsFloat
floats = record { takes = float_takes; most = float_most; some = float_some; within = float_within }
