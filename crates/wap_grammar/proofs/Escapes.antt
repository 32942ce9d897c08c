-- Reading a string from the left gives the one text that its characters stand for.
use Rattle.std.proofs.Common.{◌≡◌, ℕ, ◌+◌, ◌*◌, ◌-◌, ◌<◌, ◌≤◌, nat_le, nat_lt, Bool}
use Rattle.std.proofs.Common.{true, false, ◌==◌, ◌&&◌, List, [], ◌∷◌, ◌++◌, length, refl}
use Rattle.std.proofs.Common.{sym, ap, subst, ◌∙◌, inl, inr, ◌⊎◌, length-append}
use Rattle.std.proofs.Common.{arith}
use Rattle.std.specs.Char.{is_ascii_hexdigit}
use Rattle.std.specs.Int.{is_in_range}
use Rattle.std.specs.List.{fold, list_all}
use Rattle.std.specs.Str.{all_scalars}
use Rattle.std.proofs.Math.Utf8.{scalar, low_scalar}
use Rattle.std.proofs.lemmas.Bool.{ne_eqb, leb-true, le-leb, ltb-true, lt-ltb, and_from, and_parts}
use Rattle.std.proofs.lemmas.Grind.{common_steps, fold-append}
use Rattle.std.proofs.lemmas.List.Folds.{list_all-append}
use Rattle.wap_lex.specs.Characters.{is_octal_digit}
use Rattle.wap_lex.specs.Numbers.{with_digit, digit_value, numeral}
use Rattle.wap_lex.specs.Strings.{is_simple, is_surrogate}
use Rattle.wap_grammar.specs.Strings.{named_by, is_octal, Escapes, single, octal, hexadecimal}
use Rattle.wap_grammar.specs.Strings.{unicode, IsWhole, StandFor, none, plain, escape}
use Rattle.wap_grammar.specs.Unescaping.{goes_on, unescaped, escaped, numbered}

-- ---- octal digits

pub octal_digit : (c : ℕ) → is_octal_digit c ≡ true → (48 ≤ c) × (c ≤ 55)
octal_digit c is = (grind (arith, common_steps), grind (arith, common_steps))

octal_value : (c : ℕ) → is_octal_digit c ≡ true → c - 48 ≡ with_digit 8 0 c
octal_value c is = grind (arith, common_steps)

pub no_backslash : (c : ℕ) → is_octal_digit c ≡ true → (c == 92) ≡ false
no_backslash c is = ne_eqb c 92 (λ e. absurd (omega (arith, e, octal_digit c is)))

-- more digits make a number greater
grows : (digits : List ℕ) (v : ℕ) → v ≤ fold (with_digit 8) v digits
grows [] v = omega arith
grows (d ∷ digits) v = omega (arith, grows digits (with_digit 8 v d))

-- what an octal number is
pub record Octal (digits : List ℕ) : Type 0 where
  pub all : list_all is_octal_digit digits ≡ true
  pub some : 1 ≤ length digits
  pub few : length digits ≤ 3
  pub low : fold (with_digit 8) 0 digits ≤ 255

pub parts : (digits : List ℕ) → is_octal digits ≡ true → Octal digits
parts digits is =
    let value = nat_le (numeral 8 digits) 255 in
    let both = and_parts (list_all is_octal_digit digits)
    (is_in_range 1 3 (length digits) && value) is in
    let rest = and_parts (is_in_range 1 3 (length digits)) value both.1 in
    let range = and_parts (nat_le 1 (length digits)) (nat_le (length digits) 3) rest.0 in
    record {
      all = both.0;
      some = leb-true 1 (length digits) range.0;
      few = leb-true (length digits) 3 range.1;
      low = leb-true (numeral 8 digits) 255 rest.1;
    }

whole_parts : (digits : List ℕ) → Octal digits → is_octal digits ≡ true
whole_parts digits is =
    let value = nat_le (numeral 8 digits) 255 in
    and_from (list_all is_octal_digit digits) (is_in_range 1 3 (length digits) && value) is.all
    (and_from (is_in_range 1 3 (length digits)) value
    (and_from (nat_le 1 (length digits)) (nat_le (length digits) 3)
    (le-leb 1 (length digits) is.some) (le-leb (length digits) 3 is.few))
    (le-leb (numeral 8 digits) 255 is.low))

-- a digit alone is one
pub one_digit : (c : ℕ) → is_octal_digit c ≡ true → is_octal (c ∷ []) ≡ true
one_digit c is = whole_parts (c ∷ []) (record {
  all = and_from (is_octal_digit c) true is refl;
  some = omega arith;
  few = omega arith;
  low = omega (arith, octal_value c is, octal_digit c is);
})

-- reading stops here, where so many digits may follow a value
Stops : ℕ → ℕ → List ℕ → Type 0
Stops left v [] = Unit {0}
Stops left v (c ∷ rest) = (nat_lt 0 left && goes_on 8 v c) ≡ false

-- a digit that goes on belongs to the number
longer : (digits : List ℕ) (left c : ℕ) → Octal digits → 3 ≡ length digits + left →
    (nat_lt 0 left && goes_on 8 (numeral 8 digits) c) ≡ true →
    is_octal (digits ++ c ∷ []) ≡ true
longer digits left c is count on =
    let value = with_digit 8 (numeral 8 digits) c in
    let both = and_parts (nat_lt 0 left) (goes_on 8 (numeral 8 digits) c) on in
    let digit = and_parts (is_octal_digit c) (nat_le value 255) both.1 in
    let grown : numeral 8 (digits ++ c ∷ []) ≡ value =
    fold-append (with_digit 8) 0 digits (c ∷ []) in
    whole_parts (digits ++ c ∷ []) (record {
      all = list_all-append is_octal_digit digits (c ∷ [])
          ∙ and_from (list_all is_octal_digit digits) (is_octal_digit c && true) is.all
          (and_from (is_octal_digit c) true digit.0 refl);
      some = omega (arith, length-append digits (c ∷ []));
      few = omega (arith, length-append digits (c ∷ []), count, ltb-true 0 left both.0);
      low = omega (arith, grown, leb-true value 255 digit.1);
    })

stops_at : (digits rest : List ℕ) (left : ℕ) → Octal digits → 3 ≡ length digits + left →
    IsWhole digits rest → Stops left (numeral 8 digits) rest
unfolding Stops
stops_at digits [] left is count whole = tt
stops_at digits (c ∷ rest) left is count whole =
    by_test (nat_lt 0 left && goes_on 8 (numeral 8 digits) c) refl where
      by_test : (test : Bool) → (nat_lt 0 left && goes_on 8 (numeral 8 digits) c) ≡ test →
          (nat_lt 0 left && goes_on 8 (numeral 8 digits) c) ≡ false
      by_test true on = absurd (cc (longer digits left c is count on, whole))
      by_test false off = off

-- reading takes digits up to where it stops
takes : (digits rest : List ℕ) (left others v : ℕ) → left ≡ length digits + others →
    list_all is_octal_digit digits ≡ true → fold (with_digit 8) v digits ≤ 255 →
    Stops others (fold (with_digit 8) v digits) rest →
    numbered 8 left v (digits ++ rest) ≡ fold (with_digit 8) v digits ∷ unescaped rest
unfolding Stops
takes [] [] left others v count are low stops = refl
takes [] (c ∷ rest) left others v count are low stops =
    let same : left ≡ others = omega (arith, count) in rw (same, stops) refl
takes (d ∷ digits) rest left others v count are low stops =
    let both = and_parts (is_octal_digit d) (list_all is_octal_digit digits) are in
    let value = with_digit 8 v d in
    let on : (nat_lt 0 left && goes_on 8 v d) ≡ true =
    and_from (nat_lt 0 left) (goes_on 8 v d) (lt-ltb 0 left (omega (arith, count)))
    (and_from (is_octal_digit d) (nat_le value 255) both.0
    (le-leb value 255 (omega (arith, grows digits value, low)))) in
    rw on (takes digits rest (left - 1) others value (omega (arith, count)) both.1 low stops)

-- ---- escapes

-- after the last hexadecimal digit
ended : (v : ℕ) (rest : List ℕ) → numbered 16 0 v rest ≡ v ∷ unescaped rest
ended v [] = refl
ended v (c ∷ rest) = refl

named : (c : ℕ) (rest : List ℕ) → is_simple c ≡ true →
    escaped (c ∷ rest) ≡ named_by c ∷ unescaped rest
named c rest is = grind (arith, common_steps)

octal_given : (digits rest : List ℕ) → is_octal digits ≡ true → IsWhole digits rest →
    escaped (digits ++ rest) ≡ numeral 8 digits ∷ unescaped rest
octal_given [] rest is whole = absurd (cc is)
octal_given (c ∷ digits) rest is whole =
    let p = parts (c ∷ digits) is in
    let first = and_parts (is_octal_digit c) (list_all is_octal_digit digits) p.all in
    let digit = octal_digit c first.0 in
    let left = 2 - length digits in
    rw (
      ne_eqb c 120 (λ e. absurd (omega (arith, e, digit.1))),
      ne_eqb c 117 (λ e. absurd (omega (arith, e, digit.1))),
      first.0,
    ) (subst (λ (v : ℕ). numbered 8 2 v (digits ++ rest) ≡ numeral 8 (c ∷ digits) ∷ unescaped rest)
    (sym (octal_value c first.0)) (takes digits rest 2 left (with_digit 8 0 c)
    (omega (arith, p.few)) first.1 p.low
    (stops_at (c ∷ digits) rest left p (omega (arith, p.few)) whole)))

-- an escape is read as the character that it stands for
pub given : (spelling rest : List ℕ) (c : ℕ) → Escapes spelling c → IsWhole spelling rest →
    escaped (spelling ++ rest) ≡ c ∷ unescaped rest
given spelling rest v (single c is) whole = named c rest is
given spelling rest v (octal digits is) whole = octal_given digits rest is whole
given spelling rest v (hexadecimal a b are) whole =
    let one = and_parts (is_ascii_hexdigit a) (is_ascii_hexdigit b && true) are in
    let two = and_parts (is_ascii_hexdigit b) true one.1 in
    rw (one.0, two.0) (ended (numeral 16 (a ∷ b ∷ [])) rest)
given spelling rest v (unicode a b c d are apart) whole =
    let one = and_parts (is_ascii_hexdigit a)
    (is_ascii_hexdigit b && (is_ascii_hexdigit c && (is_ascii_hexdigit d && true))) are in
    let two = and_parts (is_ascii_hexdigit b)
    (is_ascii_hexdigit c && (is_ascii_hexdigit d && true)) one.1 in
    let three = and_parts (is_ascii_hexdigit c) (is_ascii_hexdigit d && true) two.1 in
    let four = and_parts (is_ascii_hexdigit d) true three.1 in
    rw (one.0, two.0, three.0, four.0) (ended (numeral 16 (a ∷ b ∷ c ∷ d ∷ [])) rest)

-- what characters stand for is what is read
pub reads : (cs text : List ℕ) → StandFor cs text → text ≡ unescaped cs
reads cs text none = refl
reads cs text (plain c rest after other stand) =
    rw other (ap (λ (t : List ℕ). c ∷ t) (reads rest after stand))
reads cs text (escape spelling rest after c is whole stand) =
    ap (λ (t : List ℕ). c ∷ t) (reads rest after stand) ∙ sym (given spelling rest c is whole)

-- an escape before what is read as it stands
pub read_before : (spelling rest : List ℕ) (c : ℕ) → Escapes spelling c → IsWhole spelling rest →
    StandFor rest (unescaped rest) →
    StandFor (92 ∷ (spelling ++ rest)) (unescaped (92 ∷ (spelling ++ rest)))
read_before spelling rest c is whole stand =
    subst (StandFor (92 ∷ (spelling ++ rest))) (sym (given spelling rest c is whole))
    (escape spelling rest (unescaped rest) c is whole stand)

-- what begins with no octal digit is whole
pub whole_other : (c : ℕ) (more rest : List ℕ) → is_octal_digit c ≡ false →
    IsWhole (c ∷ more) rest
whole_other c more [] other = tt
whole_other c more (d ∷ rest) other = rw other refl

-- ---- digits of surrogates

pub digit_small : (c : ℕ) → is_ascii_hexdigit c ≡ true → digit_value c ≤ 15
digit_small c is = grind (arith, common_steps)

-- the first two of four digits are above those of surrogates, or below them
apart : (a b : ℕ) → is_ascii_hexdigit a ≡ true → is_ascii_hexdigit b ≡ true →
    is_surrogate a b ≡ false →
    (14 ≤ digit_value a) ⊎ (digit_value a * 16 + digit_value b < 216)
apart a b first second fails = grind (arith, common_steps)

high_scalar : (c : ℕ) → 57344 ≤ c → c < 1114112 → scalar c ≡ true
high_scalar c low high = grind (arith, common_steps)

named_low : (c : ℕ) → is_simple c ≡ true → named_by c < 55296
named_low c is = grind (arith, common_steps)

-- an escape stands for no surrogate
escape_scalar : (spelling : List ℕ) (c : ℕ) → Escapes spelling c → scalar c ≡ true
escape_scalar spelling v (single c is) = low_scalar (named_by c) (named_low c is)
escape_scalar spelling v (octal digits is) =
    low_scalar (numeral 8 digits) (omega (arith, (parts digits is).low))
escape_scalar spelling v (hexadecimal a b are) =
    let one = and_parts (is_ascii_hexdigit a) (is_ascii_hexdigit b && true) are in
    let two = and_parts (is_ascii_hexdigit b) true one.1 in
    low_scalar (numeral 16 (a ∷ b ∷ []))
    (omega (arith, digit_small a one.0, digit_small b two.0))
escape_scalar spelling v (unicode a b c d are fails) =
    let one = and_parts (is_ascii_hexdigit a)
    (is_ascii_hexdigit b && (is_ascii_hexdigit c && (is_ascii_hexdigit d && true))) are in
    let two = and_parts (is_ascii_hexdigit b)
    (is_ascii_hexdigit c && (is_ascii_hexdigit d && true)) one.1 in
    let three = and_parts (is_ascii_hexdigit c) (is_ascii_hexdigit d && true) two.1 in
    let four = and_parts (is_ascii_hexdigit d) true three.1 in
    let value = numeral 16 (a ∷ b ∷ c ∷ d ∷ []) in
    let third = digit_small c three.0 in
    let last = digit_small d four.0 in
    elim (apart a b one.0 two.0 fails) [
      | inl high ↦ high_scalar value (omega (arith, high))
          (omega (arith, digit_small a one.0, digit_small b two.0, third, last))
      | inr low ↦ low_scalar value (omega (arith, low, third, last))
    ]

-- ---- texts without surrogates

pub scalars_after : (ds : List ℕ) (es : List ℕ) → all_scalars (ds ++ es) ≡ true →
    (all_scalars ds ≡ true) × (all_scalars es ≡ true)
scalars_after [] es e = (refl, e)
scalars_after (d ∷ ds) es e = (
  grind (arith, common_steps, scalars_after ds es),
  grind (arith, common_steps, scalars_after ds es),
)

pub text_scalars : (cs text : List ℕ) → StandFor cs text → all_scalars cs ≡ true →
    all_scalars text ≡ true
text_scalars cs text none scalars = refl
text_scalars cs text (plain c rest after other stand) scalars =
    let both = and_parts (scalar c) (all_scalars rest) scalars in
    and_from (scalar c) (all_scalars after) both.0 (text_scalars rest after stand both.1)
text_scalars cs text (escape spelling rest after c is whole stand) scalars =
    and_from (scalar c) (all_scalars after) (escape_scalar spelling c is)
    (text_scalars rest after stand (scalars_after (92 ∷ spelling) rest scalars).1)
