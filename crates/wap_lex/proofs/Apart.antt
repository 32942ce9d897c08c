-- No text has two shapes.
use Rattle.std.proofs.Common.{◌≡◌, ℕ, ◌+◌, ◌<◌, Bool, true, false, cond, eqb, List, [], ◌∷◌}
use Rattle.std.proofs.Common.{◌++◌, length, refl, ap, ◌∙◌, arith, length-append}
use Rattle.std.specs.Prelude.{◌||◌}
use Rattle.std.specs.Char.{is_ascii_digit}
use Rattle.std.specs.List.{list_all, list_any}
use Rattle.std.proofs.lemmas.Bool.{and_parts, and_from, and_left, and_right, cond-true}
use Rattle.std.proofs.lemmas.Bool.{cond-false, or_from, or_left, or_right}
use Rattle.std.proofs.lemmas.Bool.Decides.{nat_tests}
use Rattle.wap_base.specs.Texts.{is_empty}
use Rattle.wap_base.specs.Names.{begins_name, continues_name, is_name}
use Rattle.wap_lex.specs.declared.first.First.{First}
use Rattle.wap_lex.specs.declared.first.First.TheVariants.{White as white, Letter as letter}
use Rattle.wap_lex.specs.declared.first.First.TheVariants.{Digit as digit, Point as point}
use Rattle.wap_lex.specs.declared.first.First.TheVariants.{Quote as quoting, Slash as slash}
use Rattle.wap_lex.specs.declared.first.First.TheVariants.{Other as other}
use Rattle.wap_lex.specs.declared.shape.Shape.{Shape}
use Rattle.wap_lex.specs.declared.shape.Shape.TheVariants as shape
use Rattle.wap_lex.specs.Characters.{is_octal_digit, is_white, is_quote}
use Rattle.wap_lex.specs.Numbers.{AreDigits, IsInteger, decimal, octal, hexadecimal}
use Rattle.wap_lex.specs.Numbers.{IsFloat, pointed, scaled, both, is_x, is_e}
use Rattle.wap_lex.specs.Strings.{IsString, quoted}
use Rattle.wap_lex.specs.Comments.{IsComment, line, block}
use Rattle.wap_lex.specs.Marks.{marks, is_mark}
use Rattle.wap_lex.specs.Tokens.{IsShape}
use Rattle.wap_lex.specs.ByFirst.{first_of}
use Rattle.wap_lex.proofs.NumberReach.{exponent_first, digit_no_e}
use Rattle.wap_lex.proofs.CommentReach.{any_all}

abbrev pub begins_x : List ℕ → Bool
begins_x [] = false
begins_x (x ∷ rest) = is_x x

abbrev pub slash_shape : List ℕ → Shape
slash_shape [] = shape.Mark
slash_shape (b ∷ rest) = cond (eqb b 47 || eqb b 42) shape.Comment shape.Mark

abbrev pub shape_at : First → List ℕ → Shape
shape_at white rest = shape.Blank
shape_at letter rest = cond (list_any (λ c. eqb c 61) rest) shape.Mark shape.Word
shape_at digit rest = cond (begins_x rest || list_all is_ascii_digit rest) shape.Integer shape.Float
shape_at point rest = cond (is_empty rest) shape.Mark shape.Float
shape_at quoting rest = shape.Str
shape_at slash rest = slash_shape rest
shape_at other rest = shape.Mark

-- the one shape that a text may have
abbrev pub shape_of : List ℕ → Shape
shape_of [] = shape.Blank
shape_of (c ∷ rest) = shape_at (first_of c) rest

abbrev is_mark_shape : Shape → Bool
is_mark_shape shape.Mark = true
is_mark_shape _ = false

mark_shape_is : (s : Shape) → is_mark_shape s ≡ true → s ≡ shape.Mark
mark_shape_is shape.Mark e = refl
mark_shape_is _ e = absurd cc

abbrev from_letter : ℕ → First
from_letter c =
    cond (begins_name c) letter (cond (is_ascii_digit c) digit
    (cond (eqb c 46) point (cond (is_quote c) quoting (cond (eqb c 47) slash other))))

abbrev from_digit : ℕ → First
from_digit c =
    cond (is_ascii_digit c) digit
    (cond (eqb c 46) point (cond (is_quote c) quoting (cond (eqb c 47) slash other)))

abbrev from_quote : ℕ → First
from_quote c = cond (is_quote c) quoting (cond (eqb c 47) slash other)

white_is : (c : ℕ) → is_white c ≡ true → first_of c ≡ white
white_is c e = cond-true (is_white c) white (from_letter c) e

letter_no_white : (c : ℕ) → begins_name c ≡ true → is_white c ≡ false
letter_no_white c e = grind (arith, nat_tests)

letter_is : (c : ℕ) → begins_name c ≡ true → first_of c ≡ letter
letter_is c e =
    cond-false (is_white c) white (from_letter c) (letter_no_white c e)
    ∙ cond-true (begins_name c) letter (from_digit c) e

digit_no_white : (c : ℕ) → is_ascii_digit c ≡ true → is_white c ≡ false
digit_no_white c e = grind (arith, nat_tests)

digit_no_letter : (c : ℕ) → is_ascii_digit c ≡ true → begins_name c ≡ false
digit_no_letter c e = grind (arith, nat_tests)

digit_is : (c : ℕ) → is_ascii_digit c ≡ true → first_of c ≡ digit
digit_is c e =
    cond-false (is_white c) white (from_letter c) (digit_no_white c e)
    ∙ cond-false (begins_name c) letter (from_digit c) (digit_no_letter c e)
    ∙ cond-true (is_ascii_digit c) digit (cond (eqb c 46) point (from_quote c)) e

quote_others : (c : ℕ) → is_quote c ≡ true
    → (is_white c ≡ false) × (begins_name c ≡ false) × (is_ascii_digit c ≡ false)
    × (eqb c 46 ≡ false)
quote_others c e = (
  grind (arith, nat_tests),
  grind (arith, nat_tests),
  grind (arith, nat_tests),
  grind (arith, nat_tests),
)

pub quote_is : (c : ℕ) → is_quote c ≡ true → first_of c ≡ quoting
quote_is c e =
    let others = quote_others c e in
    cond-false (is_white c) white (from_letter c) others.0
    ∙ cond-false (begins_name c) letter (from_digit c) others.1
    ∙ cond-false (is_ascii_digit c) digit (cond (eqb c 46) point (from_quote c)) others.2
    ∙ cond-false (eqb c 46) point (from_quote c) others.3
    ∙ cond-true (is_quote c) quoting (cond (eqb c 47) slash other) e

blank_apart : (text : List ℕ) → 0 < length text → list_all is_white text ≡ true
    → shape_of text ≡ shape.Blank
blank_apart [] some all = refl
blank_apart (c ∷ rest) some all =
    ap (λ (f : First). shape_at f rest)
    (white_is c (and_parts (is_white c) (list_all is_white rest) all).0)

part_no_equal : (c : ℕ) → continues_name c ≡ true → eqb c 61 ≡ false
part_no_equal c e = grind (arith, nat_tests)

no_equal : (text : List ℕ) → list_all continues_name text ≡ true
    → list_any (λ c. eqb c 61) text ≡ false
no_equal [] all = refl
no_equal (c ∷ rest) all =
    let parts = and_parts (continues_name c) (list_all continues_name rest) all in
    or_from (eqb c 61) (list_any (λ c. eqb c 61) rest) (part_no_equal c parts.0)
    (no_equal rest parts.1)

word_apart : (text : List ℕ) → is_name text ≡ true → shape_of text ≡ shape.Word
word_apart [] fits = absurd cc
word_apart (c ∷ rest) fits =
    let parts = and_parts (begins_name c) (list_all continues_name rest) fits in
    ap (λ (f : First). shape_at f rest) (letter_is c parts.0)
    ∙ cond-false (list_any (λ c. eqb c 61) rest) shape.Mark shape.Word (no_equal rest parts.1)

octal_digit : (c : ℕ) → is_octal_digit c ≡ true → is_ascii_digit c ≡ true
octal_digit c e = grind (arith, nat_tests)

octal_digits : (text : List ℕ) → list_all is_octal_digit text ≡ true → AreDigits text
octal_digits [] all = refl
octal_digits (c ∷ rest) all =
    let parts = and_parts (is_octal_digit c) (list_all is_octal_digit rest) all in
    and_from (is_ascii_digit c) (list_all is_ascii_digit rest) (octal_digit c parts.0)
    (octal_digits rest parts.1)

number_apart : (c : ℕ) (rest : List ℕ) → is_ascii_digit c ≡ true
    → (begins_x rest || list_all is_ascii_digit rest) ≡ true → shape_of (c ∷ rest) ≡ shape.Integer
number_apart c rest first fits =
    ap (λ (f : First). shape_at f rest) (digit_is c first)
    ∙ cond-true (begins_x rest || list_all is_ascii_digit rest) shape.Integer shape.Float fits

integer_apart : (text : List ℕ) → IsInteger text → shape_of text ≡ shape.Integer
integer_apart text (decimal first digits is differs all) =
    number_apart first digits is (or_right (begins_x digits) (list_all is_ascii_digit digits) all)
integer_apart text (octal digits all) =
    number_apart 48 digits refl
    (or_right (begins_x digits) (list_all is_ascii_digit digits) (octal_digits digits all))
integer_apart text (hexadecimal x digits is some all) =
    number_apart 48 (x ∷ digits) refl (or_left (is_x x) (list_all is_ascii_digit (x ∷ digits)) is)

-- digits, and then something that neither is a digit nor makes a number hexadecimal
not_all : (digits : List ℕ) (c : ℕ) (rest : List ℕ) → is_ascii_digit c ≡ false
    → list_all is_ascii_digit (digits ++ c ∷ rest) ≡ false
not_all [] c rest differs = and_left (is_ascii_digit c) (list_all is_ascii_digit rest) differs
not_all (d ∷ digits) c rest differs =
    and_right (is_ascii_digit d) (list_all is_ascii_digit (digits ++ c ∷ rest))
    (not_all digits c rest differs)

digit_no_x : (c : ℕ) → is_ascii_digit c ≡ true → is_x c ≡ false
digit_no_x c e = grind (arith, nat_tests)

no_x : (digits : List ℕ) (c : ℕ) (rest : List ℕ) → AreDigits digits → is_x c ≡ false
    → begins_x (digits ++ c ∷ rest) ≡ false
no_x [] c rest all differs = differs
no_x (d ∷ digits) c rest all differs =
    digit_no_x d (and_parts (is_ascii_digit d) (list_all is_ascii_digit digits) all).0

float_behind_digit : (d : ℕ) (digits : List ℕ) (c : ℕ) (rest : List ℕ) → is_ascii_digit d ≡ true
    → AreDigits digits → is_ascii_digit c ≡ false → is_x c ≡ false
    → shape_of (d ∷ (digits ++ c ∷ rest)) ≡ shape.Float
float_behind_digit d digits c rest first all differs plain =
    let behind = digits ++ c ∷ rest in
    ap (λ (f : First). shape_at f behind) (digit_is d first)
    ∙ cond-false (begins_x behind || list_all is_ascii_digit behind) shape.Integer shape.Float
    (or_from (begins_x behind) (list_all is_ascii_digit behind) (no_x digits c rest all plain)
    (not_all digits c rest differs))

float_at_point : (whole rest : List ℕ) → AreDigits whole → 0 < length whole + length rest
    → shape_of (whole ++ 46 ∷ rest) ≡ shape.Float
float_at_point [] [] all some = absurd (omega arith)
float_at_point [] (c ∷ rest) all some = refl
float_at_point (d ∷ whole) rest all some =
    let parts = and_parts (is_ascii_digit d) (list_all is_ascii_digit whole) all in
    float_behind_digit d whole 46 rest parts.0 parts.1 refl refl

e_no_x : (c : ℕ) → is_e c ≡ true → is_x c ≡ false
e_no_x c e = grind (arith, nat_tests)

float_at_e : (whole : List ℕ) (e : ℕ) (rest : List ℕ) → AreDigits whole → 0 < length whole
    → is_e e ≡ true → shape_of (whole ++ e ∷ rest) ≡ shape.Float
float_at_e [] e rest all some is = absurd (omega arith)
float_at_e (d ∷ whole) e rest all some is =
    let parts = and_parts (is_ascii_digit d) (list_all is_ascii_digit whole) all in
    float_behind_digit d whole e rest parts.0 parts.1 (digit_no_e e is) (e_no_x e is)

float_apart : (text : List ℕ) → IsFloat text → shape_of text ≡ shape.Float
float_apart text (pointed whole fraction all parts some) = float_at_point whole fraction all some
float_apart text (scaled whole exponent all some fits) =
    let first = exponent_first exponent fits in
    ap (λ (l : List ℕ). shape_of (whole ++ l)) first.3
    ∙ float_at_e whole first.0 first.1 all some first.2
float_apart text (both whole fraction exponent all parts some fits) =
    float_at_point whole (fraction ++ exponent) all
    (omega (arith, some, length-append fraction exponent))

string_apart : (text : List ℕ) → IsString text → shape_of text ≡ shape.Str
string_apart text (quoted quote items is all) =
    ap (λ (f : First). shape_at f (items ++ quote ∷ [])) (quote_is quote is)

comment_apart : (text : List ℕ) → IsComment text → shape_of text ≡ shape.Comment
comment_apart text (line inside all) = refl
comment_apart text (block inside ends) = refl

marks_apart : list_all (λ mark. is_mark_shape (shape_of mark)) marks ≡ true
unfolding marks
marks_apart = refl

mark_apart : (text : List ℕ) → is_mark text ≡ true → shape_of text ≡ shape.Mark
mark_apart text fits =
    mark_shape_is (shape_of text)
    (any_all (λ mark. is_mark_shape (shape_of mark)) text marks fits marks_apart)

pub apart : (s : Shape) (text : List ℕ) → IsShape s text → shape_of text ≡ s
apart shape.Blank text fits = blank_apart text fits.0 fits.1
apart shape.Comment text fits = comment_apart text fits
apart shape.Word text fits = word_apart text fits
apart shape.Integer text fits = integer_apart text fits
apart shape.Float text fits = float_apart text fits
apart shape.Str text fits = string_apart text fits
apart shape.Mark text fits = mark_apart text fits
