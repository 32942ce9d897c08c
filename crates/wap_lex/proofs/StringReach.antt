-- Strings reach from their quote to the same quote.
use Rattle.std.proofs.Common.{◌≡◌, ℕ, zero, suc, ◌+◌, ◌<◌, ◌≤◌, Bool, true, false, cond}
use Rattle.std.proofs.Common.{eqb, ltb, List, [], ◌∷◌, ◌++◌, length, take, drop, inl, inr}
use Rattle.std.proofs.Common.{refl, sym, ap, subst, ◌∙◌, append_assoc, length-append}
use Rattle.std.proofs.Common.{length-drop, length-take, arith}
use Rattle.std.specs.Prelude.{◌&&◌, ◌||◌}
use Rattle.std.specs.Char.{is_ascii_hexdigit}
use Rattle.std.specs.List.{prefix_len}
use Rattle.std.proofs.lemmas.Bool.{and_from, cond-true, cond-false, eqb-true, eqb-false}
use Rattle.std.proofs.lemmas.Bool.{eq-eqb, ne_eqb, ltb-false, le-ltb, or_parts, or_from}
use Rattle.std.proofs.lemmas.Bool.{or_left, or_right, or_cases}
use Rattle.std.proofs.lemmas.Bool.Decides.{nat_tests}
use Rattle.std.proofs.lemmas.List.{drop_at, take-append-drop, length-take-le}
use Rattle.std.proofs.lemmas.List.{nil_from_length, drop-drop}
use Rattle.std.proofs.lemmas.List.Sums.{prefix_len-le-length}
use Rattle.std.proofs.Math.Seq.{take-append-add, take-add}
use Rattle.wap_lex.specs.Characters.{is_octal_digit, is_line_end, is_quote}
use Rattle.wap_lex.specs.Strings.{is_simple, is_surrogate, IsEscape, simple, octal}
use Rattle.wap_lex.specs.Strings.{hexadecimal, unicode, IsItem, escape, plain}
use Rattle.wap_lex.specs.Strings.{AreItems, none, more, IsString, quoted}
use Rattle.wap_lex.specs.Calculation.{more_by, unicode_len, escape_len, item_len}
use Rattle.wap_lex.specs.Calculation.{items_len, closed_len, string_len}
use Rattle.wap_lex.proofs.Runs.{run_over, run_first, run_more}
use Rattle.wap_lex.proofs.WordReach.{Reaches, test_within}
use Rattle.wap_lex.proofs.Loops.{items_end}
use Rattle.wap_lex.proofs.NumberReach.{more_some, more_from, kept_len, nonzero_len}

-- ---- escapes

abbrev hex : ℕ → Bool
hex = is_ascii_hexdigit

hex_two : (bytes : List ℕ) → 2 ≤ prefix_len hex bytes
    → (a : ℕ) × (b : ℕ) × (rest : List ℕ) × (bytes ≡ a ∷ b ∷ rest) × (hex a ≡ true) × (hex b ≡ true)
    × (prefix_len hex bytes ≡ 2 + prefix_len hex rest)
hex_two [] far = absurd (omega arith)
hex_two (a ∷ []) far = absurd (omega (arith, prefix_len-le-length hex (a ∷ [])))
hex_two (a ∷ b ∷ rest) far =
    let first = run_first hex a (b ∷ rest) (omega arith) in
    let one = run_more hex a (b ∷ rest) first in
    let second = run_first hex b rest (omega (arith, one)) in
    let two = run_more hex b rest second in
    (a, b, rest, refl, first, second, omega (arith, one, two))

hexadecimal_takes : (bytes : List ℕ) → 2 ≤ prefix_len hex bytes → IsEscape (120 ∷ take 2 bytes)
hexadecimal_takes bytes far =
    let two = hex_two bytes far in
    subst (λ (l : List ℕ). IsEscape (120 ∷ take 2 l)) (sym two.3)
    (hexadecimal two.0 two.1
    (and_from (hex two.0) (hex two.1 && true) two.4 (and_from (hex two.1) true two.5 refl)))

unicode_takes : (bytes : List ℕ) → 0 < unicode_len bytes
    → (unicode_len bytes ≡ 5) × IsEscape (117 ∷ take 4 bytes)
unicode_takes [] some = absurd (omega arith)
unicode_takes (a ∷ []) some = absurd (omega arith)
unicode_takes (a ∷ b ∷ digits) some =
    let run = prefix_len hex (a ∷ b ∷ digits) in
    let kept = nonzero_len (ltb run 4 || is_surrogate a b) 5 some in
    let parts = or_parts (ltb run 4) (is_surrogate a b) kept.0 in
    let four = ltb-false run 4 parts.0 in
    let first = hex_two (a ∷ b ∷ digits) (omega (arith, four)) in
    let a_is = run_first hex a (b ∷ digits) (omega (arith, four)) in
    let one = run_more hex a (b ∷ digits) a_is in
    let b_is = run_first hex b digits (omega (arith, one, four)) in
    let two = run_more hex b digits b_is in
    let second = hex_two digits (omega (arith, one, two, four)) in
    let c = second.0 in
    let d = second.1 in (
      kept.1,
      subst (λ (l : List ℕ). IsEscape (117 ∷ a ∷ b ∷ take 2 l)) (sym second.3)
          (unicode a b c d (and_from (hex a) (hex b && (hex c && (hex d && true))) a_is
          (and_from (hex b) (hex c && (hex d && true)) b_is (and_from (hex c)
          (hex d && true) second.4 (and_from (hex d) true second.5 refl)))) parts.1),
    )

pub escape_takes : (bytes : List ℕ) → 0 < escape_len bytes
    → IsEscape (take (escape_len bytes) bytes)
escape_takes [] some = absurd (omega arith)
escape_takes (c ∷ digits) some = by_simple (is_simple c || is_octal_digit c) refl where
  by_unicode : (b : Bool) → eqb c 117 ≡ b → 0 < cond b (unicode_len digits) 0
      → IsEscape (take (cond b (unicode_len digits) 0) (c ∷ digits))
  by_unicode true e left =
      let found = unicode_takes digits left in
      subst (λ (n : ℕ). IsEscape (take n (c ∷ digits))) (sym found.0)
      (subst (λ (d : ℕ). IsEscape (d ∷ take 4 digits)) (sym (eqb-true c 117 e)) found.1)
  by_unicode false e left = absurd (omega arith)

  by_hexadecimal : (b : Bool) → eqb c 120 ≡ b
      → 0
      < cond b (cond (ltb (prefix_len is_ascii_hexdigit digits) 2) 0 3)
      (cond (eqb c 117) (unicode_len digits) 0)
      → IsEscape (take (cond b (cond (ltb (prefix_len is_ascii_hexdigit digits) 2) 0 3)
      (cond (eqb c 117) (unicode_len digits) 0)) (c ∷ digits))
  by_hexadecimal true e left =
      let kept = nonzero_len (ltb (prefix_len is_ascii_hexdigit digits) 2) 3 left in
      subst (λ (n : ℕ). IsEscape (take n (c ∷ digits))) (sym kept.1)
      (subst (λ (d : ℕ). IsEscape (d ∷ take 2 digits)) (sym (eqb-true c 120 e))
      (hexadecimal_takes digits (ltb-false (prefix_len is_ascii_hexdigit digits) 2 kept.0)))
  by_hexadecimal false e left = by_unicode (eqb c 117) refl left

  by_simple : (b : Bool) → (is_simple c || is_octal_digit c) ≡ b
      → IsEscape (take (escape_len (c ∷ digits)) (c ∷ digits))
  by_simple true e =
      let len =
      cond-true (is_simple c || is_octal_digit c) 1
      (cond (eqb c 120) (cond (ltb (prefix_len is_ascii_hexdigit digits) 2) 0 3)
      (cond (eqb c 117) (unicode_len digits) 0)) e in
      subst (λ (n : ℕ). IsEscape (take n (c ∷ digits))) (sym len)
      (elim (or_cases (is_simple c) (is_octal_digit c) e) [
        | inl s ↦ simple c s
        | inr o ↦ octal c o
      ])
  by_simple false e =
      let len =
      cond-false (is_simple c || is_octal_digit c) 1
      (cond (eqb c 120) (cond (ltb (prefix_len is_ascii_hexdigit digits) 2) 0 3)
      (cond (eqb c 117) (unicode_len digits) 0)) e in
      subst (λ (n : ℕ). IsEscape (take n (c ∷ digits))) (sym len)
      (by_hexadecimal (eqb c 120) refl (subst (λ (n : ℕ). 0 < n) len some))

-- an escape is found whatever follows it
pub escape_again : (text rest : List ℕ) → IsEscape text → escape_len (text ++ rest) ≡ length text
escape_again text rest (simple c e) =
    cond-true (is_simple c || is_octal_digit c) 1 _ (or_left (is_simple c) (is_octal_digit c) e)
escape_again text rest (octal c e) =
    cond-true (is_simple c || is_octal_digit c) 1 _ (or_right (is_simple c) (is_octal_digit c) e)
escape_again text rest (hexadecimal a b all) =
    let over = run_over hex (a ∷ b ∷ []) rest all in
    cond-false (ltb (prefix_len hex (a ∷ b ∷ rest)) 2) 0 3
    (le-ltb (prefix_len hex (a ∷ b ∷ rest)) 2 (omega (arith, over)))
escape_again text rest (unicode a b c d all plain_is) =
    let over = run_over hex (a ∷ b ∷ c ∷ d ∷ []) rest all in
    let run = prefix_len hex (a ∷ b ∷ c ∷ d ∷ rest) in
    cond-false (ltb run 4 || is_surrogate a b) 0 5
    (or_from (ltb run 4) (is_surrogate a b) (le-ltb run 4 (omega (arith, over))) plain_is)

pub escape_some : (text : List ℕ) → IsEscape text → 0 < length text
escape_some text (simple c e) = omega arith
escape_some text (octal c e) = omega arith
escape_some text (hexadecimal a b all) = omega arith
escape_some text (unicode a b c d all plain_is) = omega arith

-- ---- items

item_takes : (quote : ℕ) (bytes : List ℕ) → 0 < item_len quote bytes
    → IsItem quote (take (item_len quote bytes) bytes)
item_takes quote [] some = absurd (omega arith)
item_takes quote (c ∷ rest) some = by_backslash (eqb c 92) refl where
  by_backslash : (b : Bool) → eqb c 92 ≡ b
      → IsItem quote (take (item_len quote (c ∷ rest)) (c ∷ rest))
  by_backslash true e =
      let kept =
      cond-true (eqb c 92) (more_by 1 (escape_len rest))
      (cond ((eqb c quote) || is_line_end c) 0 1) e in
      let from = more_from 1 (escape_len rest) (subst (λ (n : ℕ). 0 < n) kept some) in
      let len : item_len quote (c ∷ rest) ≡ suc (escape_len rest) = omega (arith, kept, from.1) in
      subst (λ (n : ℕ). IsItem quote (take n (c ∷ rest))) (sym len)
      (subst (λ (d : ℕ). IsItem quote (d ∷ take (escape_len rest) rest)) (sym (eqb-true c 92 e))
      (escape (take (escape_len rest) rest) (escape_takes rest from.0)))
  by_backslash false e =
      let kept =
      cond-false (eqb c 92) (more_by 1 (escape_len rest))
      (cond ((eqb c quote) || is_line_end c) 0 1) e in
      let one =
      nonzero_len ((eqb c quote) || is_line_end c) 1 (subst (λ (n : ℕ). 0 < n) kept some) in
      subst (λ (n : ℕ). IsItem quote (take n (c ∷ rest))) (sym (kept ∙ one.1)) (plain c e one.0)

pub item_again : (quote : ℕ) (text rest : List ℕ) → IsItem quote text
    → item_len quote (text ++ rest) ≡ length text
item_again quote text rest (escape inner fits) =
    let len = escape_again inner rest fits in
    more_some 1 (escape_len (inner ++ rest)) (omega (arith, len, escape_some inner fits))
    ∙ omega (arith, len)
item_again quote text rest (plain c other fits) =
    cond-false (eqb c 92) (more_by 1 (escape_len rest))
    (cond ((eqb c quote) || is_line_end c) 0 1) other
    ∙ cond-false ((eqb c quote) || is_line_end c) 0 1 fits

item_some : (quote : ℕ) (text : List ℕ) → IsItem quote text → 0 < length text
item_some quote text (escape inner fits) = omega arith
item_some quote text (plain c other fits) = omega arith

item_within : (quote : ℕ) (bytes : List ℕ) → 0 < item_len quote bytes
    → item_len quote bytes ≤ length bytes
item_within quote bytes some =
    let n = item_len quote bytes in
    let again = item_again quote (take n bytes) (drop n bytes) (item_takes quote bytes some) in
    omega (arith, again, ap (item_len quote) (take-append-drop n bytes), length-take n bytes)

one_within : (most quote : ℕ) (bytes : List ℕ) (b : Bool) → eqb (item_len quote bytes) 0 ≡ b
    → items_len most quote (drop (item_len quote bytes) bytes)
    ≤ length (drop (item_len quote bytes) bytes)
    → items_len (suc most) quote bytes ≤ length bytes
one_within most quote bytes true e rest = omega (
  arith,
  cond-true (eqb (item_len quote bytes) 0) 0
      (item_len quote bytes + items_len most quote (drop (item_len quote bytes) bytes)) e,
)
one_within most quote bytes false e rest =
    let item = item_len quote bytes in
    let len = cond-false (eqb item 0) 0 (item + items_len most quote (drop item bytes)) e in
    let some : 0 < item = omega (arith, eqb-false item 0 e) in
    omega (arith, len, rest, length-drop item bytes, item_within quote bytes some)

pub items_within : (most quote : ℕ) (bytes : List ℕ) → items_len most quote bytes ≤ length bytes
items_within zero quote bytes = omega arith
items_within (suc most) quote bytes =
    one_within most quote bytes (eqb (item_len quote bytes) 0) refl
    (items_within most quote (drop (item_len quote bytes) bytes))

-- what is read are items, and then none begins
pub record AreRead (quote : ℕ) (bytes : List ℕ) (most len : ℕ) : Type 0 where
  pub items : AreItems quote (take len bytes)
  pub over : length bytes ≤ most → item_len quote (drop len bytes) ≡ 0

one_read : (most quote : ℕ) (bytes : List ℕ) (b : Bool) → eqb (item_len quote bytes) 0 ≡ b
    → AreRead quote (drop (item_len quote bytes) bytes) most
    (items_len most quote (drop (item_len quote bytes) bytes))
    → AreRead quote bytes (suc most) (items_len (suc most) quote bytes)
one_read most quote bytes true e rest =
    let item = item_len quote bytes in
    let len = cond-true (eqb item 0) 0 (item + items_len most quote (drop item bytes)) e in
    record {
      items = subst (λ (n : ℕ). AreItems quote (take n bytes)) (sym len) none;
      over = λ few. ap (λ (n : ℕ). item_len quote (drop n bytes)) len ∙ eqb-true item 0 e;
    }
one_read most quote bytes false e rest =
    let item = item_len quote bytes in
    let behind = drop item bytes in
    let others = items_len most quote behind in
    let len = cond-false (eqb item 0) 0 (item + others) e in
    let some : 0 < item = omega (arith, eqb-false item 0 e) in
    record {
      items = subst (λ (n : ℕ). AreItems quote (take n bytes)) (sym len)
          (subst (AreItems quote) (sym (take-add item others bytes))
          (more (take item bytes) (take others behind) (item_takes quote bytes some) rest.items));
      over =
          λ few. ap (λ (n : ℕ). item_len quote (drop n bytes)) len
          ∙ ap (item_len quote) (sym (drop-drop others item bytes))
          ∙ rest.over (omega (arith, length-drop item bytes));
    }

pub items_read : (most quote : ℕ) (bytes : List ℕ)
    → AreRead quote bytes most (items_len most quote bytes)
items_read zero quote bytes =
    record { items = none; over = λ few. ap (item_len quote) (nil_from_length bytes (omega arith)) }
items_read (suc most) quote bytes =
    one_read most quote bytes (eqb (item_len quote bytes) 0) refl
    (items_read most quote (drop (item_len quote bytes) bytes))

-- items are read as what they are, where none begins after them
pub items_again : (quote most : ℕ) (items rest : List ℕ) → AreItems quote items
    → item_len quote rest ≡ 0 → length items ≤ most
    → items_len most quote (items ++ rest) ≡ length items
items_again quote most items rest none over few = items_end most quote rest over
items_again quote zero items rest (more item others fits left) over few =
    absurd (omega (arith, item_some quote item fits, length-append item others))
items_again quote (suc most) items rest (more item others fits left) over few =
    let whole = (item ++ others) ++ rest in
    let regroup = append_assoc item others rest in
    let len = ap (item_len quote) regroup ∙ item_again quote item (others ++ rest) fits in
    let behind =
    ap (λ (n : ℕ). drop n whole) len ∙ ap (drop (length item)) regroup
    ∙ drop_at item (others ++ rest) (length item) refl in
    let some = item_some quote item fits in
    let inner =
    ap (items_len most quote) behind ∙ items_again quote most others rest left over
    (omega (arith, some, length-append item others)) in
    cond-false (eqb (item_len quote whole) 0) 0
    (item_len quote whole + items_len most quote (drop (item_len quote whole) whole))
    (ne_eqb (item_len quote whole) 0 (λ e. omega (arith, len, e, some)))
    ∙ omega (arith, len, inner, length-append item others)

-- ---- strings

pub quote_ends : (quote : ℕ) (rest : List ℕ) → is_quote quote ≡ true
    → item_len quote (quote ∷ rest) ≡ 0
quote_ends quote rest is =
    let other : eqb quote 92 ≡ false = grind (arith, nat_tests) in
    cond-false (eqb quote 92) (more_by 1 (escape_len rest))
    (cond ((eqb quote quote) || is_line_end quote) 0 1) other
    ∙ cond-true ((eqb quote quote) || is_line_end quote) 0 1
    (or_left (eqb quote quote) (is_line_end quote) (eq-eqb quote quote refl))

closed_takes : (quote : ℕ) (items rest : List ℕ) → is_quote quote ≡ true → AreItems quote items
    → 0 < closed_len quote (length items) rest
    → IsString (take (closed_len quote (length items) rest) (quote ∷ (items ++ rest)))
closed_takes quote items [] is all some = absurd (omega arith)
closed_takes quote items (end ∷ rest) is all some =
    let kept = kept_len (eqb end quote) (1 + length items + 1) some in
    let len : closed_len quote (length items) (end ∷ rest) ≡ suc (length items + 1) =
    omega (arith, kept.1) in
    let text : take (length items + 1) (items ++ end ∷ rest) ≡ items ++ quote ∷ [] =
    take-append-add items (end ∷ rest) 1
    ∙ ap (λ (c : ℕ). items ++ c ∷ []) (eqb-true end quote kept.0) in
    subst (λ (n : ℕ). IsString (take n (quote ∷ (items ++ end ∷ rest)))) (sym len)
    (subst (λ (l : List ℕ). IsString (quote ∷ l)) (sym text) (quoted quote items is all))

string_takes : (bytes : List ℕ) → 0 < string_len bytes → IsString (take (string_len bytes) bytes)
string_takes [] some = absurd (omega arith)
string_takes (quote ∷ inside) some =
    let n = items_len (length inside) quote inside in
    let kept = kept_len (is_quote quote) (closed_len quote n (drop n inside)) some in
    let read = items_read (length inside) quote inside in
    let within = items_within (length inside) quote inside in
    let len : length (take n inside) ≡ n = length-take-le n inside within in
    let closed = ap (λ (k : ℕ). closed_len quote k (drop n inside)) len in
    let found =
    closed_takes quote (take n inside) (drop n inside) kept.0 read.items
    (subst (λ (k : ℕ). 0 < k) (sym (closed)) (subst (λ (k : ℕ). 0 < k) kept.1 some)) in
    subst (λ (k : ℕ). IsString (take k (quote ∷ inside))) (closed ∙ sym kept.1)
    (subst (λ (l : List ℕ).
    IsString (take (closed_len quote (length (take n inside)) (drop n inside)) (quote ∷ l)))
    (take-append-drop n inside) found)

-- a string is found whatever follows it
string_most : (text rest : List ℕ) → IsString text → length text ≤ string_len (text ++ rest)
string_most text rest (quoted quote items is all) =
    let inside = (items ++ quote ∷ []) ++ rest in
    let regroup = append_assoc items (quote ∷ []) rest in
    let n = items_len (length inside) quote inside in
    let read =
    ap (items_len (length inside) quote) regroup
    ∙ items_again quote (length inside) items (quote ∷ rest) all (quote_ends quote rest is)
    (omega (arith, ap length regroup, length-append items (quote ∷ rest))) in
    let behind =
    ap (λ (k : ℕ). drop k inside) read ∙ ap (drop (length items)) regroup
    ∙ drop_at items (quote ∷ rest) (length items) refl in
    let kept = cond-true (is_quote quote) (closed_len quote n (drop n inside)) 0 is in
    let closed =
    ap (closed_len quote n) behind
    ∙ cond-true (eqb quote quote) (1 + n + 1) 0 (eq-eqb quote quote refl) in
    omega (arith, kept, closed, read, length-append items (quote ∷ []))

string_some : (text : List ℕ) → IsString text → 0 < length text
string_some text (quoted quote items is all) = omega arith

closed_within : (quote n : ℕ) (rest : List ℕ) → closed_len quote n rest ≤ 1 + n + length rest
closed_within quote n [] = omega arith
closed_within quote n (end ∷ rest) =
    test_within (eqb end quote) (1 + n + 1) 0 (1 + n + suc (length rest))
    (omega arith) (omega arith)

string_within : (bytes : List ℕ) → string_len bytes ≤ length bytes
string_within [] = omega arith
string_within (quote ∷ inside) =
    let n = items_len (length inside) quote inside in
    test_within (is_quote quote) (closed_len quote n (drop n inside)) 0 (suc (length inside))
    (omega (
      arith,
      closed_within quote n (drop n inside),
      length-drop n inside,
      items_within (length inside) quote inside,
    )) (omega arith)

pub strings : Reaches string_len IsString
strings =
    record { takes = string_takes; most = string_most; some = string_some; within = string_within }
