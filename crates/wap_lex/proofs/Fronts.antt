-- What bytes begin with: a piece, or the first thing that is wrong.
use Rattle.std.proofs.Common.{◌≡◌, ℕ, zero, suc, ◌+◌, ◌<◌, ◌≤◌, Bool, true, false, cond, eqb, ltb}
use Rattle.std.proofs.Common.{leb, List, [], ◌∷◌, ◌++◌, length, take, drop, Result, Ok, Err, ◌⊎◌}
use Rattle.std.proofs.Common.{inl, inr, refl, sym, ap, subst, ◌∙◌, arith, length-append}
use Rattle.std.specs.Prelude.{◌&&◌, ◌||◌}
use Rattle.std.proofs.lemmas.Bool.{and_parts, and_left, cond-true, cond-false, eqb-true, eqb-false}
use Rattle.std.proofs.lemmas.Bool.{eq-eqb, ne_eqb, ltb-true, ltb-false, leb-true, leb-false, lt-leb}
use Rattle.std.proofs.lemmas.Bool.{or_right, or_cases, both_ways, false_from_ne_true}
use Rattle.std.proofs.lemmas.Bool.Decides.{nat_tests}
use Rattle.std.proofs.lemmas.List.{take_at, drop_at, take-append-drop, length-take-le}
use Rattle.wap_base.proofs.Choices.{ok_same, err_same}
use Rattle.wap_lex.specs.declared.first.First.{First}
use Rattle.wap_lex.specs.declared.shape.Shape.{Shape}
use Rattle.wap_lex.specs.declared.shape.Shape.TheVariants as shape
use Rattle.wap_lex.specs.declared.fault.LexFault.{LexFault}
use Rattle.wap_lex.specs.declared.fault.LexFault.TheVariants as fault
use Rattle.wap_lex.specs.Characters.{is_quote, is_line_end}
use Rattle.wap_lex.specs.Numbers.{integer_value, integer_limit}
use Rattle.wap_lex.specs.Strings.{AreItems}
use Rattle.wap_lex.specs.Marks.{marks, is_mark}
use Rattle.wap_lex.specs.Tokens.{IsShape, IsOpenComment, IsPiece, IsInRange, BeginsNoEscape}
use Rattle.wap_lex.specs.Tokens.{Stops, character, string, escape, comment, integer}
use Rattle.wap_lex.specs.Calculation.{more_by, escape_len, item_len, items_len, closed_len}
use Rattle.wap_lex.specs.Calculation.{string_len, block_len, comment_len, is_open_comment}
use Rattle.wap_lex.specs.Calculation.{longest, string_fault, bad_front, in_range, piece_at}
use Rattle.wap_lex.proofs.NumberReach.{more_none, more_some}
use Rattle.wap_lex.proofs.StringReach.{escape_takes, escape_again, escape_some}
use Rattle.wap_lex.proofs.StringReach.{items_within, items_read, items_again, strings}
use Rattle.wap_lex.proofs.CommentReach.{comments}
use Rattle.wap_lex.proofs.Apart.{quote_is, shape_at, apart}
use Rattle.wap_lex.proofs.Longest.{reach, none_longer, longest_fits, within_longest}
use Rattle.wap_lex.proofs.Longest.{longest_within, longest_is}

-- ---- open comments

open_comment : (rest : List ℕ) → block_len false rest ≡ 0 → IsOpenComment (47 ∷ 42 ∷ rest)
open_comment rest over = record {
  inside = rest;
  begins = refl;
  open_still = λ text more same fits.
      let far = comments.most text more fits in
      let len = ap comment_len (sym same) ∙ more_none 2 (block_len false rest) over in
      omega (arith, far, len, comments.some text fits);
}

open_is : (bytes : List ℕ) → is_open_comment bytes ≡ true → IsOpenComment bytes
open_is [] e = absurd cc
open_is (a ∷ []) e = absurd cc
open_is (a ∷ b ∷ rest) e =
    let parts = and_parts (eqb a 47) ((eqb b 42) && (eqb (block_len false rest) 0)) e in
    let others = and_parts (eqb b 42) (eqb (block_len false rest) 0) parts.1 in
    subst (λ (c : ℕ). IsOpenComment (c ∷ b ∷ rest)) (sym (eqb-true a 47 parts.0))
    (subst (λ (c : ℕ). IsOpenComment (47 ∷ c ∷ rest)) (sym (eqb-true b 42 others.0))
    (open_comment rest (eqb-true (block_len false rest) 0 others.1)))

open_again : (bytes : List ℕ) → IsOpenComment bytes → is_open_comment bytes ≡ true
open_again bytes open_one =
    subst (λ (l : List ℕ). is_open_comment l ≡ true) (sym open_one.begins)
    (by_len (ltb 0 (block_len false open_one.inside)) refl) where
      by_len : (b : Bool) → ltb 0 (block_len false open_one.inside) ≡ b
          → eqb (block_len false open_one.inside) 0 ≡ true
      by_len false e =
          eq-eqb (block_len false open_one.inside) 0
          (omega (arith, ltb-false 0 (block_len false open_one.inside) e))
      by_len true e =
          let some = ltb-true 0 (block_len false open_one.inside) e in
          let len =
          cond-false (eqb (block_len false open_one.inside) 0) 0
          (2 + block_len false open_one.inside)
          (ne_eqb (block_len false open_one.inside) 0 (λ none. omega (arith, none, some))) in
          let n = comment_len bytes in
          let long : 0 < n = omega (arith, len, ap comment_len open_one.begins) in
          absurd (open_one.open_still (take n bytes) (drop n bytes) (sym (take-append-drop n bytes))
          (comments.takes bytes long))

closed_is : (bytes : List ℕ) → is_open_comment bytes ≡ false → IsOpenComment bytes → ⊥
closed_is bytes e open_one = both_ways (is_open_comment bytes) e (open_again bytes open_one)

closed_again : (bytes : List ℕ) → (IsOpenComment bytes → ⊥) → is_open_comment bytes ≡ false
closed_again bytes closed =
    false_from_ne_true (is_open_comment bytes) (λ e. closed (open_is bytes e))

-- ---- pieces

-- what a piece that was found is
pub record Finds (bytes : List ℕ) (s : Shape) (n : ℕ) : Type 0 where
  pub piece : IsPiece s (take n bytes) (drop n bytes)
  pub range : IsInRange s (take n bytes)
  pub some : 0 < n
  pub within : n ≤ length bytes

-- what an integer past the limit gives, and anything else
in_range_cases : (at : ℕ) (s : Shape) (n : ℕ) (bytes : List ℕ)
    → ((in_range at s n bytes ≡ Ok (s, n)) × IsInRange s (take n bytes))
    ⊎ ((in_range at s n bytes ≡ Err (fault.IntRange at)) × (s ≡ shape.Integer)
    × (integer_limit < integer_value (take n bytes)))
in_range_cases at shape.Blank n bytes = inl (refl, λ e. absurd cc)
in_range_cases at shape.Comment n bytes = inl (refl, λ e. absurd cc)
in_range_cases at shape.Word n bytes = inl (refl, λ e. absurd cc)
in_range_cases at shape.Integer n bytes =
    by_value (leb (integer_value (take n bytes)) integer_limit) refl where
      by_value : (b : Bool) → leb (integer_value (take n bytes)) integer_limit ≡ b
          → ((in_range at shape.Integer n bytes ≡ Ok (shape.Integer, n))
          × IsInRange shape.Integer (take n bytes))
          ⊎ ((in_range at shape.Integer n bytes ≡ Err (fault.IntRange at))
          × (shape.Integer ≡ shape.Integer) × (integer_limit < integer_value (take n bytes)))
      by_value true e = inl (
        cond-true (leb (integer_value (take n bytes)) integer_limit) (Ok (shape.Integer, n))
            (Err (fault.IntRange at)) e,
        λ _. leb-true (integer_value (take n bytes)) integer_limit e,
      )
      by_value false e = inr (
        cond-false (leb (integer_value (take n bytes)) integer_limit) (Ok (shape.Integer, n))
            (Err (fault.IntRange at)) e,
        refl,
        leb-false (integer_value (take n bytes)) integer_limit e,
      )
in_range_cases at shape.Float n bytes = inl (refl, λ e. absurd cc)
in_range_cases at shape.Str n bytes = inl (refl, λ e. absurd cc)
in_range_cases at shape.Mark n bytes = inl (refl, λ e. absurd cc)

longest_piece : (bytes : List ℕ) → is_open_comment bytes ≡ false → 0 < (longest bytes).1
    → IsPiece (longest bytes).0 (take (longest bytes).1 bytes) (drop (longest bytes).1 bytes)
longest_piece bytes closed some =
    let n = (longest bytes).1 in
    let whole = take-append-drop n bytes in
    record {
      fits = longest_fits bytes some;
      longest = λ other far after same fits.
          let bound = within_longest other far after fits in
          let here = ap (λ (l : List ℕ). (longest l).1) (sym same ∙ whole) in
          omega (arith, bound, here, length-take-le n bytes (longest_within bytes));
      closed = λ open_one. closed_is bytes closed (subst IsOpenComment whole open_one);
    }

-- the three ways that reading the next piece goes
data Goes (at : ℕ) (bytes : List ℕ) : Type 0 where
  opens : is_open_comment bytes ≡ true → piece_at at bytes ≡ Err (fault.OpenComment at)
      → Goes at bytes
  nothing : is_open_comment bytes ≡ false → (longest bytes).1 ≡ 0
      → piece_at at bytes ≡ Err (bad_front at bytes) → Goes at bytes
  found : is_open_comment bytes ≡ false → 0 < (longest bytes).1
      → piece_at at bytes ≡ in_range at (longest bytes).0 (longest bytes).1 bytes → Goes at bytes

goes_len : (at : ℕ) (bytes : List ℕ) (b : Bool) → is_open_comment bytes ≡ false
    → eqb (longest bytes).1 0 ≡ b → Goes at bytes
unfolding piece_at
goes_len at bytes true closed e = nothing closed (eqb-true (longest bytes).1 0 e)
    (cond-false (is_open_comment bytes) (Err (fault.OpenComment at)) _ closed
    ∙ cond-true (eqb (longest bytes).1 0) (Err (bad_front at bytes))
    (in_range at (longest bytes).0 (longest bytes).1 bytes) e)
goes_len at bytes false closed e = found closed (omega (arith, eqb-false (longest bytes).1 0 e))
    (cond-false (is_open_comment bytes) (Err (fault.OpenComment at)) _ closed
    ∙ cond-false (eqb (longest bytes).1 0) (Err (bad_front at bytes))
    (in_range at (longest bytes).0 (longest bytes).1 bytes) e)

goes_open : (at : ℕ) (bytes : List ℕ) (b : Bool) → is_open_comment bytes ≡ b → Goes at bytes
unfolding piece_at
goes_open at bytes true e =
    opens e (cond-true (is_open_comment bytes) (Err (fault.OpenComment at)) _ e)
goes_open at bytes false e = goes_len at bytes (eqb (longest bytes).1 0) e refl

goes : (at : ℕ) (bytes : List ℕ) → Goes at bytes
goes at bytes = goes_open at bytes (is_open_comment bytes) refl

ok_pair : (a b : Shape) (m n : ℕ) → ◌≡◌ {A = Result (Shape × ℕ) LexFault} (Ok (a, m)) (Ok (b, n))
    → (a ≡ b) × (m ≡ n)
ok_pair a b m n e =
    let same = ok_same (a, m) (b, n) e in
    (ap (λ (x : Shape × ℕ). x.0) same, ap (λ (x : Shape × ℕ). x.1) same)

-- what is found is a piece
pub piece_ok : (at : ℕ) (bytes : List ℕ) (s : Shape) (n : ℕ) → piece_at at bytes ≡ Ok (s, n)
    → Finds bytes s n
piece_ok at bytes s n e = by_way (goes at bytes) where
  by_range : is_open_comment bytes ≡ false → 0 < (longest bytes).1
      → in_range at (longest bytes).0 (longest bytes).1 bytes ≡ Ok (s, n)
      → ((in_range at (longest bytes).0 (longest bytes).1 bytes
      ≡ Ok ((longest bytes).0, (longest bytes).1))
      × IsInRange (longest bytes).0 (take (longest bytes).1 bytes))
      ⊎ ((in_range at (longest bytes).0 (longest bytes).1 bytes ≡ Err (fault.IntRange at))
      × ((longest bytes).0 ≡ shape.Integer)
      × (integer_limit < integer_value (take (longest bytes).1 bytes)))
      → Finds bytes s n
  by_range closed some is (inl fine) =
      let same = ok_pair (longest bytes).0 s (longest bytes).1 n (sym fine.0 ∙ is) in
      let here : Finds bytes (longest bytes).0 (longest bytes).1 = record {
        piece = longest_piece bytes closed some;
        range = fine.1;
        some = some;
        within = longest_within bytes;
      } in
      subst (λ (t : Shape). Finds bytes t n) same.0
      (subst (λ (m : ℕ). Finds bytes (longest bytes).0 m) same.1 here)
  by_range closed some is (inr far) = absurd cc

  by_way : Goes at bytes → Finds bytes s n
  by_way (opens open_one is) = absurd cc
  by_way (nothing closed none is) = absurd cc
  by_way (found closed some is) =
      by_range closed some (sym is ∙ e)
      (in_range_cases at (longest bytes).0 (longest bytes).1 bytes)

-- the way at a piece
at_piece : (at : ℕ) (s : Shape) (text more : List ℕ) → IsPiece s text more
    → piece_at at (text ++ more) ≡ in_range at s (length text) (text ++ more)
at_piece at s text more piece = by_way (goes at (text ++ more)) where
  by_way : Goes at (text ++ more)
      → piece_at at (text ++ more) ≡ in_range at s (length text) (text ++ more)
  by_way (opens open_one is) = absurd (piece.closed (open_is (text ++ more) open_one))
  by_way (nothing closed none is) =
      absurd
      (omega (arith, none, within_longest s text more piece.fits, (reach s).some text piece.fits))
  by_way (found closed some is) =
      is ∙ ap (λ (best : Shape × ℕ). in_range at best.0 best.1 (text ++ more))
      (longest_is s text more piece.fits piece.longest)

-- a piece is found
pub piece_again : (at : ℕ) (s : Shape) (text more : List ℕ) → IsPiece s text more → IsInRange s text
    → piece_at at (text ++ more) ≡ Ok (s, length text)
piece_again at s text more piece range =
    at_piece at s text more piece
    ∙ by_range (in_range_cases at s (length text) (text ++ more)) where
      by_range : ((in_range at s (length text) (text ++ more) ≡ Ok (s, length text))
          × IsInRange s (take (length text) (text ++ more)))
          ⊎ ((in_range at s (length text) (text ++ more) ≡ Err (fault.IntRange at))
          × (s ≡ shape.Integer)
          × (integer_limit < integer_value (take (length text) (text ++ more))))
          → in_range at s (length text) (text ++ more) ≡ Ok (s, length text)
      by_range (inl fine) = fine.0
      by_range (inr far) =
          let value = ap integer_value (take_at text more (length text) refl) in
          absurd (omega (arith, far.2, value, range far.1))

-- ---- what is wrong

nothing_fits : (bytes : List ℕ) → (longest bytes).1 ≡ 0
    → (s : Shape) (text more : List ℕ) → bytes ≡ text ++ more → IsShape s text → ⊥
nothing_fits bytes none s text more same fits =
    omega (
      arith,
      within_longest s text more fits,
      ap (λ (l : List ℕ). (longest l).1) same,
      none,
      (reach s).some text fits,
    )

no_escape : (rest : List ℕ) → escape_len rest ≡ 0 → BeginsNoEscape rest
no_escape rest none text more same fits =
    omega (arith, escape_again text more fits, ap escape_len same, none, escape_some text fits)

no_escape_len : (rest : List ℕ) → BeginsNoEscape rest → escape_len rest ≡ 0
no_escape_len rest none = by_len (ltb 0 (escape_len rest)) refl where
  by_len : (b : Bool) → ltb 0 (escape_len rest) ≡ b → escape_len rest ≡ 0
  by_len true e =
      absurd (none (take (escape_len rest) rest) (drop (escape_len rest) rest)
      (sym (take-append-drop (escape_len rest) rest))
      (escape_takes rest (ltb-true 0 (escape_len rest) e)))
  by_len false e = omega (arith, ltb-false 0 (escape_len rest) e)

-- a string that is read up to where no item begins and the quote doesn't stand
unended_string : (quote : ℕ) (items left : List ℕ) → AreItems quote items → item_len quote left ≡ 0
    → closed_len quote (length items) left ≡ 0 → string_len (quote ∷ (items ++ left)) ≡ 0
unended_string quote items left all over open_end =
    let inside = items ++ left in
    let n = items_len (length inside) quote inside in
    let read =
    items_again quote (length inside) items left all over
    (omega (arith, length-append items left)) in
    let behind = ap (λ (k : ℕ). drop k inside) read ∙ drop_at items left (length items) refl in
    let closed =
    ap (λ (k : ℕ). closed_len quote k (drop n inside)) read
    ∙ ap (closed_len quote (length items)) behind ∙ open_end in
    by_quote (is_quote quote) refl closed where
      by_quote : (b : Bool) → is_quote quote ≡ b
          → closed_len quote (items_len (length (items ++ left)) quote (items ++ left))
          (drop (items_len (length (items ++ left)) quote (items ++ left)) (items ++ left))
          ≡ 0
          → string_len (quote ∷ (items ++ left)) ≡ 0
      by_quote true e closed =
          cond-true (is_quote quote)
          (closed_len quote (items_len (length (items ++ left)) quote (items ++ left))
          (drop (items_len (length (items ++ left)) quote (items ++ left)) (items ++ left))) 0 e
          ∙ closed
      by_quote false e closed =
          cond-false (is_quote quote)
          (closed_len quote (items_len (length (items ++ left)) quote (items ++ left))
          (drop (items_len (length (items ++ left)) quote (items ++ left)) (items ++ left))) 0 e

quote_not_open : (quote : ℕ) (rest : List ℕ) → is_quote quote ≡ true
    → is_open_comment (quote ∷ rest) ≡ false
quote_not_open quote [] is = refl
quote_not_open quote (b ∷ rest) is =
    and_left (eqb quote 47) ((eqb b 42) && (eqb (block_len false rest) 0)) (no_slash quote is) where
      no_slash : (c : ℕ) → is_quote c ≡ true → eqb c 47 ≡ false
      no_slash c e = grind (arith, nat_tests)

-- at a quote nothing but a string may begin
quote_alone : (quote : ℕ) (rest : List ℕ) → is_quote quote ≡ true → string_len (quote ∷ rest) ≡ 0
    → (longest (quote ∷ rest)).1 ≡ 0
quote_alone quote rest is none = by_len (ltb 0 (longest (quote ∷ rest)).1) refl where
  at_len : (n : ℕ) (s : Shape) → 0 < n → IsShape s (take n (quote ∷ rest)) → s ≡ shape.Str
  at_len zero s some fits = absurd (omega arith)
  at_len (suc n) s some fits =
      sym (apart s (take (suc n) (quote ∷ rest)) fits)
      ∙ ap (λ (f : First). shape_at f (take n rest)) (quote_is quote is)

  by_len : (b : Bool) → ltb 0 (longest (quote ∷ rest)).1 ≡ b → (longest (quote ∷ rest)).1 ≡ 0
  by_len false e = omega (arith, ltb-false 0 (longest (quote ∷ rest)).1 e)
  by_len true e =
      let bytes = quote ∷ rest in
      let some = ltb-true 0 (longest bytes).1 e in
      let n = (longest bytes).1 in
      let fits = longest_fits bytes some in
      let string_is =
      subst (λ (t : Shape). IsShape t (take n bytes)) (at_len n (longest bytes).0 some fits) fits in
      let far = strings.most (take n bytes) (drop n bytes) string_is in
      absurd (omega (
        arith,
        far,
        ap string_len (take-append-drop n bytes),
        none,
        strings.some (take n bytes) string_is,
      ))

-- ---- the faults, both ways

none_from : (n : ℕ) → more_by 1 n ≡ 0 → n ≡ 0
none_from n e = by_len (ltb 0 n) refl where
  by_len : (b : Bool) → ltb 0 n ≡ b → n ≡ 0
  by_len true some = absurd (omega (arith, e, more_some 1 n (ltb-true 0 n some)))
  by_len false none = omega (arith, ltb-false 0 n none)

string_stops : (at quote : ℕ) (items left : List ℕ) → is_quote quote ≡ true → AreItems quote items
    → item_len quote left ≡ 0 → closed_len quote (length items) left ≡ 0
    → Stops at (quote ∷ (items ++ left)) (string_fault at (length items) left)
string_stops at quote items [] is all over open_end = string quote items [] is all tt
string_stops at quote items (c ∷ left) is all over open_end = by_backslash (eqb c 92) refl where
  by_end : ((eqb c quote) || is_line_end c) ≡ true → is_line_end c ≡ true
  by_end e = elim (or_cases (eqb c quote) (is_line_end c) e) [
    | inl same ↦
        absurd
        (omega (arith, sym (cond-true (eqb c quote) (1 + length items + 1) 0 same) ∙ open_end))
    | inr end ↦ end
  ]

  ends_line : (b : Bool) → ((eqb c quote) || is_line_end c) ≡ b → ◌≡◌ {A = ℕ} (cond b 0 1) 0
      → ((eqb c quote) || is_line_end c) ≡ true
  ends_line true e none = e
  ends_line false e none = absurd (omega (arith, none))

  by_backslash : (b : Bool) → eqb c 92 ≡ b
      → Stops at (quote ∷ (items ++ c ∷ left)) (string_fault at (length items) (c ∷ left))
  by_backslash true e =
      let len =
      sym (cond-true (eqb c 92) (more_by 1 (escape_len left))
      (cond ((eqb c quote) || is_line_end c) 0 1) e) ∙ over in
      subst (Stops at (quote ∷ (items ++ c ∷ left)))
      (sym (cond-true (eqb c 92) (fault.BadEscape (at + 1 + length items)) (fault.OpenString at) e))
      (subst (λ (d : ℕ). Stops at (quote ∷ (items ++ d ∷ left))
      (fault.BadEscape (at + 1 + length items))) (sym (eqb-true c 92 e))
      (escape quote items left is all (no_escape left (none_from (escape_len left) len))))
  by_backslash false e =
      let len =
      sym (cond-false (eqb c 92) (more_by 1 (escape_len left))
      (cond ((eqb c quote) || is_line_end c) 0 1) e) ∙ over in
      subst (Stops at (quote ∷ (items ++ c ∷ left))) (sym
      (cond-false (eqb c 92) (fault.BadEscape (at + 1 + length items)) (fault.OpenString at) e))
      (string quote items (c ∷ left) is all
      (by_end (ends_line ((eqb c quote) || is_line_end c) refl len)))

front_stops : (at c : ℕ) (rest : List ℕ) (b : Bool) → is_quote c ≡ b → (longest (c ∷ rest)).1 ≡ 0
    → Stops at (c ∷ rest) (bad_front at (c ∷ rest))
front_stops at c rest true is none =
    let n = items_len (length rest) c rest in
    let items = take n rest in
    let left = drop n rest in
    let read = items_read (length rest) c rest in
    let len : length items ≡ n = length-take-le n rest (items_within (length rest) c rest) in
    let over = read.over (omega arith) in
    let short : string_len (c ∷ rest) ≡ 0 = omega (arith, none, none_longer (c ∷ rest) shape.Str) in
    let closed =
    ap (λ (k : ℕ). closed_len c k left) len
    ∙ sym (cond-true (is_quote c) (closed_len c n left) 0 is) ∙ short in
    let told =
    ap (λ (k : ℕ). string_fault at k left) len
    ∙ sym (cond-true (is_quote c) (string_fault at n left) (fault.BadChar at) is) in
    subst (Stops at (c ∷ rest)) told
    (subst (λ (l : List ℕ). Stops at (c ∷ l) (string_fault at (length items) left))
    (take-append-drop n rest)
    (string_stops at c items left is read.items over closed))
front_stops at c rest false is none =
    let n = items_len (length rest) c rest in
    subst (Stops at (c ∷ rest))
    (sym (cond-false (is_quote c) (string_fault at n (drop n rest)) (fault.BadChar at) is))
    (character c rest is (nothing_fits (c ∷ rest) none))

-- a fault is what is wrong
pub piece_err : (at c : ℕ) (rest : List ℕ) (f : LexFault) → piece_at at (c ∷ rest) ≡ Err f
    → Stops at (c ∷ rest) f
piece_err at c rest f e = by_way (goes at (c ∷ rest)) where
  by_range : is_open_comment (c ∷ rest) ≡ false → 0 < (longest (c ∷ rest)).1
      → in_range at (longest (c ∷ rest)).0 (longest (c ∷ rest)).1 (c ∷ rest) ≡ Err f
      → ((in_range at (longest (c ∷ rest)).0 (longest (c ∷ rest)).1 (c ∷ rest)
      ≡ Ok ((longest (c ∷ rest)).0, (longest (c ∷ rest)).1))
      × IsInRange (longest (c ∷ rest)).0 (take (longest (c ∷ rest)).1 (c ∷ rest)))
      ⊎ ((in_range at (longest (c ∷ rest)).0 (longest (c ∷ rest)).1 (c ∷ rest)
      ≡ Err (fault.IntRange at)) × ((longest (c ∷ rest)).0 ≡ shape.Integer)
      × (integer_limit < integer_value (take (longest (c ∷ rest)).1 (c ∷ rest))))
      → Stops at (c ∷ rest) f
  by_range closed some is (inl fine) = absurd cc
  by_range closed some is (inr far) =
      let n = (longest (c ∷ rest)).1 in
      let piece =
      subst (λ (s : Shape). IsPiece s (take n (c ∷ rest)) (drop n (c ∷ rest))) far.1
      (longest_piece (c ∷ rest) closed some) in
      subst (Stops at (c ∷ rest)) (err_same (fault.IntRange at) f (sym far.0 ∙ is))
      (subst (λ (l : List ℕ). Stops at l (fault.IntRange at)) (take-append-drop n (c ∷ rest))
      (integer (take n (c ∷ rest)) (drop n (c ∷ rest)) piece far.2))

  by_way : Goes at (c ∷ rest) → Stops at (c ∷ rest) f
  by_way (opens open_one is) =
      subst (Stops at (c ∷ rest)) (err_same (fault.OpenComment at) f (sym is ∙ e))
      (comment (c ∷ rest) (open_is (c ∷ rest) open_one))
  by_way (nothing closed none is) =
      subst (Stops at (c ∷ rest)) (err_same (bad_front at (c ∷ rest)) f (sym is ∙ e))
      (front_stops at c rest (is_quote c) refl none)
  by_way (found closed some is) =
      by_range closed some (sym is ∙ e)
      (in_range_cases at (longest (c ∷ rest)).0 (longest (c ∷ rest)).1 (c ∷ rest))

-- where nothing begins
at_nothing : (at : ℕ) (bytes : List ℕ) → is_open_comment bytes ≡ false → (longest bytes).1 ≡ 0
    → piece_at at bytes ≡ Err (bad_front at bytes)
at_nothing at bytes closed none = by_way (goes at bytes) where
  by_way : Goes at bytes → piece_at at bytes ≡ Err (bad_front at bytes)
  by_way (opens open_one is) = absurd (both_ways (is_open_comment bytes) closed open_one)
  by_way (nothing closed' none' is) = is
  by_way (found closed' some is) = absurd (omega (arith, none, some))

unended : (at quote : ℕ) (items left : List ℕ) → is_quote quote ≡ true → AreItems quote items
    → item_len quote left ≡ 0 → closed_len quote (length items) left ≡ 0
    → piece_at at (quote ∷ (items ++ left)) ≡ Err (string_fault at (length items) left)
unended at quote items left is all over open_end =
    let inside = items ++ left in
    let n = items_len (length inside) quote inside in
    let short = unended_string quote items left all over open_end in
    let read =
    items_again quote (length inside) items left all over
    (omega (arith, length-append items left)) in
    let behind = ap (λ (k : ℕ). drop k inside) read ∙ drop_at items left (length items) refl in
    at_nothing at (quote ∷ inside) (quote_not_open quote inside is)
    (quote_alone quote inside is short)
    ∙ ap (λ (f : LexFault). Err f)
    (cond-true (is_quote quote) (string_fault at n (drop n inside)) (fault.BadChar at) is
    ∙ ap (λ (k : ℕ). string_fault at k (drop n inside)) read
    ∙ ap (string_fault at (length items)) behind)

no_backslash : (c : ℕ) → is_line_end c ≡ true → (eqb c 92 ≡ false)
no_backslash c e = grind (arith, nat_tests)

no_quote : (quote c : ℕ) → is_quote quote ≡ true → is_line_end c ≡ true → eqb c quote ≡ false
no_quote quote c is e = grind (arith, nat_tests)

quote_no_backslash : (quote : ℕ) → is_quote quote ≡ true → eqb 92 quote ≡ false
quote_no_backslash quote is = grind (arith, nat_tests)

no_slash_mark : is_mark (47 ∷ []) ≡ true
unfolding marks
no_slash_mark = refl

-- what is wrong is reported
pub piece_stops : (at : ℕ) (bytes : List ℕ) (f : LexFault) → Stops at bytes f
    → (bytes ≡ [] → ⊥) × (piece_at at bytes ≡ Err f)
piece_stops at bytes f (character c rest is nothing_is) =
    let closed =
    closed_again (c ∷ rest) (λ open_one.
    nothing_is shape.Mark (47 ∷ []) (42 ∷ open_one.inside) open_one.begins no_slash_mark) in
    let n = (longest (c ∷ rest)).1 in
    let m = items_len (length rest) c rest in (
      λ none. cc,
      at_nothing at (c ∷ rest) closed (no_length n (λ some.
          nothing_is (longest (c ∷ rest)).0 (take n (c ∷ rest)) (drop n (c ∷ rest))
          (sym (take-append-drop n (c ∷ rest))) (longest_fits (c ∷ rest) some)))
          ∙ ap (λ (f : LexFault). Err f)
          (cond-false (is_quote c) (string_fault at m (drop m rest)) (fault.BadChar at) is),
    ) where
      no_length : (n : ℕ) → (0 < n → ⊥) → n ≡ 0
      no_length zero none = refl
      no_length (suc n) none = absurd (none (omega arith))
piece_stops at bytes f (string quote items [] is all ends) =
    (λ none. cc, unended at quote items [] is all refl refl)
piece_stops at bytes f (string quote items (c ∷ left) is all ends) =
    let over =
    cond-false (eqb c 92) (more_by 1 (escape_len left)) (cond ((eqb c quote) || is_line_end c) 0 1)
    (no_backslash c ends)
    ∙ cond-true ((eqb c quote) || is_line_end c) 0 1
    (or_right (eqb c quote) (is_line_end c) ends) in
    let open_end = cond-false (eqb c quote) (1 + length items + 1) 0 (no_quote quote c is ends) in (
      λ none. cc,
      unended at quote items (c ∷ left) is all over open_end
          ∙ ap (λ (f : LexFault). Err f) (cond-false (eqb c 92)
          (fault.BadEscape (at + 1 + length items)) (fault.OpenString at) (no_backslash c ends)),
    )
piece_stops at bytes f (escape quote items left is all none_begins) =
    let over = more_none 1 (escape_len left) (no_escape_len left none_begins) in (
      λ none. cc,
      unended at quote items (92 ∷ left) is all over
          (cond-false (eqb 92 quote) (1 + length items + 1) 0 (quote_no_backslash quote is)),
    )
piece_stops at bytes f (comment bytes' open_one) =
    (λ none. opened (sym none ∙ open_one.begins), by_way (goes at bytes)) where
      opened : [] ≡ 47 ∷ 42 ∷ open_one.inside → ⊥
      opened e = cc

      by_way : Goes at bytes → piece_at at bytes ≡ Err (fault.OpenComment at)
      by_way (opens open_is' is) = is
      by_way (nothing closed none is) = absurd (closed_is bytes closed open_one)
      by_way (found closed some is) = absurd (closed_is bytes closed open_one)
piece_stops at bytes f (integer text more piece far) = (
  λ none. omega
      (arith, ap length none, length-append text more, (reach shape.Integer).some text piece.fits),
  at_piece at shape.Integer text more piece
      ∙ cond-false (leb (integer_value (take (length text) (text ++ more))) integer_limit)
      (Ok (shape.Integer, length text)) (Err (fault.IntRange at))
      (lt-leb (integer_value (take (length text) (text ++ more))) integer_limit
      (omega (arith, far, ap integer_value (take_at text more (length text) refl)))),
)
