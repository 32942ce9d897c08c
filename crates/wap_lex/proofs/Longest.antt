-- The longest of the shapes that bytes begin with, and what stands there.
use Rattle.std.proofs.Common.{◌≡◌, ℕ, ◌<◌, ◌≤◌, Bool, true, false, ltb, List, [], ◌∷◌, ◌++◌, length}
use Rattle.std.proofs.Common.{take, drop, refl, sym, ap, subst, ◌∙◌, arith, length-take}
use Rattle.std.specs.List.{AllByRecursion}
use Rattle.std.proofs.lemmas.Bool.{cond-true, cond-false, ltb-true, ltb-false}
use Rattle.std.proofs.lemmas.List.{take_at, take-append-drop}
use Rattle.wap_lex.specs.declared.shape.Shape.{Shape}
use Rattle.wap_lex.specs.declared.shape.Shape.TheVariants as shape
use Rattle.wap_lex.specs.Tokens.{IsShape}
use Rattle.wap_lex.specs.Calculation.{shape_len, shapes, longer, longest_of, longest}
use Rattle.wap_lex.proofs.WordReach.{Reaches, blanks, words}
use Rattle.wap_lex.proofs.NumberReach.{integers, floats}
use Rattle.wap_lex.proofs.StringReach.{strings}
use Rattle.wap_lex.proofs.CommentReach.{comments, all_marks}
use Rattle.wap_lex.proofs.Apart.{apart}

pub reach : (s : Shape) → Reaches (shape_len s) (IsShape s)
reach shape.Blank = blanks
reach shape.Comment = comments
reach shape.Word = words
reach shape.Integer = integers
reach shape.Float = floats
reach shape.Str = strings
reach shape.Mark = all_marks

-- the best is of its shape, if it is some
abbrev IsBest : List ℕ → Shape × ℕ → Type 0
IsBest bytes best = 0 < best.1 → best.1 ≡ shape_len best.0 bytes

better : (bytes : List ℕ) (best : Shape × ℕ) (s : Shape) (b : Bool)
    → ltb best.1 (shape_len s bytes) ≡ b → IsBest bytes best
    → IsBest bytes (longer bytes best s) × (best.1 ≤ (longer bytes best s).1)
    × (shape_len s bytes ≤ (longer bytes best s).1)
better bytes best s true e so_far =
    let is = cond-true (ltb best.1 (shape_len s bytes)) (s, shape_len s bytes) best e in
    let len = ap (λ (x : Shape × ℕ). x.1) is in (
      subst (IsBest bytes) (sym is) (λ some. refl),
      omega (arith, len, ltb-true best.1 (shape_len s bytes) e),
      omega (arith, len),
    )
better bytes best s false e so_far =
    let is = cond-false (ltb best.1 (shape_len s bytes)) (s, shape_len s bytes) best e in
    let len = ap (λ (x : Shape × ℕ). x.1) is in (
      subst (IsBest bytes) (sym is) so_far,
      omega (arith, len),
      omega (arith, len, ltb-false best.1 (shape_len s bytes) e),
    )

best_of : (bytes : List ℕ) (best : Shape × ℕ) (others : List Shape) → IsBest bytes best
    → IsBest bytes (longest_of bytes best others) × (best.1 ≤ (longest_of bytes best others).1)
    × AllByRecursion (λ s. shape_len s bytes ≤ (longest_of bytes best others).1) others
best_of bytes best [] so_far = (so_far, omega arith, tt)
best_of bytes best (s ∷ others) so_far =
    let one = better bytes best s (ltb best.1 (shape_len s bytes)) refl so_far in
    let rest = best_of bytes (longer bytes best s) others one.0 in
    (rest.0, omega (arith, one.1, rest.1), (omega (arith, one.2, rest.1), rest.2))

-- every shape is one of them
each : (P : Shape → Type 0) → AllByRecursion P shapes → (s : Shape) → P s
unfolding shapes
each P all shape.Blank = all.0
each P all shape.Comment = all.1.0
each P all shape.Word = all.1.1.0
each P all shape.Integer = all.1.1.1.0
each P all shape.Float = all.1.1.1.1.0
each P all shape.Str = all.1.1.1.1.1.0
each P all shape.Mark = all.1.1.1.1.1.1.0

-- no shape reaches farther than the longest
pub none_longer : (bytes : List ℕ) (s : Shape) → shape_len s bytes ≤ (longest bytes).1
none_longer bytes s =
    each (λ s. shape_len s bytes ≤ (longest bytes).1)
    (best_of bytes (shape.Blank, 0) shapes (λ some. absurd (omega arith))).2 s

pub longest_fits : (bytes : List ℕ) → 0 < (longest bytes).1
    → IsShape (longest bytes).0 (take (longest bytes).1 bytes)
longest_fits bytes some =
    let best = (best_of bytes (shape.Blank, 0) shapes (λ some. absurd (omega arith))).0 some in
    subst (λ (n : ℕ). IsShape (longest bytes).0 (take n bytes)) (sym best)
    ((reach (longest bytes).0).takes bytes (subst (λ (n : ℕ). 0 < n) best some))

-- a text of a shape at the beginning is no longer than the longest
pub within_longest : (s : Shape) (text more : List ℕ) → IsShape s text
    → length text ≤ (longest (text ++ more)).1
within_longest s text more fits =
    omega (arith, (reach s).most text more fits, none_longer (text ++ more) s)

pub longest_within : (bytes : List ℕ) → (longest bytes).1 ≤ length bytes
longest_within bytes = by_some (ltb 0 (longest bytes).1) refl where
  by_some : (b : Bool) → ltb 0 (longest bytes).1 ≡ b → (longest bytes).1 ≤ length bytes
  by_some true e =
      let best =
      (best_of bytes (shape.Blank, 0) shapes (λ some. absurd (omega arith))).0
      (ltb-true 0 (longest bytes).1 e) in
      omega (arith, best, (reach (longest bytes).0).within bytes)
  by_some false e = omega (arith, ltb-false 0 (longest bytes).1 e)

-- a text of a shape that no other is longer than is the longest
pub longest_is : (s : Shape) (text more : List ℕ) → IsShape s text
    → ((other : Shape) (far after : List ℕ) → text ++ more ≡ far ++ after → IsShape other far
    → length far ≤ length text) → longest (text ++ more) ≡ (s, length text)
longest_is s text more fits none_far =
    let bytes = text ++ more in
    let n = (longest bytes).1 in
    let other = (longest bytes).0 in
    let far = within_longest s text more fits in
    let some : 0 < n = omega (arith, (reach s).some text fits, far) in
    let found = longest_fits bytes some in
    let near =
    none_far other (take n bytes) (drop n bytes) (sym (take-append-drop n bytes)) found in
    let within = longest_within bytes in
    let len : n ≡ length text = omega (arith, near, far, length-take n bytes, within) in
    let same : take n bytes ≡ text = take_at text more n (sym len) in
    let is : other ≡ s =
    sym (apart other text (subst (IsShape other) same found)) ∙ apart s text fits in
    pair_is is len where
      pair_is : {a b : Shape} {m k : ℕ} → a ≡ b → m ≡ k → ◌≡◌ {A = Shape × ℕ} (a, m) (b, k)
      pair_is p q = cc
