-- Only the shapes that a first byte may begin are tried.
use Rattle.std.proofs.Common.{◌≡◌, ℕ, zero, suc, ◌<◌, Bool, true, false, cond, ltb, List, [], ◌∷◌}
use Rattle.std.proofs.Common.{length, get_or, take, refl, sym, ap, ◌∙◌, arith}
use Rattle.std.specs.List.{filter}
use Rattle.std.proofs.lemmas.Bool.{cond-true, cond-false, ltb-true, ltb-false, both_ways}
use Rattle.std.proofs.lemmas.Bool.Decides.{nat_tests}
use Rattle.wap_lex.specs.declared.first.First.{First}
use Rattle.wap_lex.specs.declared.first.First.TheVariants.{White, Letter, Digit, Point}
use Rattle.wap_lex.specs.declared.first.First.TheVariants.{Quote, Slash, Other}
use Rattle.wap_lex.specs.declared.shape.Shape.{Shape}
use Rattle.wap_lex.specs.declared.shape.Shape.TheVariants as shape
use Rattle.wap_lex.specs.Marks.{marks}
use Rattle.wap_lex.specs.Tokens.{IsShape}
use Rattle.wap_lex.specs.ByFirst.{first_of, shapes_at}
use Rattle.wap_lex.specs.Calculation.{shape_len, shapes, longer, longest_of, longest}
use Rattle.wap_lex.proofs.Longest.{reach}
use Rattle.wap_lex.proofs.Apart.{shape_at, apart}

-- whether a shape may begin so
abbrev may : First → Shape → Bool
may White shape.Blank = true
may Letter shape.Word = true
may Letter shape.Mark = true
may Digit shape.Integer = true
may Digit shape.Float = true
may Point shape.Float = true
may Point shape.Mark = true
may Quote shape.Str = true
may Slash shape.Comment = true
may Slash shape.Mark = true
may Other shape.Mark = true
may first s = false

either : (f : First) (b : Bool) (s t : Shape) → may f s ≡ true → may f t ≡ true
    → may f (cond b s t) ≡ true
either f true s t one two = one
either f false s t one two = two

may_at : (f : First) (rest : List ℕ) → may f (shape_at f rest) ≡ true
may_at Letter rest = either Letter _ shape.Mark shape.Word refl refl
may_at Digit rest = either Digit _ shape.Integer shape.Float refl refl
may_at Point rest = either Point _ shape.Mark shape.Float refl refl
may_at Slash [] = refl
may_at Slash (b ∷ rest) = either Slash _ shape.Comment shape.Mark refl refl
may_at _ rest = refl

-- no other shape begins so
absent : (c : ℕ) (rest : List ℕ) (s : Shape) → may (first_of c) s ≡ false
    → shape_len s (c ∷ rest) ≡ 0
absent c rest s other = by_len (ltb 0 (shape_len s (c ∷ rest))) refl where
  none_fits : (n : ℕ) → 0 < n → IsShape s (take n (c ∷ rest)) → ⊥
  none_fits zero some fits = absurd (omega arith)
  none_fits (suc n) some fits =
      let is = ap (may (first_of c)) (sym (apart s (c ∷ take n rest) fits)) in
      both_ways (may (first_of c) s) other (is ∙ may_at (first_of c) (take n rest))

  by_len : (b : Bool) → ltb 0 (shape_len s (c ∷ rest)) ≡ b → shape_len s (c ∷ rest) ≡ 0
  by_len true e =
      let some = ltb-true 0 (shape_len s (c ∷ rest)) e in
      absurd (none_fits (shape_len s (c ∷ rest)) some ((reach s).takes (c ∷ rest) some))
  by_len false e = omega (arith, ltb-false 0 (shape_len s (c ∷ rest)) e)

no_less : (n : ℕ) → ltb n 0 ≡ false
no_less n = grind (arith, nat_tests)

-- trying some shapes comes to the same as trying those that are kept
abbrev IsSame : (Shape → Bool) → List ℕ → Shape × ℕ → List Shape → Type 0
IsSame keep bytes best others =
    longest_of bytes best others ≡ longest_of bytes best (filter keep others)

kept : (keep : Shape → Bool) (bytes : List ℕ) (best : Shape × ℕ) (others : List Shape)
    → ((s : Shape) → keep s ≡ false → shape_len s bytes ≡ 0) → IsSame keep bytes best others
kept keep bytes best [] none = refl
kept keep bytes best (s ∷ others) none =
    by_keep (keep s) refl (kept keep bytes (longer bytes best s) others none)
    (kept keep bytes best others none) where
      by_keep : (b : Bool) → keep s ≡ b → IsSame keep bytes (longer bytes best s) others
          → IsSame keep bytes best others → IsSame keep bytes best (s ∷ others)
      by_keep true e on past =
          on ∙ ap (longest_of bytes best) (sym (cond-true (keep s) (s ∷ filter keep others) _ e))
      by_keep false e on past =
          ap (λ (n : ℕ). longest_of bytes (cond (ltb best.1 n) (s, n) best) others) (none s e)
          ∙ ap (λ (b : Bool). longest_of bytes (cond b (s, 0) best) others) (no_less best.1)
          ∙ past
          ∙ ap (longest_of bytes best) (sym (cond-false (keep s) _ (filter keep others) e))

those : (f : First) → filter (may f) shapes ≡ shapes_at f
unfolding shapes
those White = refl
those Letter = refl
those Digit = refl
those Point = refl
those Quote = refl
those Slash = refl
those Other = refl

pub longest-first : (bytes : List ℕ) (first : First) → first ≡ first_of (get_or bytes 0 0)
    → 0 < length bytes → longest_of bytes (shape.Blank, 0) (shapes_at first) ≡ longest bytes
longest-first [] first is some = absurd (omega arith)
longest-first (c ∷ rest) first is some =
    let bytes = c ∷ rest in
    let best = longest_of bytes (shape.Blank, 0) in
    let all = kept (may (first_of c)) bytes (shape.Blank, 0) shapes (absent c rest) in
    ap (λ (f : First). best (shapes_at f)) is ∙ sym (ap best (those (first_of c))) ∙ sym all

pub longest-none : (bytes : List ℕ) → length bytes < 1 → (shape.Blank, 0) ≡ longest bytes
unfolding shapes marks
longest-none [] none = refl
longest-none (c ∷ rest) none = absurd (omega arith)
