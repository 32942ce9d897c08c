-- White space at the ends of a text.
use Rattle.std.proofs.Common.{◌≡◌, ℕ, Bool, true, false, cond, ◌&&◌, eqb, List, [], ◌∷◌}
use Rattle.std.proofs.Common.{◌++◌, length, refl, ap, sym, ◌∙◌, length-append, arith}
use Rattle.std.specs.List.{prefix_len}
use Rattle.std.proofs.lemmas.List.{drop-drop}
use Rattle.std.proofs.lemmas.Bool.{ne_eqb}
use Rattle.wap_libs.specs.Characters.{is_blank, behind_blanks, before_blanks}

-- a last character that is white space goes
pub before_blanks-blank : (s : List ℕ) (c : ℕ) → is_blank c ≡ true
    → before_blanks (s ++ c ∷ []) ≡ before_blanks s
before_blanks-blank [] c blank = rw blank refl
before_blanks-blank (d ∷ s) c blank =
    ap (λ (t : List ℕ). cond (is_blank d && eqb (length t) 0) [] (d ∷ t))
    (before_blanks-blank s c blank)

some_end : (s : List ℕ) (c : ℕ) → eqb (length (s ++ c ∷ [])) 0 ≡ false
some_end s c =
    ne_eqb (length (s ++ c ∷ [])) 0 (λ none. absurd (omega (arith, length-append s (c ∷ []), none)))

never : (b : Bool) → (b && false) ≡ false
never true = refl
never false = refl

-- any other last character ends the text
pub before_blanks-other : (s : List ℕ) (c : ℕ) → is_blank c ≡ false
    → before_blanks (s ++ c ∷ []) ≡ s ++ c ∷ []
before_blanks-other [] c other = rw other refl
before_blanks-other (d ∷ s) c other =
    ap (λ (t : List ℕ). cond (is_blank d && eqb (length t) 0) [] (d ∷ t))
    (before_blanks-other s c other)
    ∙ rw (some_end s c) (rw (never (is_blank d)) refl)

-- a first character that is white space goes
pub behind_blanks-blank : (s : List ℕ) (c : ℕ) → is_blank c ≡ true
    → behind_blanks (c ∷ s) ≡ behind_blanks s
behind_blanks-blank s c blank = rw blank (sym (drop-drop (prefix_len is_blank s) 1 (c ∷ s)))

-- any other stays
pub behind_blanks-other : (s : List ℕ) (c : ℕ) → is_blank c ≡ false
    → behind_blanks (c ∷ s) ≡ c ∷ s
behind_blanks-other s c other = rw other refl
