-- Words that are cut at the width.
use Rattle.std.proofs.Common.{◌≡◌, ℕ, zero, suc, ◌≤◌, ◌<◌, List, [], ◌∷◌, ◌++◌, length, take, drop}
use Rattle.std.proofs.Common.{cond, refl, sym, ap, ◌∙◌, subst, arith}
use Rattle.std.specs.Prelude.{nat_le}
use Rattle.std.proofs.lemmas.List.{length-append, length-drop}
use Rattle.std.proofs.Math.Seq.{take-append_seam, drop-append_seam}
use Rattle.std.proofs.lemmas.Bool.{le-leb, lt-leb}
use Rattle.wap_layout.specs.Calculation.{cut_at, cut_word}

cut_at-short : (width times : ℕ) (word : List ℕ) → length word ≤ width
    → cut_at width times word ≡ word ∷ []
cut_at-short width zero word h = refl
cut_at-short width (suc times) word h =
    ap (λ test. cond test (word ∷ []) (take width word ∷ cut_at width times (drop width word)))
    (le-leb (length word) width h)

cut_at-long : (width times : ℕ) (word : List ℕ) → width < length word
    → cut_at width (suc times) word ≡ take width word ∷ cut_at width times (drop width word)
cut_at-long width times word h =
    ap (λ test. cond test (word ∷ []) (take width word ∷ cut_at width times (drop width word)))
    (lt-leb (length word) width h)

-- a word is cut as often as it takes, and no more
cut_at-enough : (width : ℕ) (f g : ℕ) (word : List ℕ) → 1 ≤ width → length word ≤ f
    → length word ≤ g → cut_at width f word ≡ cut_at width g word
cut_at-enough width zero g word one few enough = sym (cut_at-short width g word (omega arith))
cut_at-enough width (suc f) zero word one few enough = cut_at-short width (suc f) word (omega arith)
cut_at-enough width (suc f) (suc g) word one few enough =
    ap (λ more. cond (nat_le (length word) width) (word ∷ []) (take width word ∷ more))
    (cut_at-enough width f g (drop width word) one (simp length-drop (omega arith))
    (simp length-drop (omega arith)))

pub cut_word-short : (width : ℕ) (word : List ℕ) → length word ≤ width
    → cut_word width word ≡ word ∷ []
cut_word-short width word h = cut_at-short width (length word) word h

-- a longer word gives its prefix and is cut on
pub cut_word-long : (width : ℕ) (word : List ℕ) → 1 ≤ width → width < length word
    → cut_word width word ≡ take width word ∷ cut_word width (drop width word)
cut_word-long width [] one h = absurd (omega arith)
cut_word-long width (c ∷ word) one h =
    cut_at-long width (length word) (c ∷ word) h
    ∙ ap (λ more. take width (c ∷ word) ∷ more)
    (cut_at-enough width (length word) (length (drop width (c ∷ word))) (drop width (c ∷ word)) one
    (simp length-drop (omega arith)) (omega arith))

-- a part of the width, and what follows it
cut_word-full : (part : List ℕ) (c : ℕ) (rest : List ℕ) → 1 ≤ length part
    → cut_word (length part) (part ++ c ∷ rest) ≡ part ∷ cut_word (length part) (c ∷ rest)
cut_word-full part c rest one =
    cut_word-long (length part) (part ++ c ∷ rest) one (simp length-append (omega arith))
    ∙ ap (λ front. front ∷ cut_word (length part) (drop (length part) (part ++ c ∷ rest)))
    (take-append_seam part (c ∷ rest))
    ∙ ap (λ back. part ∷ cut_word (length part) back) (drop-append_seam part (c ∷ rest))

pub cut_word-at_width : (width : ℕ) (part : List ℕ) (c : ℕ) (rest : List ℕ) → length part ≡ width
    → 1 ≤ width → cut_word width (part ++ c ∷ rest) ≡ part ∷ cut_word width (c ∷ rest)
cut_word-at_width width part c rest full =
    let P : ℕ → Type 0 =
    λ w. 1 ≤ w → cut_word w (part ++ c ∷ rest) ≡ part ∷ cut_word w (c ∷ rest) in
    subst P full (cut_word-full part c rest)
