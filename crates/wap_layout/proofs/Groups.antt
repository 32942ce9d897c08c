-- The lines are the words, or their parts, in order.
use Rattle.std.proofs.Common.{◌≡◌, ℕ, zero, suc, ◌≤◌, List, [], ◌∷◌, ◌++◌, length, take}
use Rattle.std.proofs.Common.{drop, map, refl, sym, ap, ◌∙◌, inl, inr, arith}
use Rattle.std.specs.List.{concat, flat_map}
use Rattle.std.proofs.lemmas.Bool.{cases_lt}
use Rattle.std.proofs.lemmas.List.{append-nil, length-append, length-drop, take-append-drop}
use Rattle.std.proofs.lemmas.List.Concat.{flat_map-append}
use Rattle.wap_layout.specs.Blanks.{joined}
use Rattle.wap_layout.specs.Layout.{IsFilled, done, line, cut}
use Rattle.wap_layout.specs.Calculation.{cut_word, HoldsInOrder}
use Rattle.wap_layout.proofs.Cutting.{cut_word-short, cut_word-long}

whole : (width : ℕ) (front : List (List ℕ)) → length (joined front) ≤ width
    → flat_map (cut_word width) front ≡ front
whole width [] fits = refl
whole width (word ∷ []) fits = append-nil (cut_word width word) ∙ cut_word-short width word fits
whole width (word ∷ next ∷ front) fits =
    let long = length-append word (32 ∷ joined (next ∷ front)) in
    ap (λ parts. parts ++ flat_map (cut_word width) (next ∷ front))
    (cut_word-short width word (omega arith))
    ∙ ap (λ words. word ∷ words) (whole width (next ∷ front) (omega arith))

-- the words on each line, in order
pub IsFilled-groups : {width : ℕ} {words lines : List (List ℕ)} → 1 ≤ width
    → IsFilled width words lines
    → (groups : List (List (List ℕ)))
    × (flat_map (λ group. group) groups ≡ flat_map (cut_word width) words)
    × (lines ≡ map joined groups)
IsFilled-groups one done = ([], refl, refl)
IsFilled-groups {width} one (line {words} {lines} front rest l more) =
    let g = IsFilled-groups one more in (
      front ∷ g.0,
      ap (λ ws. front ++ ws) g.1
          ∙ ap (λ ws. ws ++ flat_map (cut_word width) rest) (sym (whole width front l.fits))
          ∙ sym (flat_map-append (cut_word width) front rest)
          ∙ ap (flat_map (cut_word width)) (sym l.divides),
      ap (λ ls. joined front ∷ ls) g.2,
    )
IsFilled-groups {width} one (cut {word} {rest} {lines} long more) =
    let g = IsFilled-groups one more in (
      (take width word ∷ []) ∷ g.0,
      ap (λ ws. take width word ∷ ws) g.1 ∙ ap (λ ps. ps ++ flat_map (cut_word width) rest)
          (sym (cut_word-long width word one long)),
      ap (λ ls. take width word ∷ ls) g.2,
    )

cut_at-whole : (width times : ℕ) (word : List ℕ) → 1 ≤ width → length word ≤ times
    → concat (cut_word width word) ≡ word
cut_at-whole width zero word one few =
    ap concat (cut_word-short width word (omega arith)) ∙ append-nil word
cut_at-whole width (suc times) word one few =
    elim (cases_lt width (length word)) [
      | inl long ↦
          ap concat (cut_word-long width word one long)
          ∙ ap (λ back. take width word ++ back)
          (cut_at-whole width times (drop width word) one (simp length-drop (omega arith)))
          ∙ take-append-drop width word
      | inr short ↦ ap concat (cut_word-short width word short) ∙ append-nil word
    ]

-- the parts of a word are the word
pub concat_law : (width : ℕ) (word : List ℕ) → 1 ≤ width → concat (cut_word width word) ≡ word
concat_law width word one = cut_at-whole width (length word) word one (omega arith)

-- the same of a width and words that are named
pub IsFilled_law : (width : ℕ) (words lines : List (List ℕ)) → 1 ≤ width
    → IsFilled width words lines → HoldsInOrder width words lines
IsFilled_law width words lines one filled = IsFilled-groups one filled
