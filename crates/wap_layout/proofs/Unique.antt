-- Words stand on one list of lines, and none is longer than the width.
use Rattle.std.proofs.Common.{◌≡◌, ℕ, ◌≤◌, ◌<◌, List, [], ◌∷◌, ◌++◌, length, take, refl}
use Rattle.std.proofs.Common.{sym, ap, ◌∙◌, ◌⊎◌, inl, inr, subst, arith}
use Rattle.std.specs.Prelude.{All}
use Rattle.std.proofs.lemmas.List.{append-nil, length-append, length-take}
use Rattle.std.proofs.lemmas.List.Elements.{All-nil, All-cons}
use Rattle.wap_layout.specs.Blanks.{joined}
use Rattle.wap_layout.specs.Layout.{AllFit, IsLongestFront, IsFilled, done, line, cut}

-- two ways to divide a list
record Behind {X : Type 0} (front rest longer shorter : List X) : Type 0 where
  middle : List X
  longer_is : longer ≡ front ++ middle
  rest_is : rest ≡ middle ++ shorter

divided : {X : Type 0} (a b c d : List X) → a ++ b ≡ c ++ d → Behind a b c d ⊎ Behind c d a b
divided [] b c d e = inl (record { middle = c; longer_is = refl; rest_is = e })
divided (x ∷ a) b [] d e = inr (record { middle = x ∷ a; longer_is = refl; rest_is = sym e })
divided (x ∷ a) b (y ∷ c) d e =
    let same : x ≡ y = cc in
    let rest : a ++ b ≡ c ++ d = cc in
    elim (divided a b c d rest) [
      | inl w ↦ inl (record {
        middle = w.middle;
        longer_is = ap (λ z. z ∷ c) (sym same) ∙ ap (λ l. x ∷ l) w.longer_is;
        rest_is = w.rest_is;
      })
      | inr w ↦ inr (record {
        middle = w.middle;
        longer_is = ap (λ z. z ∷ a) same ∙ ap (λ l. y ∷ l) w.longer_is;
        rest_is = w.rest_is;
      })
    ]

-- a line is no shorter with more words
joined-first : (word : List ℕ) (words : List (List ℕ))
    → length word ≤ length (joined (word ∷ words))
joined-first word [] = omega arith
joined-first word (next ∷ words) = simp length-append (omega arith)

joined-grows : (front : List (List ℕ)) (next : List ℕ) (more : List (List ℕ))
    → length (joined (front ++ next ∷ [])) ≤ length (joined (front ++ next ∷ more))
joined-grows [] next more = joined-first next more
joined-grows (word ∷ []) next more =
    let h = joined-first next more in
    simp length-append (omega arith)
joined-grows (word ∷ second ∷ front) next more =
    let h = joined-grows (second ∷ front) next more in
    simp length-append (omega arith)

-- of two prefixes that fit, the longest is no shorter than the other
no_longer : (width : ℕ) (words front rest longer shorter : List (List ℕ))
    → IsLongestFront width words front rest → length (joined longer) ≤ width
    → (b : Behind front rest longer shorter) → b.middle ≡ []
no_longer width words front rest longer shorter l fits b = empty b.middle b.longer_is b.rest_is
  where
    empty : (middle : List (List ℕ)) → longer ≡ front ++ middle
        → rest ≡ middle ++ shorter → middle ≡ []
    empty [] longer_is rest_is = refl
    empty (next ∷ more) longer_is rest_is =
        let over = l.longest next (more ++ shorter) rest_is in
        let grows = joined-grows front next more in
        absurd (omega (arith, ap (λ ws. length (joined ws)) longer_is))

record SameFront (front rest other others : List (List ℕ)) : Type 0 where
  fronts : front ≡ other
  rests : rest ≡ others

same_behind : (front rest longer shorter : List (List ℕ)) (b : Behind front rest longer shorter)
    → b.middle ≡ [] → SameFront front rest longer shorter
same_behind front rest longer shorter b none = record {
  fronts = sym (b.longer_is ∙ ap (λ m. front ++ m) none ∙ append-nil front);
  rests = b.rest_is ∙ ap (λ m. m ++ shorter) none;
}

same_swapped : (front rest other others : List (List ℕ)) → SameFront front rest other others
    → SameFront other others front rest
same_swapped front rest other others s = record { fronts = sym s.fronts; rests = sym s.rests }

-- there is only one longest prefix
same_front : (width : ℕ) (words front rest other others : List (List ℕ))
    → IsLongestFront width words front rest → IsLongestFront width words other others
    → SameFront front rest other others
same_front width words front rest other others l m =
    elim (divided front rest other others (sym l.divides ∙ m.divides)) [
      | inl b ↦
          same_behind front rest other others b
          (no_longer width words front rest other others l m.fits b)
      | inr b ↦
          same_swapped other others front rest (same_behind other others front rest b
          (no_longer width words other others front rest m l.fits b))
    ]

no_front : (width : ℕ) (front rest : List (List ℕ)) → IsLongestFront width [] front rest → ⊥
no_front width [] rest l = l.some refl
no_front width (word ∷ front) rest l = absurd (let e = l.divides in cc)

no_cut : (width : ℕ) (word : List ℕ) (words front rest : List (List ℕ)) → width < length word
    → IsLongestFront width (word ∷ words) front rest → ⊥
no_cut width word words [] rest long l = l.some refl
no_cut width word words (first ∷ front) rest long l =
    let e = l.divides in
    let same : word ≡ first = cc in
    let begins = joined-first first front in
    let fits = l.fits in
    omega (arith, ap length same)

-- the words stand on one list of lines
pub IsFilled-unique : {width : ℕ} {words lines others : List (List ℕ)} → IsFilled width words lines
    → IsFilled width words others → lines ≡ others
IsFilled-unique done done = refl
IsFilled-unique done (line front rest l more) = absurd (no_front _ front rest l)
IsFilled-unique (line front rest l more) done = absurd (no_front _ front rest l)
IsFilled-unique {width} (line {words} {lines} front rest l more) (line other others m rests) =
    let s = same_front width words front rest other others l m in
    let moved = subst (λ ws. IsFilled width ws lines) s.rests more in
    ap (λ f. joined f ∷ lines) s.fronts ∙ ap (λ ls. joined other ∷ ls) (IsFilled-unique moved rests)
IsFilled-unique {width} (line front rest l more) (cut {word} {rest = words} long rests) =
    absurd (no_cut width word words front rest long l)
IsFilled-unique {width} (cut {word} {rest = words} long more) (line front rest l rests) =
    absurd (no_cut width word words front rest long l)
IsFilled-unique {width} (cut {word} long more) (cut far rests) =
    ap (λ ls. take width word ∷ ls) (IsFilled-unique more rests)

-- no line is longer than the width
pub IsFilled-fits : {width : ℕ} {words lines : List (List ℕ)} → IsFilled width words lines
    → All (λ l. length l ≤ width) lines
IsFilled-fits {width} done = All-nil (λ l. length l ≤ width)
IsFilled-fits {width} (line {lines} front rest l more) =
    All-cons (λ l. length l ≤ width) (joined front) lines l.fits (IsFilled-fits more)
IsFilled-fits {width} (cut {word} {lines} long more) =
    All-cons (λ l. length l ≤ width) (take width word) lines (simp length-take (omega arith))
    (IsFilled-fits more)

-- the same of a width and words that are named
pub unique_law : (width : ℕ) (words lines others : List (List ℕ)) → IsFilled width words lines
    → IsFilled width words others → lines ≡ others
unique_law width words lines others a b = IsFilled-unique a b

pub fits_law : (width : ℕ) (words lines : List (List ℕ)) → IsFilled width words lines
    → AllFit width lines
fits_law width words lines filled = IsFilled-fits filled
