-- The last of a list, and the one before it, by their places.
use Rattle.std.proofs.Common.{◌≡◌, ◌∙◌, ◌-◌, ◌≤◌, List, [], ◌∷◌, length, take}
use Rattle.std.proofs.Common.{length-take, Option, Some, None, refl, sym, ap, arith}
use Rattle.std.specs.List.{last_or, slice_get}
use Rattle.std.proofs.lemmas.Option.{slice_get-get_or}
use Rattle.std.proofs.lemmas.List.{get_or-take}

-- the last after a first one
last_after : {X : Type 0} (o : Option X) (x : X) (xs : List X)
    → last_or o (x ∷ xs) ≡ slice_get (x ∷ xs) (length xs)
last_after o x [] = refl
last_after o x (y ∷ ys) = last_after (Some x) y ys

-- it is the one at the length less one
pub last_at : {X : Type 0} (xs : List X) → last_or None xs ≡ slice_get xs (length xs - 1)
last_at [] = refl
last_at (x ∷ xs) =
    let before : length xs ≡ length (x ∷ xs) - 1 = omega arith in
    last_after None x xs ∙ ap (slice_get (x ∷ xs)) before

-- the one before it is at the length less two
pub earlier_at : {X : Type 0} (xs : List X) → 2 ≤ length xs
    → last_or None (take (length xs - 1) xs) ≡ slice_get xs (length xs - 2)
earlier_at [] some = absurd (omega arith)
earlier_at (x ∷ []) some = absurd (omega arith)
earlier_at (x ∷ y ∷ ys) some =
    let xs = x ∷ y ∷ ys in
    let others = take (length xs - 1) xs in
    let count : length others ≡ length xs - 1 = omega (arith, length-take (length xs - 1) xs) in
    let at : length others - 1 ≡ length xs - 2 = omega arith in
    last_at others ∙ ap (slice_get others) at
    ∙ slice_get-get_or others (length xs - 2) x (omega arith)
    ∙ ap Some (get_or-take (length xs - 1) xs (length xs - 2) x (omega arith))
    ∙ sym (slice_get-get_or xs (length xs - 2) x (omega arith))
