-- Lists of numbers of which none is above the other's at its place, and their sums.
use Rattle.std.proofs.Common.{◌≡◌, ℕ, suc, ◌+◌, ◌-◌, ◌≤◌, List, [], ◌∷◌, ◌++◌, length, get_or, take}
use Rattle.std.proofs.Common.{drop, sum, slice_range, inl, inr, refl, sym, ◌∙◌, ap, arith}
use Rattle.std.proofs.lemmas.Bool.{cases_lt}
use Rattle.std.proofs.lemmas.List.{get_or-take, get_or-drop, get_or_past, length-take, take-take}
use Rattle.std.proofs.lemmas.List.{take-append-drop, drop-take}
use Rattle.std.proofs.lemmas.List.Sums.{sum_by-cons, sum_by-append}

abbrev pub Below : List ℕ → List ℕ → Type 0
Below xs ys = (k : ℕ) → get_or xs k 0 ≤ get_or ys k 0

pub sum-cons : (x : ℕ) (xs : List ℕ) → sum (x ∷ xs) ≡ x + sum xs
sum-cons x xs = sum_by-cons (λ (n : ℕ). n) x xs

pub sum-append : (xs ys : List ℕ) → sum (xs ++ ys) ≡ sum xs + sum ys
sum-append xs ys = sum_by-append (λ (n : ℕ). n) xs ys

pub sum_below : (xs ys : List ℕ) → Below xs ys → sum xs ≤ sum ys
sum_below [] ys h = omega arith
sum_below (x ∷ xs) [] h =
    let first : x ≤ 0 = h 0 in
    let rest = sum_below xs [] (λ k. h (suc k)) in
    omega (arith, first, rest, sum-cons x xs)
sum_below (x ∷ xs) (y ∷ ys) h =
    let first : x ≤ y = h 0 in
    let rest = sum_below xs ys (λ k. h (suc k)) in
    omega (arith, first, rest, sum-cons x xs, sum-cons y ys)

-- where the sums are one, so are the lists
pub same_sum : (xs ys : List ℕ) → length xs ≡ length ys → Below xs ys → sum xs ≡ sum ys → xs ≡ ys
same_sum [] [] l h e = refl
same_sum [] (y ∷ ys) l h e = absurd (omega (arith, l))
same_sum (x ∷ xs) [] l h e = absurd (omega (arith, l))
same_sum (x ∷ xs) (y ∷ ys) l h e =
    let first : x ≤ y = h 0 in
    let rest = sum_below xs ys (λ k. h (suc k)) in
    let heads : x ≡ y = omega (arith, first, rest, e, sum-cons x xs, sum-cons y ys) in
    let sums : sum xs ≡ sum ys = omega (arith, first, rest, e, sum-cons x xs, sum-cons y ys) in
    let lengths : length xs ≡ length ys = omega (arith, l) in
    let tails = same_sum xs ys lengths (λ k. h (suc k)) sums in
    cc

take_below : (n : ℕ) (xs ys : List ℕ) → Below xs ys → Below (take n xs) (take n ys)
take_below n xs ys h k =
    elim (cases_lt k n) [
      | inl within ↦
          let here = h k in
          omega (arith, here, get_or-take n xs k 0 within, get_or-take n ys k 0 within)
      | inr past ↦
          let end : length (take n xs) ≤ k = omega (arith, length-take n xs) in
          omega (arith, get_or_past (take n xs) k 0 end)
    ]

drop_below : (n : ℕ) (xs ys : List ℕ) → Below xs ys → Below (drop n xs) (drop n ys)
drop_below n xs ys h k =
    let here = h (n + k) in
    omega (arith, here, get_or-drop n xs k 0, get_or-drop n ys k 0)

pub range_below : (a b : ℕ) (xs ys : List ℕ) → Below xs ys
    → sum (slice_range xs a b) ≤ sum (slice_range ys a b)
range_below a b xs ys h =
    sum_below (slice_range xs a b) (slice_range ys a b)
    (take_below (b - a) (drop a xs) (drop a ys) (drop_below a xs ys h))

pub split_take : (a m : ℕ) (xs : List ℕ) → sum (take (a + m) xs)
    ≡ sum (take a xs) + sum (take m (drop a xs))
split_take a m xs =
    let parts : sum (take a (take (a + m) xs)) + sum (drop a (take (a + m) xs))
    ≡ sum (take (a + m) xs) =
    sym (sum-append (take a (take (a + m) xs)) (drop a (take (a + m) xs)))
    ∙ ap sum (take-append-drop a (take (a + m) xs)) in
    let first : sum (take a (take (a + m) xs)) ≡ sum (take a xs) =
    ap sum (take-take a (a + m) xs (omega arith)) in
    let rest : sum (drop a (take (a + m) xs)) ≡ sum (take m (drop a xs)) =
    ap sum (drop-take a m xs) in
    omega (arith, parts, first, rest)

-- a part's sum is the difference of what stands before its end and before its start
pub sum-range : (xs : List ℕ) (a b : ℕ)
    → sum (slice_range xs a b) ≡ sum (take b xs) - sum (take a xs)
sum-range xs a b =
    elim (cases_lt a b) [
      | inl before ↦
          let both = split_take a (b - a) xs in
          let end : sum (take (a + (b - a)) xs) ≡ sum (take b xs) =
          ap (λ n. sum (take n xs)) (omega arith) in
          omega (arith, both, end)
      | inr past ↦
          let none : sum (slice_range xs a b) ≡ 0 =
          ap (λ n. sum (take n (drop a xs))) (let zero_is : b - a ≡ 0 = omega arith in zero_is) in
          let both = split_take b (a - b) xs in
          let end : sum (take (b + (a - b)) xs) ≡ sum (take a xs) =
          ap (λ n. sum (take n xs)) (omega arith) in
          omega (arith, none, both, end)
    ]
