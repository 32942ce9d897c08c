-- Choices, option by option.
use Rattle.std.proofs.Common.{◌≡◌, ℕ, zero, suc, ◌+◌, ◌-◌, ◌<◌, Bool, true, false, cond}
use Rattle.std.proofs.Common.{List, [], ◌∷◌, ◌++◌, length, take, get_or, set, map}
use Rattle.std.proofs.Common.{filter, refl, sym, ap, ap₂, ◌∙◌, arith}
use Rattle.std.specs.Prelude.{◌==◌, ◌||◌}
use mathlib.Core.Bool.{or-true, or-false}
use Rattle.std.specs.List.{list_any, range_with_len, enumerate_from}
use Rattle.std.proofs.lemmas.Bool.Decides.{nat_tests}
use Rattle.std.proofs.lemmas.List.{map-append, take_more, length-take}
use Rattle.std.proofs.lemmas.List.Elements.{filter-append}
use Rattle.std.proofs.lemmas.List.Folds.{list_any-append}
use Rattle.std.proofs.lemmas.List.FromFn.{map-range_with_len_more}
use Rattle.wap_base.specs.Texts.{is_same_text}
use Rattle.wap_cardrules.specs.Selects.{Choice, chosen, is_number_among, numbers_of, turned_if}
use Rattle.wap_cards.specs.inputs.inside.Marking.{marked, number_if}

-- ---- nothing chosen

pub none_more : (count : ℕ) → chosen (count + 1) [] ≡ chosen count [] ++ false ∷ []
none_more count = map-range_with_len_more (is_number_among []) 1 count (1 + count) refl

-- ---- one more number

same : (n k : ℕ) → n ≡ k → (n == k) ≡ true
same n k is = grind (arith, nat_tests)

before : (n k : ℕ) → n < k → (n == k) ≡ false
before n k is = grind (arith, nat_tests)

behind : (n k : ℕ) → k < n → (n == k) ≡ false
behind n k is = grind (arith, nat_tests)

module _ (f g : ℕ → Bool) (n : ℕ) (adds : (k : ℕ) → g k ≡ (f k || (n == k))) where
  unchanged : (k : ℕ) → (n == k) ≡ false → f k ≡ g k
  unchanged k isnt = sym (adds k ∙ ap (λ b. f k || b) isnt ∙ or-false (f k))

  after : (count a : ℕ) → n < a → map f (range_with_len a count) ≡ map g (range_with_len a count)
  after zero a is = refl
  after (suc count) a is =
      ap₂ (λ (b : Bool) (bs : List Bool). b ∷ bs) (unchanged a (before n a is))
      (after count (a + 1) (omega arith))

  at : (count a i : ℕ) → n ≡ a + i
      → set (map f (range_with_len a count)) i true ≡ map g (range_with_len a count)
  at zero a zero is = refl
  at zero a (suc i) is = refl
  at (suc count) a zero is =
      ap₂ (λ (b : Bool) (bs : List Bool). b ∷ bs)
      (sym (adds a ∙ ap (λ b. f a || b) (same n a (omega arith)) ∙ or-true (f a)))
      (after count (a + 1) (omega arith))
  at (suc count) a (suc i) is =
      ap₂ (λ (b : Bool) (bs : List Bool). b ∷ bs) (unchanged a (behind n a (omega arith)))
      (at count (a + 1) i (omega arith))

among_more : (some : List ℕ) (n k : ℕ)
    → is_number_among (some ++ n ∷ []) k ≡ (is_number_among some k || (n == k))
among_more some n k =
    list_any-append (λ one. one == k) some (n ∷ [])
    ∙ ap (λ b. is_number_among some k || b) (or-false (n == k))

mark_by : (count n : ℕ) (some : List ℕ)
    → marked n (chosen count some) ≡ chosen count (some ++ n ∷ [])
mark_by count zero some =
    after (is_number_among some) (is_number_among (some ++ 0 ∷ [])) 0
    (among_more some 0) count 1 (omega arith)
mark_by count (suc i) some =
    let not_zero : (suc i == 0) ≡ false = behind (suc i) 0 (omega arith) in
    let place : suc i - 1 ≡ i = omega arith in
    ap
    (λ (b : Bool). cond b (chosen count some) (set (chosen count some) (suc i - 1) true)) not_zero
    ∙ ap (λ (i : ℕ). set (chosen count some) i true) place
    ∙ at (is_number_among some) (is_number_among (some ++ suc i ∷ [])) (suc i)
    (among_more some (suc i)) count 1 i (omega arith)

pub marks_more : (count n : ℕ) (some : List ℕ)
    → marked n (chosen count some) ≡ chosen count (some ++ n ∷ [])
marks_more = mark_by

-- ---- numbered items

module _ {X : Type 0} where
  enumerate_more : (a : ℕ) (xs : List X) (last : X)
      → enumerate_from a (xs ++ last ∷ []) ≡ enumerate_from a xs ++ (a + length xs, last) ∷ []
  enumerate_more a [] last =
      let here : a ≡ a + 0 = omega arith in
      ap (λ (n : ℕ). (n, last) ∷ []) here
  enumerate_more a (x ∷ xs) last =
      let next : (a + 1) + length xs ≡ a + length (x ∷ xs) = omega arith in
      ap (λ rest. (a, x) ∷ rest) (enumerate_more (a + 1) xs last
      ∙ ap (λ (n : ℕ). enumerate_from (a + 1) xs ++ (n, last) ∷ []) next)

  pub enumerate_next : (xs : List X) (i : ℕ) (x : X) → i < length xs → x ≡ get_or xs i x
      → enumerate_from 1 (take (i + 1) xs) ≡ enumerate_from 1 (take i xs) ++ (i + 1, x) ∷ []
  enumerate_next xs i x within is =
      let place : 1 + length (take i xs) ≡ i + 1 = omega (arith, length-take i xs) in
      ap (enumerate_from 1) (take_more xs i x within ∙ ap (λ (y : X). take i xs ++ y ∷ []) (sym is))
      ∙ enumerate_more 1 (take i xs) x
      ∙ ap (λ (n : ℕ). enumerate_from 1 (take i xs) ++ (n, x) ∷ []) place

-- ---- steps of loops

module _ (texts values : List (List ℕ)) where
  abbrev is_wanted : ℕ × List ℕ → Bool
  is_wanted one = list_any (is_same_text one.1) texts

  last_number : (b : Bool) (n : ℕ) (value : List ℕ)
      → map (λ (one : ℕ × List ℕ). one.0) (cond b ((n, value) ∷ []) []) ≡ number_if b n
  last_number true n value = refl
  last_number false n value = refl

  pub numbers_next : (i : ℕ) (value : List ℕ) → i < length values → value ≡ get_or values i value
      → numbers_of texts (take (i + 1) values)
      ≡ numbers_of texts (take i values) ++ number_if (list_any (is_same_text value) texts) (i + 1)
  numbers_next i value within is =
      ap (λ (ones : List (ℕ × List ℕ)). map (λ one. one.0) (filter is_wanted ones))
      (enumerate_next values i value within is)
      ∙ ap (map (λ (one : ℕ × List ℕ). one.0))
      (filter-append is_wanted (enumerate_from 1 (take i values)) ((i + 1, value) ∷ []))
      ∙ map-append (λ (one : ℕ × List ℕ). one.0)
      (filter is_wanted (enumerate_from 1 (take i values))) (filter is_wanted ((i + 1, value) ∷ []))
      ∙ ap (λ (last : List ℕ). numbers_of texts (take i values) ++ last)
      (last_number (list_any (is_same_text value) texts) (i + 1) value)

pub marks_next : (count : ℕ) (some : List ℕ) (i : ℕ) → i < length some
    → marked (get_or some i 0) (chosen count (take i some)) ≡ chosen count (take (i + 1) some)
marks_next count some i within =
    marks_more count (get_or some i 0) (take i some)
    ∙ ap (chosen count) (sym (take_more some i 0 within))

pub turned_at : (number : ℕ) (choice : Choice) (i : ℕ) → i < length choice
    → map (λ one. turned_if (one.0 == number) one.1) (enumerate_from 1 (take (i + 1) choice))
    ≡ map (λ one. turned_if (one.0 == number) one.1) (enumerate_from 1 (take i choice))
    ++ turned_if (i + 1 == number) (get_or choice i false) ∷ []
turned_at number choice i within =
    let place : 1 + length (take i choice) ≡ i + 1 = omega (arith, length-take i choice) in
    ap (λ (bs : List Bool).
    map (λ (one : ℕ × Bool). turned_if (one.0 == number) one.1) (enumerate_from 1 bs))
    (take_more choice i false within)
    ∙ ap (map (λ (one : ℕ × Bool). turned_if (one.0 == number) one.1))
    (enumerate_more 1 (take i choice) (get_or choice i false))
    ∙ map-append (λ (one : ℕ × Bool). turned_if (one.0 == number) one.1)
    (enumerate_from 1 (take i choice)) ((1 + length (take i choice), get_or choice i false) ∷ [])
    ∙ ap (λ (n : ℕ). map (λ (one : ℕ × Bool). turned_if (one.0 == number) one.1) (enumerate_from 1
    (take i choice)) ++ turned_if (n == number) (get_or choice i false) ∷ []) place
