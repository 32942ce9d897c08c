-- Texts that are cut at the first character that passes a test.
use Rattle.std.proofs.Common.{◌≡◌, inl, inr, ℕ, ◌≤◌, Bool, true, false, not, ◌&&◌, ◌||◌, ◌==◌, List}
use Rattle.std.proofs.Common.{[], ◌∷◌, ◌++◌, refl, ap, sym, ◌∙◌, Some, None, Option}
use Rattle.std.specs.List.{list_all}
use Rattle.std.proofs.lemmas.Bool.{cases_Bool, cases_lt, and_parts, and_from, cond-true, cond-false}
use Rattle.std.proofs.lemmas.Bool.{not-true, not_from_false, eqb-true, agree_below, agree_below_at}
use Rattle.wap_base.specs.Cuts.{until, onward, after_one}
use Rattle.wap_url.specs.UrlParts.{led_by}

-- no character passes
abbrev pub NonePasses : (ℕ → Bool) → List ℕ → Type 0
NonePasses p xs = list_all (λ c. not (p c)) xs ≡ true

pub all-weaker : (p q : ℕ → Bool) → ((c : ℕ) → p c ≡ true → q c ≡ true)
    → (xs : List ℕ) → list_all p xs ≡ true → list_all q xs ≡ true
all-weaker p q each [] all = refl
all-weaker p q each (x ∷ xs) all =
    let both = and_parts (p x) (list_all p xs) all in
    and_from (q x) (list_all q xs) (each x both.0) (all-weaker p q each xs both.1)

pub all-append : (p : ℕ → Bool) (xs ys : List ℕ) → list_all p xs ≡ true → list_all p ys ≡ true
    → list_all p (xs ++ ys) ≡ true
all-append p [] ys all more = more
all-append p (x ∷ xs) ys all more =
    let both = and_parts (p x) (list_all p xs) all in
    and_from (p x) (list_all p (xs ++ ys)) both.0 (all-append p xs ys both.1 more)

pub all-front : (p : ℕ → Bool) (xs ys : List ℕ) → list_all p (xs ++ ys) ≡ true
    → list_all p xs ≡ true
all-front p [] ys all = refl
all-front p (x ∷ xs) ys all =
    let both = and_parts (p x) (list_all p (xs ++ ys)) all in
    and_from (p x) (list_all p xs) both.0 (all-front p xs ys both.1)

pub all-back : (p : ℕ → Bool) (xs ys : List ℕ) → list_all p (xs ++ ys) ≡ true → list_all p ys ≡ true
all-back p [] ys all = all
all-back p (x ∷ xs) ys all = all-back p xs ys (and_parts (p x) (list_all p (xs ++ ys)) all).1

pub all-both : (p q : ℕ → Bool) (xs : List ℕ) → list_all p xs ≡ true → list_all q xs ≡ true
    → list_all (λ c. p c && q c) xs ≡ true
all-both p q [] a b = refl
all-both p q (x ∷ xs) a b =
    let l = and_parts (p x) (list_all p xs) a in let r = and_parts (q x) (list_all q xs) b in
    and_from (p x && q x) (list_all (λ c. p c && q c) xs) (and_from (p x) (q x) l.0 r.0)
    (all-both p q xs l.1 r.1)

pub until-none : (p : ℕ → Bool) (xs : List ℕ) → NonePasses p (until p xs)
until-none p [] = refl
until-none p (x ∷ xs) = elim (cases_Bool (p x)) [
  | inl holds ↦ ap (list_all (λ c. not (p c))) (cond-true (p x) [] (x ∷ until p xs) holds)
  | inr fails ↦
      ap (list_all (λ c. not (p c))) (cond-false (p x) [] (x ∷ until p xs) fails)
      ∙ and_from (not (p x)) (list_all (λ c. not (p c)) (until p xs)) (not_from_false (p x) fails)
      (until-none p xs)
]

-- past a prefix of which no character passes
pub until-past : (p : ℕ → Bool) (xs ys : List ℕ) → NonePasses p xs
    → until p (xs ++ ys) ≡ xs ++ until p ys
until-past p [] ys none = refl
until-past p (x ∷ xs) ys none =
    let both = and_parts (not (p x)) (list_all (λ c. not (p c)) xs) none in
    cond-false (p x) [] (x ∷ until p (xs ++ ys)) (not-true (p x) both.0)
    ∙ ap (λ zs. x ∷ zs) (until-past p xs ys both.1)

pub onward-past : (p : ℕ → Bool) (xs ys : List ℕ) → NonePasses p xs
    → onward p (xs ++ ys) ≡ onward p ys
onward-past p [] ys none = refl
onward-past p (x ∷ xs) ys none =
    let both = and_parts (not (p x)) (list_all (λ c. not (p c)) xs) none in
    cond-false (p x) (x ∷ (xs ++ ys)) (onward p (xs ++ ys)) (not-true (p x) both.0)
    ∙ onward-past p xs ys both.1

-- where the rest is nothing, or begins with a character that passes
abbrev pub StopsAtOnce : (ℕ → Bool) → List ℕ → Type 0
StopsAtOnce p [] = Unit {0}
StopsAtOnce p (y ∷ ys) = p y ≡ true

pub until-stop : (p : ℕ → Bool) (ys : List ℕ) → StopsAtOnce p ys → until p ys ≡ []
until-stop p [] stops = refl
until-stop p (y ∷ ys) stops = cond-true (p y) [] (y ∷ until p ys) stops

pub onward-stop : (p : ℕ → Bool) (ys : List ℕ) → StopsAtOnce p ys → onward p ys ≡ ys
onward-stop p [] stops = refl
onward-stop p (y ∷ ys) stops = cond-true (p y) (y ∷ ys) (onward p ys) stops

pub onward-stops : (p : ℕ → Bool) (xs : List ℕ) → StopsAtOnce p (onward p xs)
onward-stops p [] = tt
onward-stops p (x ∷ xs) =
    Rattle.std.proofs.lemmas.Bool.cond_both (p x) (x ∷ xs) (onward p xs) (StopsAtOnce p)
    (λ holds. holds) (λ _. onward-stops p xs)

-- what follows a cut at one character
pub led-onward : (k : ℕ) (xs : List ℕ) → StopsAtOnce (λ c. c == k) xs
    → led_by (k ∷ []) (after_one xs) ≡ xs
led-onward k [] stops = refl
led-onward k (x ∷ xs) stops = ap (λ c. c ∷ xs) (sym (eqb-true x k stops))

pub led-stops : (p : ℕ → Bool) (k : ℕ) (part : Option (List ℕ)) → p k ≡ true
    → StopsAtOnce p (led_by (k ∷ []) part)
led-stops p k None stops = tt
led-stops p k (Some part) stops = stops

pub after-led : (k : ℕ) (part : Option (List ℕ)) → after_one (led_by (k ∷ []) part) ≡ part
after-led k None = refl
after-led k (Some part) = refl

-- one test implies another, where it does below 128 and none above passes it
pub implies : (p q : ℕ → Bool) → agree_below (λ c. not (p c) || q c) (λ _. true) 128 ≡ true
    → ((c : ℕ) → 128 ≤ c → p c ≡ false) → (c : ℕ) → p c ≡ true → q c ≡ true
implies p q table high c holds = elim (cases_lt c 128) [
  | inl low ↦ from (agree_below_at (λ c. not (p c) || q c) (λ _. true) 128 c table low)
  | inr above ↦ absurd (both (high c above))
] where
  from : (not (p c) || q c) ≡ true → q c ≡ true
  from either = sym (ap (λ t. not t || q c) holds) ∙ either

  both : p c ≡ false → ⊥
  both fails = let e : true ≡ false = sym holds ∙ fails in cc
