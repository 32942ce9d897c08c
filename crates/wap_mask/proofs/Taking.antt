-- What the symbols take by calculation is what is in the mask's set.
use Rattle.std.proofs.Common.{◌≡◌, ℕ, zero, suc, ◌≤◌, List, [], ◌∷◌, ◌++◌, length, Bool, true}
use Rattle.std.proofs.Common.{false, cond, Option, Some, None, refl, sym, ap, ◌∙◌, subst, arith}
use Rattle.std.specs.Prelude.{option_map, unwrap_or, IsTrue, ◌==◌}
use Rattle.std.specs.List.{AllPass}
use Rattle.std.proofs.lemmas.Bool.{eqb-true, eq-eqb}
use Rattle.std.proofs.lemmas.List.{append-nil}
use Rattle.std.proofs.lemmas.List.Elements.{All-nil, All-cons, All-head, All-tail}
use Rattle.std.proofs.lemmas.Option.{cond_some}
use Rattle.wap_mask.specs.declared.class.Class.{Class}
use Rattle.wap_mask.specs.declared.symbol.Symbol.{Symbol}
use Rattle.wap_mask.specs.declared.symbol.Symbol.TheVariants.{One, Exactly, UpTo, AnyNumber}
use Rattle.wap_mask.specs.Characters.{is_in}
use Rattle.wap_mask.specs.Texts.{Takes, IsTaken}
use Rattle.wap_mask.specs.Grammar.{repeats, RepeatsLast}
use Rattle.wap_mask.specs.Calculation.{after_all, after_up_to, after, is_taken}

-- a prefix of a text, in a symbol's set, and what follows it
pub record Splits (symbol : Symbol) (text rest : List ℕ) : Type 0 where
  pub front : List ℕ
  pub joined : text ≡ front ++ rest
  pub takes : Takes symbol front

-- one more character of a run of the class, where the character is in it
any_number-more : (class : Class) (c : ℕ) (text rest : List ℕ) (test : Bool) → is_in class c ≡ test
    → Splits (AnyNumber class) text rest
    → Splits (AnyNumber class) (c ∷ text) (cond test rest (c ∷ text))
any_number-more class c text rest true inside s = record {
  front = c ∷ s.front;
  joined = ap (λ t. c ∷ t) s.joined;
  takes = All-cons (λ x. is_in class x ≡ true) c s.front inside s.takes;
}
any_number-more class c text rest false inside s =
    record { front = []; joined = refl; takes = All-nil (λ x. is_in class x ≡ true) }

after_all-splits : (class : Class) (text : List ℕ)
    → Splits (AnyNumber class) text (after_all class text)
after_all-splits class [] =
    record { front = []; joined = refl; takes = All-nil (λ x. is_in class x ≡ true) }
after_all-splits class (c ∷ text) =
    any_number-more class c text _ (is_in class c) refl (after_all-splits class text)

up_to-more : (class : Class) (most c : ℕ) (text rest : List ℕ) (test : Bool) → is_in class c ≡ test
    → Splits (UpTo most class) text rest
    → Splits (UpTo (suc most) class) (c ∷ text) (cond test rest (c ∷ text))
up_to-more class most c text rest true inside s = record {
  front = c ∷ s.front;
  joined = ap (λ t. c ∷ t) s.joined;
  takes =
      (All-cons (λ x. is_in class x ≡ true) c s.front inside s.takes.0, omega (arith, s.takes.1));
}
up_to-more class most c text rest false inside s =
    record { front = []; joined = refl; takes = (All-nil (λ x. is_in class x ≡ true), omega arith) }

after_up_to-splits : (class : Class) (most : ℕ) (text : List ℕ)
    → Splits (UpTo most class) text (after_up_to class most text)
after_up_to-splits class zero text =
    record { front = []; joined = refl; takes = (All-nil (λ x. is_in class x ≡ true), omega arith) }
after_up_to-splits class (suc most) [] =
    record { front = []; joined = refl; takes = (All-nil (λ x. is_in class x ≡ true), omega arith) }
after_up_to-splits class (suc most) (c ∷ text) =
    up_to-more class most c text _ (is_in class c) refl (after_up_to-splits class most text)

-- what a symbol leaves of a text, it leaves after a prefix that is in its set
pub after-splits : (symbol : Symbol) (text rest : List ℕ) → after symbol text ≡ Some rest
    → Splits symbol text rest
after-splits (One class) [] rest e = cc
after-splits (One class) (c ∷ text) rest e =
    let g = cond_some (is_in class c) text rest e in
    record { front = c ∷ []; joined = ap (λ t. c ∷ t) g.1; takes = (c, refl, g.0) }
after-splits (Exactly wanted) [] rest e = cc
after-splits (Exactly wanted) (c ∷ text) rest e =
    let g = cond_some (c == wanted) text rest e in
    record {
      front = c ∷ [];
      joined = ap (λ t. c ∷ t) g.1;
      takes = ap (λ x. x ∷ []) (eqb-true c wanted g.0);
    }
after-splits (UpTo most class) text rest e =
    let same : after_up_to class most text ≡ rest = cc in
    subst (λ r. Splits (UpTo most class) text r) same (after_up_to-splits class most text)
after-splits (AnyNumber class) text rest e =
    let same : after_all class text ≡ rest = cc in
    subst (λ r. Splits (AnyNumber class) text r) same (after_all-splits class text)

taken-step : (symbol : Symbol) (mask : List Symbol) (text : List ℕ) (left : Option (List ℕ))
    → after symbol text ≡ left
    → ((rest : List ℕ) → is_taken mask rest ≡ true → IsTaken mask rest)
    → unwrap_or (option_map (is_taken mask) left) false ≡ true → IsTaken (symbol ∷ mask) text
taken-step symbol mask text None was again e = cc
taken-step symbol mask text (Some rest) was again e =
    let s = after-splits symbol text rest was in
    (s.front, rest, s.joined, s.takes, again rest e)

-- what is taken is in the set
pub IsTaken-from_test : (mask : List Symbol) (text : List ℕ) → is_taken mask text ≡ true
    → IsTaken mask text
IsTaken-from_test [] [] e = refl
IsTaken-from_test [] (c ∷ text) e = cc
IsTaken-from_test (symbol ∷ mask) text e =
    taken-step symbol mask text (after symbol text) refl (IsTaken-from_test mask) e

after_all-whole : (class : Class) (text : List ℕ) → AllPass (is_in class) text
    → after_all class text ≡ []
after_all-whole class [] inside = refl
after_all-whole class (c ∷ text) inside =
    ap (λ test. cond test (after_all class text) (c ∷ text))
    (All-head (λ x. is_in class x ≡ true) c text inside)
    ∙ after_all-whole class text (All-tail (λ x. is_in class x ≡ true) c text inside)

after_up_to-whole : (class : Class) (most : ℕ) (text : List ℕ) → AllPass (is_in class) text
    → length text ≤ most → after_up_to class most text ≡ []
after_up_to-whole class zero [] inside few = refl
after_up_to-whole class zero (c ∷ text) inside few = absurd (omega arith)
after_up_to-whole class (suc most) [] inside few = refl
after_up_to-whole class (suc most) (c ∷ text) inside few =
    ap (λ test. cond test (after_up_to class most text) (c ∷ text))
    (All-head (λ x. is_in class x ≡ true) c text inside)
    ∙ after_up_to-whole class most text
    (All-tail (λ x. is_in class x ≡ true) c text inside) (omega arith)

-- a text of a symbol's set comes off whole, where nothing follows or the symbol takes one character
pub after-whole : (symbol : Symbol) (front back : List ℕ) → Takes symbol front
    → (repeats symbol ≡ true → back ≡ []) → after symbol (front ++ back) ≡ Some back
after-whole (One class) front back t last = rw t.1 (ap (λ test. cond test (Some back) None) t.2)
after-whole (Exactly c) front back t last =
    rw t (ap (λ test. cond test (Some back) None) (eq-eqb c c refl))
after-whole (UpTo most class) front back t last =
    let none = last refl in
    rw none (rw append-nil (ap Some (after_up_to-whole class most front t.0 t.1)))
after-whole (AnyNumber class) front back t last =
    let none = last refl in
    rw none (rw append-nil (ap Some (after_all-whole class front t)))

nothing-behind : (mask : List Symbol) (back : List ℕ) → mask ≡ [] → IsTaken mask back → back ≡ []
nothing-behind [] back none t = t
nothing-behind (symbol ∷ mask) back none t = cc

-- what is in the set is taken, where no symbol but the last repeats
pub test-from_IsTaken : (mask : List Symbol) (text : List ℕ) → RepeatsLast mask → IsTaken mask text
    → is_taken mask text ≡ true
test-from_IsTaken [] text last t = ap (is_taken []) t
test-from_IsTaken (symbol ∷ mask) text last t =
    let front = t.0 in
    let back = t.1 in
    ap (λ whole. unwrap_or (option_map (is_taken mask) (after symbol whole)) false) t.2
    ∙ ap (λ left. unwrap_or (option_map (is_taken mask) left) false)
    (after-whole symbol front back t.3 (λ again. nothing-behind mask back (last.0 again) t.4))
    ∙ test-from_IsTaken mask back last.1 t.4

-- what the test says, at a mask
pub IsTaken_iff_test : (test : Bool) (mask : List Symbol) (text : List ℕ) → RepeatsLast mask
    → test ≡ is_taken mask text
    → (IsTrue test → IsTaken mask text) × (IsTaken mask text → IsTrue test)
IsTaken_iff_test test mask text last e =
    (λ t. IsTaken-from_test mask text (sym e ∙ t), λ t. e ∙ test-from_IsTaken mask text last t)
