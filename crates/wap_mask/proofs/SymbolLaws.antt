-- What a mask's text is read as by calculation is what it is by the grammar.
use Rattle.std.proofs.Common.{◌≡◌, ◌≢◌, ℕ, zero, suc, ◌+◌, ◌-◌, ◌≤◌, ◌<◌, List, [], ◌∷◌}
use Rattle.std.proofs.Common.{◌++◌, length, true, false, cond, Option, Some, None, refl, sym}
use Rattle.std.proofs.Common.{ap, ◌∙◌, inl, inr, subst, append_assoc, arith}
use Rattle.std.specs.Prelude.{option_map, ◌==◌, not}
use Rattle.std.specs.Int.{is_in_range}
use Rattle.std.proofs.lemmas.Bool.{eqb-true, false≢true}
use Rattle.std.proofs.lemmas.Bool.Decides.{nat_tests}
use Rattle.std.proofs.lemmas.Option.{some_pair_parts}
use Rattle.wap_base.specs.Options.{◌>>=◌}
use Rattle.wap_base.specs.Texts.{is_empty, first_of}
use Rattle.wap_mask.specs.declared.class.Class.{Class}
use Rattle.wap_mask.specs.declared.symbol.Symbol.{Symbol}
use Rattle.wap_mask.specs.declared.symbol.Symbol.TheVariants.{One, Exactly, UpTo, AnyNumber}
use Rattle.wap_mask.specs.Characters.{class_of}
use Rattle.wap_mask.specs.Grammar.{IsMask, nothing, letter, escaped, starred}
use Rattle.wap_mask.specs.Grammar.{counted, RepeatsLast, any_text}
use Rattle.wap_mask.specs.Calculation.{is_misplaced, class_at}
use Rattle.wap_mask.specs.Calculation.{symbol_at, symbols_at, symbols_of}
use Rattle.wap_base.proofs.Choices.{chosen}
use Rattle.wap_base.proofs.Options.{bound}

-- The text begins with the symbol, and the rest follows it.
pub data IsSymbol : List ℕ → Symbol → List ℕ → Type 0 where
  one : {c : ℕ} {class : Class} {text : List ℕ} → class_of c ≡ Some class
      → IsSymbol (c ∷ text) (One class) text
  kept : {c : ℕ} {text : List ℕ} → IsSymbol (92 ∷ c ∷ text) (Exactly c) text
  any : {c : ℕ} {class : Class} {text : List ℕ} → class_of c ≡ Some class
      → IsSymbol (42 ∷ c ∷ text) (AnyNumber class) text
  up_to : {digit most c : ℕ} {class : Class} {text : List ℕ} → digit ≡ 48 + most → 1 ≤ most
      → most ≤ 9 → class_of c ≡ Some class → IsSymbol (digit ∷ c ∷ text) (UpTo most class) text

IsSymbol-same : (text rest left : List ℕ) (s t : Symbol) → IsSymbol text s rest
    → ◌≡◌ {A = Option (Symbol × List ℕ)} (Some (s, rest)) (Some (t, left)) → IsSymbol text t left
IsSymbol-same text rest left s t i e =
    let p = some_pair_parts s t rest left e in
    subst (λ u. IsSymbol text u left) p.0 (subst (λ r. IsSymbol text s r) p.1 i)

-- a letter comes after the digits, and is no backslash
in_range : (c : ℕ) → is_in_range 49 57 c ≡ true → (49 ≤ c) × (c ≤ 57)
in_range c e = grind (arith, nat_tests)

letter_place : (c : ℕ) (class : Class) → class_of c ≡ Some class → (58 ≤ c) × (c ≢ 92)
letter_place c class e = grind (arith, nat_tests)

class_at-is : (text rest : List ℕ) (class : Class) → class_at text ≡ Some (class, rest)
    → (c : ℕ) × (text ≡ c ∷ rest) × (class_of c ≡ Some class)
class_at-is [] rest class e = cc
class_at-is (c ∷ text) rest class e =
    let b = bound (class_of c) (λ k. Some (k, text)) (class, rest) e in
    let p = some_pair_parts b.0 class text rest b.2 in
    (c, ap (λ t. c ∷ t) p.1, b.1 ∙ ap Some p.0)

abbrev kept_of : List ℕ → Option (Symbol × List ℕ)
kept_of text = first_of text >>= λ k. Some (Exactly k.0, k.1)

abbrev as_symbol : (Class → Symbol) → Option (Class × List ℕ) → Option (Symbol × List ℕ)
as_symbol make read = read >>= λ k. Some (make k.0, k.1)

kept-is : (c : ℕ) (text rest : List ℕ) (s : Symbol) → c ≡ 92 → kept_of text ≡ Some (s, rest)
    → IsSymbol (c ∷ text) s rest
kept-is c [] rest s is e = cc
kept-is c (k ∷ text) rest s is e =
    rw is (IsSymbol-same (92 ∷ k ∷ text) text rest (Exactly k) s kept e)

any-is : (c : ℕ) (text rest : List ℕ) (s : Symbol) → c ≡ 42
    → as_symbol AnyNumber (class_at text) ≡ Some (s, rest) → IsSymbol (c ∷ text) s rest
any-is c text rest s is e =
    let b = bound (class_at text) (λ k. Some (AnyNumber k.0, k.1)) (s, rest) e in
    let w = class_at-is text b.0.1 b.0.0 b.1 in
    rw (is, w.1) (IsSymbol-same (42 ∷ w.0 ∷ b.0.1) b.0.1 rest (AnyNumber b.0.0) s (any w.2) b.2)

up_to-is : (c : ℕ) (text rest : List ℕ) (s : Symbol) → 49 ≤ c → c ≤ 57
    → as_symbol (UpTo (c - 48)) (class_at text) ≡ Some (s, rest) → IsSymbol (c ∷ text) s rest
up_to-is c text rest s low high e =
    let b = bound (class_at text) (λ k. Some (UpTo (c - 48) k.0, k.1)) (s, rest) e in
    let w = class_at-is text b.0.1 b.0.0 b.1 in
    rw w.1 (IsSymbol-same (c ∷ w.0 ∷ b.0.1) b.0.1 rest (UpTo (c - 48) b.0.0) s
    (up_to (omega arith) (omega arith) (omega arith) w.2) b.2)

one-is : (c : ℕ) (text rest : List ℕ) (s : Symbol)
    → as_symbol One (class_at (c ∷ text)) ≡ Some (s, rest) → IsSymbol (c ∷ text) s rest
one-is c text rest s e =
    let b = bound (class_at (c ∷ text)) (λ k. Some (One k.0, k.1)) (s, rest) e in
    let w = bound (class_of c) (λ k. Some (k, text)) b.0 b.1 in
    IsSymbol-same (c ∷ text) text rest (One w.0) s (one w.1) (ap (as_symbol One) w.2 ∙ b.2)

-- what is read as a symbol is one
pub symbol_at-is : (text rest : List ℕ) (s : Symbol) → symbol_at text ≡ Some (s, rest)
    → IsSymbol text s rest
symbol_at-is [] rest s e = cc
symbol_at-is (c ∷ text) rest s e =
    elim (chosen (c == 92) (kept_of text) _ (Some (s, rest)) e) [
      | inl escape ↦ kept-is c text rest s (eqb-true c 92 escape.0) escape.1
      | inr others ↦
          elim (chosen (c == 42) (as_symbol AnyNumber (class_at text)) _
          (Some (s, rest)) others.1) [
            | inl star ↦ any-is c text rest s (eqb-true c 42 star.0) star.1
            | inr rest_of ↦
                elim (chosen (is_in_range 49 57 c) (as_symbol (UpTo (c - 48)) (class_at text))
                (as_symbol One (class_at (c ∷ text))) (Some (s, rest)) rest_of.1) [
                  | inl digit ↦ let r = in_range c digit.0 in up_to-is c text rest s r.0 r.1 digit.1
                  | inr letters ↦ one-is c text rest s letters.1
                ]
          ]
    ]

not_digit : (c : ℕ) → 58 ≤ c → is_in_range 49 57 c ≡ false
not_digit c far = grind (arith, nat_tests)

is_digit : (c : ℕ) → 49 ≤ c → c ≤ 57 → is_in_range 49 57 c ≡ true
is_digit c low high = grind (arith, nat_tests)

other_than : (c d : ℕ) → c ≢ d → (c == d) ≡ false
other_than c d different = grind (arith, nat_tests)

-- a symbol is read as what it is
pub symbol_at-from : {text rest : List ℕ} {s : Symbol} → IsSymbol text s rest
    → symbol_at text ≡ Some (s, rest)
symbol_at-from (one {c} {class} {text} e) =
    let place = letter_place c class e in
    rw (other_than c 92 place.1, other_than c 42 (omega arith), not_digit c place.0)
    (ap (λ k. as_symbol One (k >>= λ known. Some (known, text))) e)
symbol_at-from kept = refl
symbol_at-from (any {c} {class} {text} e) =
    ap (λ k. as_symbol AnyNumber (k >>= λ known. Some (known, text))) e
symbol_at-from (up_to {digit} {most} {c} {class} {text} is low high e) =
    let same : 48 + most - 48 ≡ most = omega arith in
    rw is (rw (
      other_than (48 + most) 92 (omega arith),
      other_than (48 + most) 42 (omega arith),
      is_digit (48 + most) (omega arith) (omega arith),
      same,
    )
    (ap (λ k. as_symbol (UpTo most) (k >>= λ known. Some (known, text))) e))

-- a symbol takes at least a character of the text
shorter : {text rest : List ℕ} {s : Symbol} → IsSymbol text s rest → length rest < length text
shorter (one e) = omega arith
shorter kept = omega arith
shorter (any e) = omega arith
shorter (up_to is low high e) = omega arith

-- what follows a symbol that was read
abbrev goes_on : (List ℕ → Option (List Symbol)) → Symbol × List ℕ → Option (List Symbol)
goes_on more read =
    cond (is_misplaced read.0 read.1) None (option_map (λ mask. read.0 ∷ mask) (more read.1))

goes_on-same : (f g : List ℕ → Option (List Symbol)) (text : List ℕ) (o : Option (Symbol × List ℕ))
    → symbol_at text ≡ o
    → ((rest : List ℕ) → length rest < length text → f rest ≡ g rest)
    → (o >>= goes_on f) ≡ (o >>= goes_on g)
goes_on-same f g text None was same = refl
goes_on-same f g text (Some read) was same =
    ap (λ more. cond (is_misplaced read.0 read.1) None (option_map (λ mask. read.0 ∷ mask) more))
    (same read.1 (shorter (symbol_at-is text read.1 read.0 was)))

-- more fuel than characters changes nothing
symbols_at-enough : (f g : ℕ) (text : List ℕ) → length text ≤ f → length text ≤ g
    → symbols_at f text ≡ symbols_at g text
symbols_at-enough zero zero text few enough = refl
symbols_at-enough zero (suc g) [] few enough = refl
symbols_at-enough zero (suc g) (c ∷ text) few enough = absurd (omega arith)
symbols_at-enough (suc f) zero [] few enough = refl
symbols_at-enough (suc f) zero (c ∷ text) few enough = absurd (omega arith)
symbols_at-enough (suc f) (suc g) [] few enough = refl
symbols_at-enough (suc f) (suc g) (c ∷ text) few enough =
    goes_on-same (symbols_at f) (symbols_at g) (c ∷ text) (symbol_at (c ∷ text)) refl
    (λ rest less. symbols_at-enough f g rest (omega arith) (omega arith))

symbols_of-goes_on : (c : ℕ) (text : List ℕ)
    → symbols_of (c ∷ text) ≡ (symbol_at (c ∷ text) >>= goes_on symbols_of)
symbols_of-goes_on c text =
    goes_on-same (symbols_at (length text)) symbols_of (c ∷ text) (symbol_at (c ∷ text)) refl
    (λ rest less. symbols_at-enough (length text) (length rest) rest (omega arith) (omega arith))

-- else the symbol comes before the others
pub symbols_of-next : (text rest : List ℕ) (s : Symbol) → symbol_at text ≡ Some (s, rest)
    → is_misplaced s rest ≡ false
    → symbols_of text ≡ option_map (λ mask. s ∷ mask) (symbols_of rest)
symbols_of-next [] rest s e good = cc
symbols_of-next (c ∷ text) rest s e good =
    symbols_of-goes_on c text ∙ ap (λ o. o >>= goes_on symbols_of) e
    ∙ ap (λ test. cond test None (option_map (λ mask. s ∷ mask) (symbols_of rest))) good

nothing-from_nil : {text : List ℕ} {mask : List Symbol} → IsMask text mask
    → not (is_empty text) ≡ false → (text ≡ []) × (mask ≡ [])
nothing-from_nil nothing none = (refl, refl)
nothing-from_nil _ none = absurd (false≢true (sym none))

-- the rules of the grammar, by the symbol that the text begins with
IsMask-step : {text rest : List ℕ} {s : Symbol} (mask : List Symbol) → IsSymbol text s rest
    → is_misplaced s rest ≡ false → IsMask rest mask → IsMask text (s ∷ mask)
IsMask-step mask (one e) good more = letter e more
IsMask-step mask kept good more = escaped more
IsMask-step mask (any e) good more =
    let n = nothing-from_nil more good in
    rw (n.0, n.1) (starred e)
IsMask-step mask (up_to is low high e) good more =
    let n = nothing-from_nil more good in
    rw (n.0, n.1) (counted is low high e)

mapped : (s : Symbol) (o : Option (List Symbol)) (mask : List Symbol)
    → option_map (λ more. s ∷ more) o ≡ Some mask
    → (more : List Symbol) × (o ≡ Some more) × (s ∷ more ≡ mask)
mapped s None mask e = cc
mapped s (Some more) mask e = (more, refl, cc)

-- what is read as a mask is one
symbols_at-is : (fuel : ℕ) (text : List ℕ) (mask : List Symbol) → symbols_at fuel text ≡ Some mask
    → IsMask text mask
symbols_at-is zero [] mask e = let same : [] ≡ mask = cc in subst (λ m. IsMask [] m) same nothing
symbols_at-is (suc fuel) [] mask e =
    let same : [] ≡ mask = cc in
    subst (λ m. IsMask [] m) same nothing
symbols_at-is zero (c ∷ text) mask e = cc
symbols_at-is (suc fuel) (c ∷ text) mask e =
    let b = bound (symbol_at (c ∷ text)) (goes_on (symbols_at fuel)) mask e in
    let s = b.0.0 in
    let rest = b.0.1 in
    elim (chosen (is_misplaced s rest) None (option_map (λ more. s ∷ more) (symbols_at fuel rest))
    (Some mask) b.2) [
      | inl bad ↦ cc (bad.1)
      | inr good ↦
          let m = mapped s (symbols_at fuel rest) mask good.1 in
          subst (λ t. IsMask (c ∷ text) t) m.2 (IsMask-step m.0
          (symbol_at-is (c ∷ text) rest s b.1) good.0 (symbols_at-is fuel rest m.0 m.1))
    ]

pub symbols_of-is : (text : List ℕ) (mask : List Symbol) → symbols_of text ≡ Some mask
    → IsMask text mask
symbols_of-is text mask e = symbols_at-is (length text) text mask e

-- a mask is read as what it is
pub symbols_of-from : {text : List ℕ} {mask : List Symbol} → IsMask text mask
    → symbols_of text ≡ Some mask
symbols_of-from nothing = refl
symbols_of-from (letter {c} {class} {text} {mask} e more) =
    symbols_of-next (c ∷ text) text (One class)
    (symbol_at-from (one {c = c} {class = class} {text = text} e)) refl
    ∙ ap (option_map (λ m. One class ∷ m)) (symbols_of-from more)
symbols_of-from (escaped {c} {text} {mask} more) =
    symbols_of-next (92 ∷ c ∷ text) text (Exactly c)
    (symbol_at-from (kept {c = c} {text = text})) refl
    ∙ ap (option_map (λ m. Exactly c ∷ m)) (symbols_of-from more)
symbols_of-from (starred {c} {class} e) =
    symbols_of-next (42 ∷ c ∷ []) [] (AnyNumber class)
    (symbol_at-from (any {c = c} {class = class} {text = []} e)) refl
symbols_of-from (counted {digit} {most} {c} {class} is low high e) =
    symbols_of-next (digit ∷ c ∷ []) [] (UpTo most class) (symbol_at-from
    (up_to {digit = digit} {most = most} {c = c} {class = class} {text = []} is low high e)) refl

-- only the last symbol of a mask repeats
pub RepeatsLast-from_mask : {text : List ℕ} {mask : List Symbol} → IsMask text mask
    → RepeatsLast mask
RepeatsLast-from_mask nothing = tt
RepeatsLast-from_mask (letter e more) = (λ again. cc, RepeatsLast-from_mask more)
RepeatsLast-from_mask (escaped more) = (λ again. cc, RepeatsLast-from_mask more)
RepeatsLast-from_mask (starred e) = (λ again. refl, tt)
RepeatsLast-from_mask (counted is low high e) = (λ again. refl, tt)

-- what a read mask says of the texts that it was read from
pub RepeatsLast-read : (text : List ℕ) (mask : List Symbol) → symbols_of text ≡ Some mask
    → RepeatsLast mask
RepeatsLast-read text mask e = RepeatsLast-from_mask (symbols_of-is text mask e)

pub read-well_formed : (text : List ℕ) (mask symbols : List Symbol) → symbols_of text ≡ Some mask
    → IsMask text symbols → mask ≡ symbols
read-well_formed text mask symbols e m =
    let f = symbols_of-from m in cc

pub unread-well_formed : (text : List ℕ) (mask symbols : List Symbol) → symbols_of text ≡ None
    → IsMask text symbols → mask ≡ symbols
unread-well_formed text mask symbols e m =
    let f = symbols_of-from m in cc

pub read-ill_formed : (text : List ℕ) (mask : List Symbol) → symbols_of text ≡ Some mask
    → ((symbols : List Symbol) → ¬ IsMask text symbols) → mask ≡ any_text
read-ill_formed text mask e ill = absurd (ill mask (symbols_of-is text mask e))

appended : (symbols : List Symbol) (s : Symbol) (o : Option (List Symbol))
    → option_map (λ more. (symbols ++ s ∷ []) ++ more) o
    ≡ option_map (λ more. symbols ++ more) (option_map (λ more. s ∷ more) o)
appended symbols s None = refl
appended symbols s (Some more) = ap Some (append_assoc symbols (s ∷ []) more)

-- one more symbol at the end of those that were read
pub symbols_of-push : (symbols : List Symbol) (text rest : List ℕ) (s : Symbol)
    (whole : Option (List Symbol)) → symbol_at text ≡ Some (s, rest) → is_misplaced s rest ≡ false
    → option_map (λ more. symbols ++ more) (symbols_of text) ≡ whole
    → option_map (λ more. (symbols ++ s ∷ []) ++ more) (symbols_of rest) ≡ whole
symbols_of-push symbols text rest s whole e good was =
    appended symbols s (symbols_of rest)
    ∙ ap (option_map (λ more. symbols ++ more)) (sym (symbols_of-next text rest s e good)) ∙ was
