-- The table of calls and the tables of functions, compared row by row.
use Rattle.std.proofs.Common.{◌≡◌, ℕ, zero, suc, ◌+◌, Bool, true, false, eqb, ◌&&◌, List, [], ◌∷◌}
use Rattle.std.proofs.Common.{Option, Some, None, refl, sym, ap, subst, ◌∙◌, inl, inr, arith}
use Rattle.std.specs.Prelude.{map, option_map, option_and_then, slice_get}
use Rattle.std.specs.Option.{is_some, option_flatten, option_map_or}
use Rattle.std.specs.List.{flat_map, list_all}
use Rattle.std.specs.Map.{lookup}
use Rattle.std.proofs.lemmas.Bool.{and_parts, eqb-true}
use Rattle.wap_base.proofs.Choices.{chosen, some_same}
use Rattle.wap_unit.specs.Libraries.{library, by_number, is_function, lib_args}
use Rattle.wap_libs.specs.declared.function.Function.{Function}
use Rattle.wap_libs.specs.Row.{arguments}
use Rattle.wap_libs.specs.Libraries.{libraries, function_at, row_of, IsPure}
use Rattle.wap_libs.specs.laws.Functions.{functions, called}

-- the names of calls are those of functions, computed
pub names_agree : flat_map called library ≡ functions
names_agree = refl

-- ---- from calls to functions

abbrev Call : Type 0
Call = ℕ × ℕ × ℕ × List ℕ × List ℕ

-- the function of these numbers, if there is one, takes so many arguments
abbrev takes : ℕ → ℕ → ℕ → Bool
takes number own count =
    option_map_or (λ f. eqb (arguments (row_of f)) count) (function_at number own) true

abbrev agrees : Call → Bool
agrees call = takes call.0 call.1 call.2

-- each call hands over what its function takes, computed
calls_agree : list_all agrees library ≡ true
calls_agree = refl

-- what is found among calls that agree, agrees
found_agrees : (calls : List Call) (number own count : ℕ) → list_all agrees calls ≡ true
    → lookup (is_function number own) (map by_number calls) ≡ Some count
    → takes number own count ≡ true
found_agrees [] number own count all is = absurd (cc is)
found_agrees (call ∷ calls) number own count all is =
    let parts = and_parts (agrees call) (list_all agrees calls) all in
    elim (chosen (is_function number own (call.0, call.1)) (Some call.2)
    (lookup (is_function number own) (map by_number calls)) (Some count) is) [
      | inl here ↦
          let same = and_parts (eqb call.0 number) (eqb call.1 own) here.0 in
          subst (λ (n : ℕ). takes n own count ≡ true) (eqb-true call.0 number same.0)
          (subst (λ (n : ℕ). takes call.0 n count ≡ true) (eqb-true call.1 own same.1)
          (subst (λ (n : ℕ). takes call.0 call.1 n ≡ true) (some_same call.2 count here.1) parts.0))
      | inr there ↦ found_agrees calls number own count parts.1 there.1
    ]

-- a call that is in the table hands over what its function takes
pub handed : (number own count : ℕ) (function : Function) → lib_args number own ≡ Some count
    → function_at number own ≡ Some function → IsPure number own count
unfolding lib_args
handed number own count function is there =
    let takes_so = found_agrees library number own count calls_agree is in
    let so_many : eqb (arguments (row_of function)) count ≡ true =
    sym (ap (λ o. option_map_or (λ f. eqb (arguments (row_of f)) count) o true) there) ∙ takes_so in
    ap (option_map (λ f. arguments (row_of f))) there
    ∙ ap Some (eqb-true (arguments (row_of function)) count so_many)

-- it is one of a function that needs no browser where there is such a function
pub pure_so : (number own count : ℕ) → is_some (function_at number own) ≡ true
    → lib_args number own ≡ Some count → IsPure number own count
pure_so number own count some is =
    by_found (function_at number own) refl
  where
    by_found : (found : Option Function) → function_at number own ≡ found
        → IsPure number own count
    by_found None none = absurd (cc (sym some ∙ ap is_some none))
    by_found (Some function) there = handed number own count function is there

-- ---- from functions to calls

-- a call of these numbers hands over as many arguments as the function takes
abbrev hands : ℕ → ℕ → Option Function → Bool
hands number own None = true
hands number own (Some f) =
    option_map_or (λ count. eqb count (arguments (row_of f))) (lib_args number own) false

-- the functions of a library from a number on
abbrev all_hand : ℕ → ℕ → List (Option Function) → Bool
all_hand number own [] = true
all_hand number own (f ∷ fs) = hands number own f && all_hand number (suc own) fs

-- the libraries from a number on
abbrev all_handed : ℕ → List (List (Option Function)) → Bool
all_handed number [] = true
all_handed number (fs ∷ rest) = all_hand number 0 fs && all_handed (suc number) rest

-- for each function there is a call that hands over what it takes, computed
functions_agree : all_handed 0 libraries ≡ true
unfolding lib_args
functions_agree = refl

none_before : (n : ℕ) → n ≡ 0 + n
none_before n = omega arith

none_after : (n : ℕ) → n + 0 ≡ n
none_after n = omega arith

-- the function that stands in the list agrees
one_hands : (number start : ℕ) (fs : List (Option Function)) (own : ℕ) (f : Option Function)
    → all_hand number start fs ≡ true → slice_get fs own ≡ Some f
    → hands number (own + start) f ≡ true
one_hands number start [] own f all is = absurd (cc is)
one_hands number start (g ∷ fs) zero f all is =
    subst (λ (n : ℕ). hands number n f ≡ true) (none_before start)
    (subst (λ (h : Option Function). hands number start h ≡ true) (some_same g f is)
    (and_parts (hands number start g) (all_hand number (suc start) fs) all).0)
one_hands number start (g ∷ fs) (suc own) f all is =
    let later : own + suc start ≡ suc own + start = omega arith in
    subst (λ (n : ℕ). hands number n f ≡ true) later (one_hands number (suc start) fs own f
    (and_parts (hands number start g) (all_hand number (suc start) fs) all).1 is)

-- so do all of the library that stands in the list
library_hands : (start : ℕ) (all : List (List (Option Function))) (number : ℕ)
    (fs : List (Option Function)) → all_handed start all ≡ true → slice_get all number ≡ Some fs
    → all_hand (number + start) 0 fs ≡ true
library_hands start [] number fs all is = absurd (cc is)
library_hands start (gs ∷ rest) zero fs all is =
    subst (λ (n : ℕ). all_hand n 0 fs ≡ true) (none_before start)
    (subst (λ (l : List (Option Function)). all_hand start 0 l ≡ true) (some_same gs fs is)
    (and_parts (all_hand start 0 gs) (all_handed (suc start) rest) all).0)
library_hands start (gs ∷ rest) (suc number) fs all is =
    let later : number + suc start ≡ suc number + start = omega arith in
    subst (λ (n : ℕ). all_hand n 0 fs ≡ true) later (library_hands (suc start) rest number fs
    (and_parts (all_hand start 0 gs) (all_handed (suc start) rest) all).1 is)

-- the number of arguments that is known of a call
counted : (found : Option ℕ) (count : ℕ)
    → option_map_or (λ (n : ℕ). eqb n count) found false ≡ true → found ≡ Some count
counted None count is = absurd (cc is)
counted (Some n) count is = ap Some (eqb-true n count is)

-- a function that needs no browser can be called
module _ (number own count : ℕ) where
  by_function : (f : Option Function) → hands number own f ≡ true
      → option_map (λ g. arguments (row_of g)) f ≡ Some count → lib_args number own ≡ Some count
  by_function None agrees is = absurd (cc is)
  by_function (Some f) agrees is =
      counted (lib_args number own) (arguments (row_of f)) agrees ∙ is

  by_own : (fs : List (Option Function)) (found : Option (Option Function))
      → slice_get libraries number ≡ Some fs → slice_get fs own ≡ found
      → option_map (λ g. arguments (row_of g)) (option_flatten found) ≡ Some count
      → lib_args number own ≡ Some count
  by_own fs None there here is = absurd (cc is)
  by_own fs (Some f) there here is =
      let listed =
      subst (λ (n : ℕ). all_hand n 0 fs ≡ true) (none_after number)
      (library_hands 0 libraries number fs functions_agree there) in
      by_function f (subst (λ (n : ℕ). hands number n f ≡ true) (none_after own)
      (one_hands number 0 fs own f listed here)) is

  by_library : (found : Option (List (Option Function))) → slice_get libraries number ≡ found
      → option_map (λ g. arguments (row_of g))
      (option_flatten (option_and_then (λ fs. slice_get fs own) found)) ≡ Some count
      → lib_args number own ≡ Some count
  by_library None there is = absurd (cc is)
  by_library (Some fs) there is = by_own fs (slice_get fs own) there refl is

  pub called_so : IsPure number own count → lib_args number own ≡ Some count
  called_so is = by_library (slice_get libraries number) refl is
