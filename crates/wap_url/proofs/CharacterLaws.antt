-- Characters past US-ASCII pass none of the tests.
use Rattle.std.proofs.Common.{◌≡◌, ℕ, ◌<◌, ◌≤◌, true, false, not, List, []}
use Rattle.std.proofs.Common.{◌∷◌, refl, arith, nat_lt, ◌==◌, codes}
use Rattle.std.specs.List.{list_all}
use Rattle.std.specs.Char.{is_ascii_graphic, is_ascii_alphabetic}
use Rattle.std.specs.Char.{is_ascii_alphanumeric}
use Rattle.std.proofs.lemmas.Bool.{or_from, and_left, ne_eqb}
use Rattle.std.proofs.lemmas.Bool.Decides.{nat_tests}
use Rattle.wap_url.specs.Characters.{is_one_of, is_allowed, is_unreserved}
use Rattle.wap_url.specs.Characters.{is_scheme_character, is_host_character}

pub alphanumeric_high : (c : ℕ) → 128 ≤ c → is_ascii_alphanumeric c ≡ false
alphanumeric_high c high = grind (arith, nat_tests)

pub alphabetic_high : (c : ℕ) → 128 ≤ c → is_ascii_alphabetic c ≡ false
alphabetic_high c high = grind (arith, nat_tests)

pub graphic_high : (c : ℕ) → 128 ≤ c → is_ascii_graphic c ≡ false
graphic_high c high = grind (arith, nat_tests)

-- none of a list of characters of US-ASCII
pub one_of_high : (cs : List ℕ) (c : ℕ) → list_all (λ d. nat_lt d 128) cs ≡ true → 128 ≤ c
    → is_one_of cs c ≡ false
one_of_high [] c low high = refl
one_of_high (d ∷ cs) c low high =
    or_from (c == d) (is_one_of cs c)
    (ne_eqb c d (λ e. absurd (differ d c e (first d cs low) high)))
    (one_of_high cs c (others d cs low) high) where
      first : (d : ℕ) (cs : List ℕ) → list_all (λ d. nat_lt d 128) (d ∷ cs) ≡ true → d < 128
      first d cs low =
          Rattle.std.proofs.lemmas.Bool.ltb-true d 128 (Rattle.std.proofs.lemmas.Bool.and_parts
          (nat_lt d 128) (list_all (λ d. nat_lt d 128) cs) low).0

      others : (d : ℕ) (cs : List ℕ) → list_all (λ d. nat_lt d 128) (d ∷ cs) ≡ true
          → list_all (λ d. nat_lt d 128) cs ≡ true
      others d cs low =
          (Rattle.std.proofs.lemmas.Bool.and_parts (nat_lt d 128)
          (list_all (λ d. nat_lt d 128) cs) low).1

      differ : (d c : ℕ) → c ≡ d → d < 128 → 128 ≤ c → ⊥
      differ d c e low high = omega arith

pub unreserved_high : (c : ℕ) → 128 ≤ c → is_unreserved c ≡ false
unreserved_high c high =
    or_from (is_ascii_alphanumeric c) (is_one_of (codes "-_.!~*'()") c) (alphanumeric_high c high)
    (one_of_high (codes "-_.!~*'()") c refl high)

pub allowed_high : (c : ℕ) → 128 ≤ c → is_allowed c ≡ false
allowed_high c high =
    and_left (is_ascii_graphic c) (not (is_one_of (codes "\"<>#") c)) (graphic_high c high)

pub scheme_high : (c : ℕ) → 128 ≤ c → is_scheme_character c ≡ false
scheme_high c high =
    or_from (is_ascii_alphanumeric c) (is_one_of (codes "+-.") c) (alphanumeric_high c high)
    (one_of_high (codes "+-.") c refl high)

pub host_high : (c : ℕ) → 128 ≤ c → is_host_character c ≡ false
host_high c high =
    or_from (is_ascii_alphanumeric c) (is_one_of (codes "-.") c) (alphanumeric_high c high)
    (one_of_high (codes "-.") c refl high)
