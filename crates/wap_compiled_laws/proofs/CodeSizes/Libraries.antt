-- The numbers of a library's function take as many arguments as its names, and have room in an
-- instruction.
use Rattle.std.proofs.Common.{◌≡◌, ℕ, ◌<◌, Bool, true, false, ◌&&◌, List, [], ◌∷◌, map, Option}
use Rattle.std.proofs.Common.{Some, None, refl, ap, subst, cond, nat_eq, nat_lt}
use Rattle.std.specs.List.{list_all}
use Rattle.std.specs.Map.{lookup}
use Rattle.std.specs.Option.{option_map_or}
use Rattle.std.proofs.lemmas.Bool.{and_parts, ltb-true, eqb-true}
use Rattle.wap_unit.specs.Libraries.{library, by_number, by_name, is_function, is_named, lib_args}
use Rattle.wap_unit.specs.Libraries.{lib_named}

-- a row of the table is found by its numbers, and these have room
check : ℕ × ℕ × ℕ × List ℕ × List ℕ → Bool
check row =
    option_map_or (λ n. nat_eq n row.2) (lib_args row.0 row.1) false
    && (nat_lt row.0 65536 && nat_lt row.1 256)

all_checked : list_all check library ≡ true
unfolding lib_args check
all_checked = refl

-- the numbers of a library's function, and how many arguments it takes
pub record IsRow (row : ℕ × ℕ × ℕ) : Type 0 where
  pub args : lib_args row.0 row.1 ≡ Some row.2
  pub low : row.0 < 65536
  pub small : row.1 < 256

counted : (o : Option ℕ) {n : ℕ} → option_map_or (λ m. nat_eq m n) o false ≡ true → o ≡ Some n
counted None is = absurd (cc is)
counted (Some m) {n} is = ap Some (eqb-true m n is)

row_is : (row : ℕ × ℕ × ℕ × List ℕ × List ℕ) → check row ≡ true → IsRow (row.0, row.1, row.2)
unfolding check
row_is row is =
    let first = and_parts (option_map_or (λ n. nat_eq n row.2) (lib_args row.0 row.1) false)
    (nat_lt row.0 65536 && nat_lt row.1 256) is in
    let rest = and_parts (nat_lt row.0 65536) (nat_lt row.1 256) first.1 in
    record {
      args = counted (lib_args row.0 row.1) first.0;
      low = ltb-true row.0 65536 rest.0;
      small = ltb-true row.1 256 rest.1;
    }

-- what was found is one
abbrev IsFound : Option (ℕ × ℕ × ℕ) → Type 0
IsFound None = Unit {0}
IsFound (Some row) = IsRow row

found : (test : List ℕ × List ℕ → Bool) (rows : List (ℕ × ℕ × ℕ × List ℕ × List ℕ))
    → list_all check rows ≡ true → (row : ℕ × ℕ × ℕ) → lookup test (map by_name rows) ≡ Some row
    → IsRow row
found test [] all row is = absurd (cc is)
found test (r ∷ rows) all row is =
    by (test (r.3, r.4)) is (found test rows (and_parts (check r) (list_all check rows) all).1 row)
  where
    by : (b : Bool) → cond b (Some (r.0, r.1, r.2)) (lookup test (map by_name rows)) ≡ Some row
        → (lookup test (map by_name rows) ≡ Some row → IsRow row) → IsRow row
    by true here further =
        subst IsFound here
        (row_is r (and_parts (check r) (list_all check rows) all).0)
    by false here further = further here

-- of a library and a function that are there
pub row_of_names : (l f : List ℕ) (row : ℕ × ℕ × ℕ) → lib_named l f ≡ Some row → IsRow row
unfolding lib_named
row_of_names l f row is = found (is_named l f) library all_checked row is

-- the numbers of a function that is there
pub numbers_fit : {l f n : ℕ} → lib_args l f ≡ Some n → (l < 65536) × (f < 256)
unfolding lib_args
numbers_fit {l} {f} {n} is = among library all_checked is
  where
    among : (rows : List (ℕ × ℕ × ℕ × List ℕ × List ℕ)) → list_all check rows ≡ true
        → lookup (is_function l f) (map by_number rows) ≡ Some n → (l < 65536) × (f < 256)
    among [] all is = absurd (cc is)
    among (r ∷ rows) all is = by (is_function l f (r.0, r.1)) refl is (among rows parts.1)
      where
        parts : (check r ≡ true) × (list_all check rows ≡ true)
        parts = and_parts (check r) (list_all check rows) all

        by : (b : Bool) → is_function l f (r.0, r.1) ≡ b
            → cond b (Some r.2) (lookup (is_function l f) (map by_number rows)) ≡ Some n
            → (lookup (is_function l f) (map by_number rows) ≡ Some n → (l < 65536) × (f < 256))
            → (l < 65536) × (f < 256)
        by true same here further =
            let both = and_parts (nat_eq r.0 l) (nat_eq r.1 f) same in
            let row = row_is r parts.0 in (
              subst (λ (n : ℕ). n < 65536) (eqb-true r.0 l both.0) row.low,
              subst (λ (n : ℕ). n < 256) (eqb-true r.1 f both.1) row.small,
            )
        by false same here further = further here
