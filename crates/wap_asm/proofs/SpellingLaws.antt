-- The table, computed, and what follows for the spellings of an operation.
use Rattle.std.proofs.Common.{◌≡◌, ℕ, ◌≤◌, Bool, true, false, nat_lt, nat_le, ◌&&◌, List, [], ◌∷◌}
use Rattle.std.proofs.Common.{Option, Some, None, inl, inr, ◌⊎◌, refl, sym, ◌∙◌, ap, subst, arith}
use Rattle.std.proofs.Common.{find, filter, length}
use Rattle.std.specs.List.{list_all, last_or}
use Rattle.std.specs.Option.{option_map_or}
use Rattle.std.proofs.lemmas.Bool.{cases_Bool, and_parts, leb-true, cond-true, cond-false}
use Rattle.std.proofs.lemmas.Bool.{true≢false}
use Rattle.std.proofs.lemmas.Bool.Decides.{nat_tests}
use Rattle.std.proofs.lemmas.Option.{same_Some, none-some}
use Rattle.wap_unit.specs.declared.row.OpName.{OpName}
use Rattle.wap_unit.specs.contracts.row.OpName.{the_type}
use Rattle.wap_unit.specs.declared.row.Row.{Row}
use Rattle.wap_unit.specs.Rows.{rows}
use Rattle.wap_unit.specs.declared.row.Slot.{Slot}
use Rattle.wap_unit.specs.declared.row.Slot.TheVariants.{Absent, Low, Byte, Word}
use Rattle.wap_unit.specs.Instructions.{width, size}
use Rattle.wap_asm.specs.Spelling.{limit, holds, is_spelling, shortest}
use Rattle.wap_asm.specs.Exact.{Among}
use Rattle.wap_asm.proofs.Finding.{all_among, found}
use Rattle.wap_asm.proofs.RowLaws.{none_shorter, length-spelling}
use Rattle.wap_asm.specs.Spellings.{operation_of, is_of, longest, or_else, spelling_of}
use Rattle.wap_asm.specs.Spellings.{row_size, row_bytes}
use denote.Enum.Bare.{sameb, same_true, true_same}

-- ---- what is computed

abbrev is_operation_named : Row → Bool
is_operation_named row = sameb the_type (operation_of row.name) row.operation

abbrev is_topped : Row → Bool
is_topped row = option_map_or (λ last. nat_le (size row) (size last)) (longest row.operation) false

rows_named : list_all is_operation_named rows ≡ true
unfolding operation_of
rows_named = refl

rows_topped : list_all is_topped rows ≡ true
unfolding longest
rows_topped = refl

-- ---- what follows

width_small : (slot : Slot) → width slot ≤ 2
width_small Absent = omega arith
width_small Low = omega arith
width_small Byte = omega arith
width_small Word = omega arith

pub size_small : (row : Row) → size row ≤ 7
size_small row = omega (arith, width_small row.a, width_small row.b, width_small row.c)

pub operation_named : (row : Row) → Among row rows → operation_of row.name ≡ row.operation
operation_named row among =
    same_true the_type tt (operation_of row.name) row.operation
    (all_among is_operation_named rows row rows_named among)

topped_by : (row : Row) (o : Option Row)
    → option_map_or (λ last. nat_le (size row) (size last)) o false ≡ true
    → (last : Row) × (o ≡ Some last) × (size row ≤ size last)
topped_by row None h = absurd (true≢false (sym h))
topped_by row (Some last) h = (last, refl, leb-true (size row) (size last) h)

-- an operation's longest spelling is as long as each
pub topped : (row : Row) → Among row rows
    → (last : Row) × (longest row.operation ≡ Some last) × (size row ≤ size last)
topped row among = topped_by row (longest row.operation)
    (all_among is_topped rows row rows_topped among)

last_among : {X : Type 0} (o : Option X) (xs : List X) (x : X) → last_or o xs ≡ Some x
    → (o ≡ Some x) ⊎ Among x xs
last_among o [] x e = inl e
last_among o (y ∷ ys) x e =
    elim (last_among (Some y) ys x e) [
      | inl same ↦ inr (inl (sym (same_Some y x same)))
      | inr later ↦ inr (inr later)
    ]

among_filter : {X : Type 0} (p : X → Bool) (xs : List X) (x : X) → Among x (filter p xs)
    → Among x xs × (p x ≡ true)
among_filter p [] x among = absurd among
among_filter p (y ∷ ys) x among =
    elim (cases_Bool (p y)) [
      | inl is ↦
          let here = subst (λ zs. Among x zs) (cond-true (p y) (y ∷ filter p ys) (filter p ys) is)
          among in
          elim here [
            | inl same ↦ (inl same, subst (λ z. p z ≡ true) (sym same) is)
            | inr later ↦
                let rest = among_filter p ys x later in
                (inr rest.0, rest.1)
          ]
      | inr isnt ↦
          let rest =
          among_filter p ys x
          (subst (λ zs. Among x zs) (cond-false (p y) (y ∷ filter p ys) (filter p ys) isnt) among)
          in
          (inr rest.0, rest.1)
    ]

-- the longest is a row of the operation
pub longest_among : (operation : OpName) (row : Row) → longest operation ≡ Some row
    → Among row rows × (row.operation ≡ operation)
unfolding longest
longest_among operation row e =
    elim (last_among None (filter (is_of operation) rows) row e) [
      | inl never ↦ absurd (none-some row never)
      | inr among ↦
          let it = among_filter (is_of operation) rows row among in
          (it.0, same_true the_type tt row.operation operation it.1)
    ]

finds_some : {X : Type 0} (p : X → Bool) (xs : List X) (x : X) → Among x xs → p x ≡ true
    → (y : X) × (find p xs ≡ Some y)
finds_some p [] x among is = absurd among
finds_some p (y ∷ ys) x among is =
    elim (cases_Bool (p y)) [
      | inl here ↦ (y, cond-true (p y) (Some y) (find p ys) here)
      | inr isnt ↦
          elim among [
            | inl same ↦
                absurd (true≢false (sym (subst (λ z. p z ≡ true) same is) ∙ isnt))
            | inr later ↦
                let rest = finds_some p ys x later is in
                (rest.0, cond-false (p y) (Some y) (find p ys) isnt ∙ rest.1)
          ]
    ]

-- where a row has room, there is a shortest
pub shortest_some : (operation : OpName) (a b c : ℕ) (row : Row) → Among row rows
    → is_spelling operation a b c row ≡ true
    → (least : Row) × (shortest operation a b c ≡ Some least)
unfolding shortest
shortest_some operation a b c row among is =
    finds_some (is_spelling operation a b c) rows row among is

-- the shortest is a row of the operation, and has room
pub shortest_found : (operation : OpName) (a b c : ℕ) (row : Row)
    → shortest operation a b c ≡ Some row
    → Among row rows × (row.operation ≡ operation) × (holds row a b c ≡ true)
unfolding shortest
shortest_found operation a b c row e =
    let it = found (is_spelling operation a b c) rows row e in
    let parts = and_parts (sameb the_type row.operation operation) (holds row a b c) it.0 in
    (it.1, same_true the_type tt row.operation operation parts.0, parts.1)

pub spelled_shortest : (operation : OpName) (a b c : ℕ) (row : Row)
    → shortest operation a b c ≡ Some row → spelling_of operation a b c ≡ Some row
unfolding spelling_of
spelled_shortest operation a b c row e = ap (λ o. or_else o (longest operation)) e

spelled_longest : (operation : OpName) (a b c : ℕ)
    → shortest operation a b c ≡ None → spelling_of operation a b c ≡ longest operation
unfolding spelling_of
spelled_longest operation a b c e = ap (λ o. or_else o (longest operation)) e

-- no spelling is longer than the longest
below_longest_by : (operation : OpName) (a b c : ℕ) (o : Option Row) → shortest operation a b c ≡ o
    → row_size (spelling_of operation a b c) ≤ row_size (longest operation)
below_longest_by operation a b c None e =
    let same = ap row_size (spelled_longest operation a b c e) in
    omega (arith, same)
below_longest_by operation a b c (Some row) e =
    let it = shortest_found operation a b c row e in
    let top = topped row it.0 in
    let last : longest operation ≡ Some top.0 = ap longest (sym it.1) ∙ top.1 in
    let less : size row ≤ size top.0 = top.2 in
    rw (spelled_shortest operation a b c row e, last) less

pub below_longest : (operation : OpName) (a b c : ℕ)
    → row_size (spelling_of operation a b c) ≤ row_size (longest operation)
below_longest operation a b c =
    below_longest_by operation a b c (shortest operation a b c) refl

holds_less : (x y l : ℕ) (p : Bool) → x ≤ y → (nat_lt y l && p) ≡ true → (nat_lt x l && p) ≡ true
holds_less x y l p h e = grind (arith, nat_tests)

grows_by : (operation : OpName) (d e : ℕ) (o p : Option Row) → d ≤ e
    → shortest operation d 0 0 ≡ o → shortest operation e 0 0 ≡ p
    → row_size (spelling_of operation d 0 0) ≤ row_size (spelling_of operation e 0 0)
grows_by operation d e o None h at_d at_e =
    let less = below_longest operation d 0 0 in
    rw (spelled_longest operation e 0 0 at_e) less
grows_by operation d e None (Some row) h at_d at_e =
    let it = shortest_found operation e 0 0 row at_e in
    let fits : holds row d 0 0 ≡ true = holds_less d e (limit row.count row.a) _ h it.2 in
    let is : is_spelling operation d 0 0 row ≡ true =
    rw (true_same the_type row.operation operation it.1) fits in
    let least = shortest_some operation d 0 0 row it.0 is in
    absurd (none-some least.0 (sym at_d ∙ least.1))
grows_by operation d e (Some low) (Some row) h at_d at_e =
    let it = shortest_found operation e 0 0 row at_e in
    let fits : holds row d 0 0 ≡ true = holds_less d e (limit row.count row.a) _ h it.2 in
    let is : is_spelling operation d 0 0 row ≡ true =
    rw (true_same the_type row.operation operation it.1) fits in
    let less = none_shorter operation d 0 0 low row at_d it.0 is in
    rw (spelled_shortest operation d 0 0 low at_d, spelled_shortest operation e 0 0 row at_e) less

-- a greater operand needs no fewer bytes
pub grows : (operation : OpName) (d e : ℕ) → d ≤ e
    → row_size (spelling_of operation d 0 0) ≤ row_size (spelling_of operation e 0 0)
grows operation d e h =
    grows_by operation d e (shortest operation d 0 0) (shortest operation e 0 0) h refl refl

pub length-row_bytes : (row : Option Row) (a b c : ℕ) → length (row_bytes row a b c) ≡ row_size row
length-row_bytes None a b c = refl
length-row_bytes (Some row) a b c = length-spelling row a b c
