-- The row of a code begins at the code or before it, and gives at most one value.
use Rattle.std.proofs.Common.{◌≡◌, ℕ, ◌≤◌, Bool, true, nat_le, Option, Some, None, refl, sym}
use Rattle.std.specs.Prelude.{IfSome}
use Rattle.std.specs.List.{list_all}
use Rattle.std.proofs.lemmas.Bool.{leb-true, and_parts}
use Rattle.wap_unit.specs.declared.row.Row.{Row}
use Rattle.wap_unit.specs.Rows.{rows}
use Rattle.wap_unit.specs.Instructions.{has_code, row_of}
use Rattle.wap_asm.proofs.Finding.{all_among, found}

abbrev gives_few : Row → Bool
gives_few row = nat_le row.gives 1

rows_give_few : list_all gives_few rows ≡ true
rows_give_few = refl

-- no instruction gives more than one value
pub gives-row : (code : ℕ) (r : Option Row) → r ≡ row_of code → IfSome r (λ row. row.gives ≤ 1)
unfolding row_of
gives-row code None is = tt
gives-row code (Some row) is =
    leb-true row.gives 1
    (all_among gives_few rows row rows_give_few (found (has_code code) rows row (sym is)).1)

pub first-row : (code : ℕ) (r : Option Row) → r ≡ row_of code → IfSome r (λ row. row.first ≤ code)
unfolding row_of
first-row code None is = tt
first-row code (Some row) is =
    leb-true row.first code
    (and_parts (nat_le row.first code) _ (found (has_code code) rows row (sym is)).0).0
