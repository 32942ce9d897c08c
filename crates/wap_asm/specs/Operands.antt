-- The operands that a row has room for (WAP-193, section 10).
use Rattle.std.specs.Prelude.{ℕ, ◌<◌}
use Rattle.wap_unit.specs.declared.row.Row.{Row}
use Rattle.wap_asm.specs.Spelling.{limit}

-- each operand is below the limit of the bits where its row puts it
pub record Holds (row : Row) (a b c : ℕ) : Type 0 where
  pub a_fits : a < limit row.count row.a
  pub b_fits : b < limit row.count row.b
  pub c_fits : c < limit row.count row.c
