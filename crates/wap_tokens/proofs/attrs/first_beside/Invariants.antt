use Rattle.std.proofs.Common.{◌≡◌, drop}
use Rattle.std.specs.Map.{lookup}
use Rattle.wap_tokens.specs.markup.Tables.{is_same_attr}
use Rattle.wap_tokens.specs.Rows.{codes_by_attr}
use Rattle.wap_tokens.proofs.attrs.first_beside.Given as goal

-- what is left has what all have
abbrev pub invariant-loop-row : goal.invariant-loop-row
invariant-loop-row l =
    lookup (is_same_attr l.attr) (codes_by_attr (drop l.row-index l.rows))
    ≡ lookup (is_same_attr l.attr) (codes_by_attr l.rows)
