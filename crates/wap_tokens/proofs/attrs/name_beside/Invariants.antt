use Rattle.std.proofs.Common.{◌≡◌, drop, [], unwrap_or}
use Rattle.std.specs.Map.{lookup}
use Rattle.wap_tokens.specs.markup.Tables.{is_same_attr}
use Rattle.wap_tokens.specs.Rows.{names_by_attr}
use Rattle.wap_tokens.proofs.attrs.name_beside.Given as goal

-- what is left has what all have
abbrev pub invariant-loop-row : goal.invariant-loop-row
invariant-loop-row l =
    unwrap_or (lookup (is_same_attr l.attr) (names_by_attr (drop l.row-index l.rows))) []
    ≡ unwrap_or (lookup (is_same_attr l.attr) (names_by_attr l.rows)) []
