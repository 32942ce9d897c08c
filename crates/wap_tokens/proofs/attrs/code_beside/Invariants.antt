use Rattle.std.proofs.Common.{◌≡◌, drop, ◌&&◌}
use Rattle.std.specs.Map.{lookup}
use Rattle.std.specs.Str.{bytes_eq}
use Rattle.wap_tokens.specs.markup.Tables.{is_same_attr}
use Rattle.wap_tokens.specs.Rows.{codes_by_start}
use Rattle.wap_tokens.proofs.attrs.code_beside.Given as goal

-- what is left has what all have
abbrev pub invariant-loop-row : goal.invariant-loop-row
invariant-loop-row l =
    lookup (λ start. is_same_attr l.attr start.0 && bytes_eq l.text start.1)
    (codes_by_start (drop l.row-index l.rows))
    ≡ lookup (λ start. is_same_attr l.attr start.0 && bytes_eq l.text start.1)
    (codes_by_start l.rows)
