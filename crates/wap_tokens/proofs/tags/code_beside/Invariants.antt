use Rattle.std.proofs.Common.{◌≡◌, drop, unwrap_or}
use Rattle.std.specs.Map.{lookup}
use Rattle.wap_tokens.specs.markup.Tables.{is_same_tag}
use Rattle.wap_tokens.specs.Rows.{codes_by_tag}
use Rattle.wap_tokens.proofs.tags.code_beside.Given as goal

-- what is left has what all have
abbrev pub invariant-loop-row : goal.invariant-loop-row
invariant-loop-row l =
    unwrap_or (lookup (is_same_tag l.tag) (codes_by_tag (drop l.row-index l.rows))) 0
    ≡ unwrap_or (lookup (is_same_tag l.tag) (codes_by_tag l.rows)) 0
