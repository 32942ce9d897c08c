use Rattle.std.proofs.Common.{◌≡◌, drop}
use Rattle.std.specs.Map.{lookup}
use Rattle.wap_tokens.specs.markup.Tables.{is_same_tag}
use Rattle.wap_cards.specs.inside.Rows.{rule_rows}
use Rattle.wap_cards.proofs.content.text_beside.Given as goal

-- what is left has what all have
abbrev pub invariant-loop-row : goal.invariant-loop-row
invariant-loop-row l =
    lookup (is_same_tag l.tag) (rule_rows (drop l.row-index l.rows))
    ≡ lookup (is_same_tag l.tag) (rule_rows l.rows)
