use Rattle.std.proofs.Common.{◌≡◌, map, drop}
use Rattle.wap_tokens.specs.markup.Tables.{is_same_tag}
use Rattle.wap_deckcheck.specs.inside.Rows.{rule_row}
use Rattle.std.specs.Map.{lookup}
use Rattle.wap_deckcheck.proofs.rules.rule_beside.Given as goal

-- what is left tells it
abbrev pub invariant-loop-row : goal.invariant-loop-row
invariant-loop-row l =
    lookup (is_same_tag l.tag) (map rule_row (drop l.row-index l.rows))
    ≡ lookup (is_same_tag l.tag) (map rule_row l.rows)
