use Rattle.std.proofs.Common.{◌≡◌, ◌&&◌, drop}
use Rattle.std.specs.List.{list_any}
use Rattle.wap_tokens.specs.markup.Good.{is_among, tags_of}
use Rattle.wap_deckcheck.specs.inside.Rows.{groups_of}
use Rattle.wap_deckcheck.proofs.rules.is_used_with.Given as goal

-- what is left tells it
abbrev pub invariant-loop-group : goal.invariant-loop-group
invariant-loop-group l =
    list_any (λ group. is_among group l.tag && list_any (is_among group) (tags_of l.items))
    (groups_of (drop l.group-index l.groups))
    ≡ list_any (λ group. is_among group l.tag && list_any (is_among group) (tags_of l.items))
    (groups_of l.groups)
