use Rattle.std.proofs.Common.{◌≡◌, drop}
use Rattle.std.specs.List.{list_any}
use Rattle.wap_tokens.specs.markup.Good.{is_among, tags_of}
use Rattle.wap_deckcheck.proofs.rules.is_used.Given as goal

-- what is left tells it
abbrev pub invariant-loop-item : goal.invariant-loop-item
invariant-loop-item l =
    list_any (is_among l.group) (tags_of (drop l.item-index l.items))
    ≡ list_any (is_among l.group) (tags_of l.items)
