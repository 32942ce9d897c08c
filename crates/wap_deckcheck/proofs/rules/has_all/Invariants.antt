use Rattle.std.proofs.Common.{◌≡◌, drop}
use Rattle.std.specs.List.{list_all}
use Rattle.wap_tokens.specs.markup.Good.{has_attribute}
use Rattle.wap_deckcheck.proofs.rules.has_all.Given as goal

-- what is left tells it
abbrev pub invariant-loop-name : goal.invariant-loop-name
invariant-loop-name l =
    list_all (has_attribute l.node) (drop l.name-index l.names)
    ≡ list_all (has_attribute l.node) l.names
