use Rattle.std.proofs.Common.{◌≡◌, drop}
use Rattle.std.specs.List.{position_from}
use Rattle.wap_tokens.specs.markup.Good.{is_among}
use Rattle.wap_deckcheck.specs.inside.Rows.{groups_of}
use Rattle.wap_deckcheck.proofs.rules.place_in.Given as goal

abbrev pub invariant-loop-place : goal.invariant-loop-place
invariant-loop-place l =
    position_from (λ group. is_among group l.tag) l.place (groups_of (drop l.place l.groups))
    ≡ position_from (λ group. is_among group l.tag) 0 (groups_of l.groups)
