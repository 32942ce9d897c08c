use Rattle.std.proofs.Common.{◌≡◌}
use Rattle.std.specs.Str.{chars}
use Rattle.wap_cards.specs.inside.Onevents.{onevent_in}
use Rattle.wap_cards.proofs.events.onevent_for.Given as goal

abbrev pub invariant-loop-child : goal.invariant-loop-child
invariant-loop-child l =
    onevent_in (chars l.kind) l.child-iterator ≡ onevent_in (chars l.kind) l.view.kids
