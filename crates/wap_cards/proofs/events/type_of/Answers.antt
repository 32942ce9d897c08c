use Rattle.std.proofs.Common.{refl, codes, sym, ap, ◌∙◌}
use Rattle.wap_base.proofs.Plain.{chars-plain}
use Rattle.wap_cardrules.specs.declared.event.Event.{Event}
use Rattle.wap_cardrules.specs.Events.{named}
use Rattle.wap_cards.proofs.events.type_of.Goals as goal

pub returns-in-Forward : goal.returns-in-Forward
returns-in-Forward c =
    (chars-plain (codes "onenterforward") refl)
    ∙ ap (λ (event : Event). (named event).type) (sym c.in-Forward.is)

pub returns-in-Backward : goal.returns-in-Backward
returns-in-Backward c =
    (chars-plain (codes "onenterbackward") refl)
    ∙ ap (λ (event : Event). (named event).type) (sym c.in-Backward.is)

pub returns-in-Timer : goal.returns-in-Timer
returns-in-Timer c = (chars-plain (codes "ontimer") refl)
    ∙ ap (λ (event : Event). (named event).type) (sym c.in-Timer.is)
