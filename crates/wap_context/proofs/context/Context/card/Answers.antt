use Rattle.std.proofs.Common.{◌∙◌, sym, ap, Some}
use Rattle.std.specs.Prelude.{is_some}
use Rattle.wap_state.specs.CardAtHand.{Held}
use Rattle.wap_context.proofs.Places.{is_nowhere}
use Rattle.wap_context.proofs.Plays.{card_here}
use Rattle.wap_context.proofs.Standing.{map_some}
use Rattle.wap_context.specs.Browsers.{place_held}
use Rattle.wap_context.proofs.context.Context.card.Goals as goal

pub returns-in-Some-clause-is : goal.returns-in-Some-clause-is
returns-in-Some-clause-is c =
    ap (λ (one : Held). Some one.card) c.here-in-Some.view_is
    ∙ card_here c.args.self.now c.in-Some.here (sym c.here.ensures ∙ c.in-Some.is)

pub returns-in-Some-clause-deck : goal.returns-in-Some-clause-deck
returns-in-Some-clause-deck c =
    ap is_some (card_here c.args.self.now c.in-Some.here (sym c.here.ensures ∙ c.in-Some.is))
    ∙ map_some (place_held c.args.self.now) ∙ c.keep_deck.ensures.card

pub returns-in-None-clause-deck : goal.returns-in-None-clause-deck
returns-in-None-clause-deck c =
    sym (ap is_some (is_nowhere c.args.self.now (sym c.here.ensures ∙ c.in-None.is)))
    ∙ c.keep_deck.ensures.card
