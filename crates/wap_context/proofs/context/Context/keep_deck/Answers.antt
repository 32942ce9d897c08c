use Rattle.std.proofs.Common.{◌≡◌, ◌↔◌, [], None, subst}
use Rattle.std.specs.Prelude.{is_some}
use Rattle.wap_context.specs.Browsers.{Browser, place_held}
use Rattle.wap_context.proofs.Standing.{stands_empty, stands_place}
use Rattle.wap_context.proofs.context.Context.keep_deck.Goals as goal

pub returns-clause-empty : goal.returns-clause-empty
returns-clause-empty c =
    subst (λ (b : Browser). (b.deck ≡ None) ↔ (b.world.history ≡ [])) c.self.view_is
    (stands_empty c.self.inside.state.history c.self.inside.deck c.self.invariant)

pub returns-clause-card : goal.returns-clause-card
returns-clause-card c =
    subst (λ (b : Browser). is_some (place_held b) ≡ is_some b.deck) c.self.view_is
    (stands_place (record { world = c.self.inside.state; deck = c.self.inside.deck })
    c.self.invariant)
