use Rattle.std.proofs.Common.{◌∙◌, Option, sym, ap}
use Rattle.wap_world.specs.Shelves.{Entrance}
use Rattle.wap_world.specs.Access.{entrance_of, may_enter}
use Rattle.wap_context.proofs.Plays.{if_ok}
use Rattle.wap_context.proofs.Arrivals.{tries_allowed, tries_denied}
use Rattle.wap_context.proofs.context.Context.try_deck.Goals as goal

pub returns-then-is_allowed : goal.returns-then-is_allowed
returns-then-is_allowed c =
    if_ok c.arrive.result
    (λ next.
    tries_allowed c.args.sets c.args.caller.now c.args.url c.args.deck c.args.self.now
    c.arrive.new.self
    c.args.lines.now c.arrive.new.lines next
    (ap (λ (e : Option Entrance). may_enter c.args.url e c.args.caller.now)
    (ap entrance_of (sym c.deref.ensures) ∙ sym c.in_ok-entrance.ensures)
    ∙ sym c.in_ok-is_allowed.ensures ∙ c.if-is_allowed.true))
    c.arrive.ensures

pub returns-else-is_allowed : goal.returns-else-is_allowed
returns-else-is_allowed c =
    if_ok c.refuse.result
    (λ next.
    tries_denied c.args.sets c.args.caller.now c.args.url c.args.deck c.args.self.now
    c.refuse.new.self
    c.args.lines.now c.refuse.new.lines next
    (ap (λ (e : Option Entrance). may_enter c.args.url e c.args.caller.now)
    (ap entrance_of (sym c.deref.ensures) ∙ sym c.in_ok-entrance.ensures)
    ∙ sym c.in_ok-is_allowed.ensures ∙ c.if-is_allowed.false))
    c.refuse.ensures
