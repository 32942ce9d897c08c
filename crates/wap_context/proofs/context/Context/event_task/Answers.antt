use Rattle.std.proofs.Common.{◌∙◌, sym, ap₂}
use Rattle.wap_vars.specs.Variables.{Variables}
use Rattle.wap_cardrules.specs.Events.{binding}
use Rattle.wap_state.specs.CardAtHand.{Held}
use Rattle.wap_context.proofs.Plays.{if_ok, event_here}
use Rattle.wap_context.proofs.context.Context.event_task.Goals as goal

pub returns-in-Some : goal.returns-in-Some
returns-in-Some c =
    if_ok c.binding.result
    (λ task is. is
    ∙ ap₂ (λ (vars : Variables) (one : Held). binding vars one.deck one.card c.args.event)
    c.vars.ensures c.here-in-Some.view_is
    ∙ event_here c.args.event c.args.self.now c.in-Some.here (sym c.here.ensures ∙ c.in-Some.is))
    c.binding.ensures
