use Rattle.std.proofs.Common.{OnErr, ap, subst}
use Rattle.wap_tokens.specs.declared.markup.deck.Node.{Node}
use Rattle.wap_vars.specs.Variables.{Variables}
use Rattle.wap_cards.specs.inputs.Stopped.{ChoiceStands}
use Rattle.wap_world.specs.World.{World}
use Rattle.wap_state.specs.CardAtHand.{Held}
use Rattle.wap_state.proofs.state.State.choose.Goals as goal

pub returns-clause-stopped : goal.returns-clause-stopped
returns-clause-stopped c =
    let first = c.self.inside.vars in
    let last = c.choose.new.vars in
    subst (λ (vars : Variables).
    OnErr c.choose.result (ChoiceStands vars c.args.here.now.card c.args.field c.args.option last))
    (ap (λ (world : World). world.vars) c.self.view_is)
    (subst (λ (card : Node).
    OnErr c.choose.result (ChoiceStands first card c.args.field c.args.option last))
    (ap (λ (held : Held). held.card) c.here.view_is) c.choose.ensures.stopped)
