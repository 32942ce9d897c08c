use Rattle.wap_world.specs.Screens.{refuse}
use Rattle.wap_context.proofs.Arrivals.{moves_settled}
use Rattle.wap_context.proofs.context.Context.refuse.Goals as goal

pub returns : goal.returns
returns c =
    moves_settled (λ place. refuse place c.args.refusal)
    c.args.self.now c.add_refusal.new.self c.args.lines.now c.add_refusal.new.lines
    c.in_ok-add_refusal.ensures
