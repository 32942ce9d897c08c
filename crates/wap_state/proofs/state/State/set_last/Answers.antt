use Rattle.std.proofs.Common.{inl, inr}
use Rattle.wap_state.proofs.Keeping.{did, keeps_last, keeps_same}
use Rattle.wap_state.proofs.state.State.set_last.Goals as goal

pub invariant_of-self : goal.invariant_of-self
invariant_of-self c = elim (did c.set_last.result c.set_last.ensures.last c.set_last.ensures.same) [
  | inl is ↦
      keeps_last c.self.inside.limits c.self.inside.history c.self.inside.timer c.self.invariant
      c.set_last.new.self c.args.last is
  | inr same ↦
      keeps_same c.self.inside.limits c.self.inside.history c.self.inside.timer c.self.invariant
      c.set_last.new.self same
]
