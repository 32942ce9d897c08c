use Rattle.std.proofs.Common.{inl, inr}
use Rattle.wap_state.proofs.Keeping.{did, keeps_pushed, keeps_same}
use Rattle.wap_state.proofs.state.State.push.Goals as goal

pub invariant_of-self : goal.invariant_of-self
invariant_of-self c = elim (did c.push.result c.push.ensures.pushed c.push.ensures.same) [
  | inl pushed ↦
      keeps_pushed c.self.inside.limits c.self.inside.history c.self.inside.timer c.self.invariant
      c.push.new.self c.args.entry pushed
  | inr same ↦
      keeps_same c.self.inside.limits c.self.inside.history c.self.inside.timer c.self.invariant
      c.push.new.self same
]
