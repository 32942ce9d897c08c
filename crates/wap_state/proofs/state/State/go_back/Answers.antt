use Rattle.std.proofs.Common.{inl, inr}
use Rattle.wap_state.proofs.Keeping.{did, keeps_back, keeps_same}
use Rattle.wap_state.proofs.state.State.go_back.Goals as goal

pub invariant_of-self : goal.invariant_of-self
invariant_of-self c = elim (did c.go_back.result c.go_back.ensures.back c.go_back.ensures.same) [
  | inl back ↦
      keeps_back c.self.inside.limits c.self.inside.history c.self.inside.timer c.self.invariant
      c.go_back.new.self c.args.earlier back
  | inr same ↦
      keeps_same c.self.inside.limits c.self.inside.history c.self.inside.timer c.self.invariant
      c.go_back.new.self same
]
