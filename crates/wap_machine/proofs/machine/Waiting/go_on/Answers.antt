use Rattle.std.proofs.Common.{◌+◌, ◌-◌, ◌<◌, length, reverse, sym, subst}
use Rattle.wap_execution.specs.Frames.{Frame, code_of}
use Rattle.wap_machine.specs.inside.Weights.{weight, heavy}
use Rattle.wap_machine.proofs.Weighing.{light}
use Rattle.wap_machine.proofs.machine.Waiting.go_on.Goals as goal

pub returns-clause-light : goal.returns-clause-light
returns-clause-light c =
    let stacked = c.self.invariant in
    subst (λ (f : Frame).
    length (code_of f.function) - f.place + 1 + weight (reverse c.self.inside.outer.items) < heavy)
    (sym c.push.ensures)
    (light c.self.inside.frame 1
    (reverse c.self.inside.outer.items) stacked.innermost stacked.others stacked.few)
