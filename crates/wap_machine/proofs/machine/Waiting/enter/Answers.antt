use Rattle.std.proofs.Common.{◌≡◌, ◌+◌, ◌-◌, ◌<◌, List, ◌∷◌, length, reverse, sym, ap, subst, ◌∙◌}
use Rattle.wap_execution.specs.Frames.{Frame, code_of}
use Rattle.wap_base.specs.declared.limits.TheConstants.{MOST_DEPTH}
use Rattle.wap_machine.specs.Stacks.{Stack}
use Rattle.wap_machine.specs.inside.Weights.{weight, heavy}
use Rattle.wap_machine.proofs.Weighing.{light, turned}
use Rattle.wap_machine.proofs.machine.Waiting.enter.Goals as goal

pub returns-clause-light : goal.returns-clause-light
returns-clause-light c =
    let stacked = c.self.invariant in
    let outer : List Frame = reverse c.self.inside.outer.items in
    let frame : Frame = c.self.inside.frame in
    let begun = c.in_ok-inner.ensures in
    let few : length (frame ∷ outer) < MOST_DEPTH =
    subst (λ (s : Stack). length s.frames < MOST_DEPTH) (sym c.self.view_is) c.requires.few in
    let items : reverse c.push.new.self.items ≡ frame ∷ outer =
    ap (λ (l : List Frame). reverse l) c.in_ok-push.ensures.items
    ∙ turned c.self.inside.outer.items frame in
    subst (λ (l : List Frame).
    length (code_of c.in_ok-inner.inner.function) - c.in_ok-inner.inner.place + 1 + weight l
    < heavy) (sym items)
    (light c.in_ok-inner.inner 0 (frame ∷ outer) begun.stands
    (stacked.innermost, stacked.others) few)
