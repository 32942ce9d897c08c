use Rattle.std.proofs.Common.{◌≡◌, sym, subst}
use Rattle.wap_machine.specs.declared.next.Callee.{Callee}
use Rattle.wap_machine.specs.Seen.{called_of}
use Rattle.wap_execution.specs.laws.Settings.{uncounted}
use Rattle.wap_machine.specs.inside.MachineSteps.{rest, calls_from, CanCallFrom}
use Rattle.wap_machine.proofs.CallLaws.{local_from, local_ordered, grows_same}
use Rattle.wap_machine.proofs.asking.call.Goals as goal

pub returns-in-Ok-clause-told : goal.returns-in-Ok-clause-told
returns-in-Ok-clause-told g c = λ under may.
    let set = uncounted c.args.waiting.limits g.H.Host.meaning in
    let turns = g.H.Host.turns c.args.host.now in
    let state = g.H.Host.state c.args.host.now c.args.pages.now under in
    let can =
    subst (λ (l : Callee). CanCallFrom c.args.waiting.frames (called_of l) c.args.arguments.items)
    c.in-Local.is c.requires.can in
    subst (λ (l : Callee). calls_from set c.args.waiting.frames (called_of l)
    c.args.arguments.items turns state ≡ rest set c.in-Ok.step turns state) (sym c.in-Local.is)
    (local_from set c.args.waiting.frames c.args.arguments.items turns c.in-Local.index c.in-Ok.step
    state can c.in-Ok.ensures.goes)

pub returns-in-Ok-clause-order : goal.returns-in-Ok-clause-order
returns-in-Ok-clause-order g c =
    let can =
    subst (λ (l : Callee). CanCallFrom c.args.waiting.frames (called_of l) c.args.arguments.items)
    c.in-Local.is c.requires.can in
    local_ordered c.args.waiting.limits c.args.waiting.frames c.args.arguments.items
    c.in-Local.index c.in-Ok.step can c.in-Ok.ensures.goes c.in-Ok.ensures.light

pub returns-in-Ok-clause-grown : goal.returns-in-Ok-clause-grown
returns-in-Ok-clause-grown g c = λ under may.
    grows_same (g.H.Host.fetched (g.H.Host.state c.args.host.now c.args.pages.now under))
