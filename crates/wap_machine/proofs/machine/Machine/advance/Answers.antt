use Rattle.std.proofs.Common.{reverse, subst}
use Rattle.wap_machine.specs.Stacks.{Stack}
use Rattle.wap_machine.specs.inside.Rounds.{ComesTo}
use Rattle.wap_machine.proofs.RoundLaws.{rounded_comes}
use Rattle.wap_machine.proofs.machine.Machine.advance.Goals as goal

pub returns-clause-comes : goal.returns-clause-comes
returns-clause-comes g c =
    subst (λ (s : Stack). ComesTo g.H.Host.meaning s.limits (g.H.Host.turns c.args.host.now)
    (g.H.Host.turns c.go_round.new.host) s.frames c.want_for.result) c.self.view_is
    (rounded_comes c.self.inside.limits c.self.inside.frame c.go_round.new.frame
    (reverse c.self.inside.outer.items) c.in_ok-next.next c.want_for.result c.self.invariant
    c.in_ok-next.ensures.rounded c.want_for.ensures)
