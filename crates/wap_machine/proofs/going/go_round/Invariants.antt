use Rattle.std.proofs.Common.{◌≡◌, ◌≤◌}
use Rattle.wap_machine.specs.inside.Rounds.{Rounds}
use Rattle.wap_machine.proofs.going.go_round.Given as goal

abbrev pub invariant-loop-script : goal.invariant-loop-script
invariant-loop-script g l = record {
  rounds : Rounds g.H.Host.meaning l.fn.limits (g.H.Host.turns l.fn.host) (g.H.Host.turns l.host)
      l.fn.frame l.frame;
  turns : g.H.Host.turns l.host ≤ g.H.Host.turns l.fn.host;
  state : (pages : g.row.P.Denot) (under : g.H.Host.Under)
      → g.H.Host.state l.host pages under ≡ g.H.Host.state l.fn.host pages under;
}

abbrev pub decreases-loop-script : goal.decreases-loop-script
decreases-loop-script g l = g.H.Host.turns l.host
