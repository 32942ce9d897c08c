use Rattle.std.proofs.Common.{◌≡◌, ◌≤◌}
use Rattle.wap_machine.specs.inside.Efforts.{effort}
use Rattle.wap_machine.proofs.RunsLaws.{Runs}
use Rattle.wap_machine.proofs.machine.Machine.run.Given as goal

abbrev pub invariant-loop-next : goal.invariant-loop-next
invariant-loop-next g l = record {
  runs : (under : g.H.Host.Under) → g.H.Host.may_have l.pages under
      → Runs g.H.Host.meaning g.H.Host.fetched l.fn.self l.machine (g.H.Host.turns l.fn.host)
      (g.H.Host.turns l.host)
      (g.H.Host.state l.fn.host l.fn.pages under) (g.H.Host.state l.host l.pages under);
  limits : l.machine.limits ≡ l.fn.self.limits;
  turns : g.H.Host.turns l.host ≤ g.H.Host.turns l.fn.host;
  faults : g.H.Host.faults l.fn.pages ≤ g.H.Host.faults l.pages;
  fetches : g.H.Host.fetches l.fn.pages ≤ g.H.Host.fetches l.pages;
  kept : g.H.Host.kept l.fn.pages l.pages;
  steady : g.H.Host.faults l.pages ≡ g.H.Host.faults l.fn.pages;
}

abbrev pub decreases-loop-next : goal.decreases-loop-next
decreases-loop-next g l = effort (g.H.Host.turns l.host) l.machine.frames
