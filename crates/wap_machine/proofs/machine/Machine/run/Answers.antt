use Rattle.std.proofs.Common.{◌≡◌, Err, refl, sym, ap, subst, ◌∙◌, arith}
use Rattle.std.proofs.lemmas.Result.{err_from_is_err_and}
use Rattle.wap_base.specs.declared.fault.RunErr.TheVariants.{Store}
use Rattle.wap_machine.specs.declared.machine.Outcome.{Outcome}
use Rattle.wap_machine.specs.declared.machine.Step.{Step}
use Rattle.wap_machine.specs.Stacks.{Stack}
use Rattle.wap_execution.specs.laws.Settings.{uncounted}
use Rattle.wap_machine.specs.Runs.{run_of}
use Rattle.wap_machine.specs.inside.Efforts.{effort, GoesBelow}
use Rattle.wap_machine.specs.inside.MachineSteps.{rest, LimitsStay}
use Rattle.wap_machine.proofs.HostLaws.{other_fault}
use Rattle.wap_machine.proofs.RunsLaws.{begins, goes_on, ends_told, fails_fetched}
use Rattle.wap_machine.proofs.BoundedLaws.{told_bounded}
use Rattle.wap_machine.proofs.machine.Machine.run.Goals as goal

pub loop-next-init : goal.loop-next-init
loop-next-init g c = record {
  runs = λ under may.
      begins g.H.Host.meaning g.H.Host.fetched c.args.self (g.H.Host.turns c.args.host.now)
      (g.H.Host.state c.args.host.now c.args.pages.now under);
  limits = refl;
  turns = omega arith;
  faults = omega arith;
  fetches = omega arith;
  kept = g.met.H.Host.kept_still c.args.pages.now;
  steady = refl;
}

pub loop-next-preserved : goal.loop-next-preserved
loop-next-preserved g c =
    let now : Stack = c.loop-next.machine in
    let next : Stack = c.in-Goes.next in
    let turns = g.H.Host.turns c.loop-next.host in
    let left = g.H.Host.turns c.step.new.host in
    record {
      runs = λ under may.
          let state = g.H.Host.state c.loop-next.host c.loop-next.pages under in
          let later = g.H.Host.state c.step.new.host c.step.new.pages under in
          goes_on g.H.Host.meaning g.H.Host.fetched c.args.self (g.H.Host.turns c.args.host.now)
          (g.H.Host.state c.args.host.now c.args.pages.now under)
          now turns state
          (c.loop-next.invariant.runs under (g.met.H.Host.kept_may c.loop-next.pages
          c.step.new.pages under c.in_ok-next.ensures.kept may))
          c.loop-next.invariant.limits next left later
          (subst (λ (s : Step). run_of now g.H.Host.meaning turns state
          ≡ rest (uncounted now.limits g.H.Host.meaning) s left later)
          c.in-Goes.is (c.in_ok-next.ensures.told under may))
          (c.in_ok-next.ensures.grown under may);
      limits =
          subst (λ (s : Step). LimitsStay now.limits s) c.in-Goes.is c.in_ok-next.ensures.limits
          ∙ c.loop-next.invariant.limits;
      turns =
          let before = c.loop-next.invariant.turns in
          let after = c.in_ok-next.ensures.turns in
          omega arith;
      faults =
          let before = c.loop-next.invariant.faults in
          let after = c.in_ok-next.ensures.faults in
          omega arith;
      fetches =
          let before = c.loop-next.invariant.fetches in
          let after = c.in_ok-next.ensures.fetches in
          omega arith;
      kept =
          g.met.H.Host.kept_then c.args.pages.now c.loop-next.pages c.step.new.pages
          c.loop-next.invariant.kept c.in_ok-next.ensures.kept;
      steady = c.in_ok-next.ensures.steady ∙ c.loop-next.invariant.steady;
    }

pub loop-next-smaller : goal.loop-next-smaller
loop-next-smaller g c =
    subst
    (λ (s : Step). GoesBelow (effort (g.H.Host.turns c.loop-next.host) c.loop-next.machine.frames)
    (g.H.Host.turns c.step.new.host) s) c.in-Goes.is c.in_ok-next.ensures.falls

pub returns-in-Ends-clause-told : goal.returns-in-Ends-clause-told
returns-in-Ends-clause-told g c = λ under may.
    let now : Stack = c.loop-next.machine in
    let turns = g.H.Host.turns c.loop-next.host in
    let left = g.H.Host.turns c.step.new.host in
    let state = g.H.Host.state c.loop-next.host c.loop-next.pages under in
    let later = g.H.Host.state c.step.new.host c.step.new.pages under in
    ends_told g.H.Host.meaning g.H.Host.fetched c.args.self (g.H.Host.turns c.args.host.now)
    (g.H.Host.state c.args.host.now c.args.pages.now under) now turns state
    (c.loop-next.invariant.runs under (g.met.H.Host.kept_may c.loop-next.pages c.step.new.pages
    under c.in_ok-next.ensures.kept may))
    c.loop-next.invariant.limits c.in-Ends.outcome left later
    (subst (λ (s : Step). run_of now g.H.Host.meaning turns state
    ≡ rest (uncounted now.limits g.H.Host.meaning) s left later)
    c.in-Ends.is (c.in_ok-next.ensures.told under may))

pub returns-in-Ends-clause-bounded : goal.returns-in-Ends-clause-bounded
returns-in-Ends-clause-bounded g c = λ under may.
    told_bounded g.H.Host.meaning c.args.self (g.H.Host.turns c.args.host.now)
    (g.H.Host.state c.args.host.now c.args.pages.now under) c.in-Ends.outcome
    (g.H.Host.turns c.step.new.host) (g.H.Host.state c.step.new.host c.step.new.pages under)
    (returns-in-Ends-clause-told g c under may)

pub returns-in_err-next-clause-fetched : goal.returns-in_err-next-clause-fetched
returns-in_err-next-clause-fetched g c = λ is under may.
    let left = err_from_is_err_and c.from_residual.result c.from_residual.ensures.1 in
    fails_fetched g.H.Host.meaning g.H.Host.fetched c.args.self (g.H.Host.turns c.args.host.now)
    (g.H.Host.state c.args.host.now c.args.pages.now under)
    c.loop-next.machine (g.H.Host.turns c.loop-next.host)
    (g.H.Host.state c.loop-next.host c.loop-next.pages under)
    (c.loop-next.invariant.runs under (g.met.H.Host.kept_may c.loop-next.pages c.step.new.pages
    under c.in_err-next.ensures.kept may))
    c.loop-next.invariant.limits (g.H.Host.fetches c.step.new.pages)
    (c.in_err-next.ensures.fetched (other_fault Outcome Step c.in_err-next.field-0.0 Store
    (sym (left.1 ∙ ap Err left.2) ∙ is)) under may)

pub returns-in-Ends-clause-kept : goal.returns-in-Ends-clause-kept
returns-in-Ends-clause-kept g c =
    g.met.H.Host.kept_then c.args.pages.now c.loop-next.pages c.step.new.pages
    c.loop-next.invariant.kept c.in_ok-next.ensures.kept

pub returns-in-Ends-clause-steady : goal.returns-in-Ends-clause-steady
returns-in-Ends-clause-steady g c = c.in_ok-next.ensures.steady ∙ c.loop-next.invariant.steady

pub returns-in_err-next-clause-kept : goal.returns-in_err-next-clause-kept
returns-in_err-next-clause-kept g c =
    g.met.H.Host.kept_then c.args.pages.now c.loop-next.pages c.step.new.pages
    c.loop-next.invariant.kept c.in_err-next.ensures.kept
