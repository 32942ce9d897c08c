use Rattle.std.proofs.Common.{◌≡◌, ◌≢◌, ℕ, ◌-◌, ◌<◌, Option, length, Err, ap, subst, ◌∙◌, sym}
use Rattle.std.proofs.lemmas.Result.{err_from_is_err_and}
use Rattle.wap_verify.specs.declared.step.Step.{Step}
use Rattle.wap_verify.specs.declared.step.Way.{Way}
use Rattle.wap_verify.specs.declared.fault.VerifyFault.{VerifyFault}
use Rattle.wap_verify.specs.declared.fault.VerifyFault.TheVariants.{NoMemory}
use Rattle.wap_verify.specs.CodePlaces.{way_on}
use Rattle.wap_verify.specs.Faults.{IsFunctionFault}
use Rattle.wap_verify.specs.inside.Work.{AgreesWith, Visits}
use Rattle.wap_verify.specs.Depths.{State, followed}
use Rattle.wap_verify.specs.inside.Kept.{state, IsConflictOn}
use Rattle.wap_verify.proofs.Walks.{exit}
use Rattle.wap_verify.proofs.Working.{stands_reached, kept_within, Here, too_few, can_on}
use Rattle.wap_verify.proofs.Working.{can_jump, sane_on, conflict_fault, visited}
use Rattle.wap_verify.proofs.depths.visit.Goals as goal

pub returns-in_err-step-clause-fault : goal.returns-in_err-step-clause-fault
returns-in_err-step-clause-fault c =
    let found = c.in_err-step.field-0.0 in
    let left = err_from_is_err_and c.from_residual.result c.from_residual.ensures.1 in
    let within : c.args.at < length c.args.function.now.code =
    kept_within c.args.unit.now c.args.index c.args.function.now
    (state c.args.work.now) c.args.at c.args.values c.requires.sane c.requires.here in
    let stands =
    stands_reached c.args.unit.now c.args.index c.args.function.now c.requires.split c.args.at
    c.args.values (c.requires.sane.reached c.args.at c.args.values c.requires.here) within in
    exit (λ (fault : VerifyFault).
    fault ≢ NoMemory → IsFunctionFault c.args.unit.now c.args.index c.args.function.now fault)
    c.from_residual.result found (left.1 ∙ ap Err left.2)
    (λ other. absurd (cc (c.in_err-step.ensures.step ∙ stands.1)))

pub returns-then-values-step-clause-fault : goal.returns-then-values-step-clause-fault
returns-then-values-step-clause-fault c = λ other.
    too_few c.args.unit.now c.args.index c.args.function.now
    (state c.args.work.now) c.args.at c.args.values c.in_ok-step.step
    (record {
      split = c.requires.split;
      sane = c.requires.sane;
      kept_here = c.requires.here;
      stands = sym c.in_ok-step.ensures.step;
      goes_on = c.in_ok-step.ensures.onward;
    }) c.if-values-step.true

pub returns-in_err-follow-clause-fault : goal.returns-in_err-follow-clause-fault
returns-in_err-follow-clause-fault c =
    let unit = c.args.unit.now in
    let function = c.args.function.now in
    let old : State = state c.args.work.now in
    let step : Step = c.in_ok-step.step in
    let found = c.in_err-follow.field-0.0 in
    let left =
    err_from_is_err_and c.from_residual-in_err-follow.result
    c.from_residual-in_err-follow.ensures.1 in
    let here : Here unit c.args.index function old c.args.at c.args.values step =
    record {
      split = c.requires.split;
      sane = c.requires.sane;
      kept_here = c.requires.here;
      stands = sym c.in_ok-step.ensures.step;
      goes_on = c.in_ok-step.ensures.onward;
    } in
    exit
    (λ (fault : VerifyFault). fault ≢ NoMemory → IsFunctionFault unit c.args.index function fault)
    c.from_residual-in_err-follow.result found (left.1 ∙ ap Err left.2)
    (λ other.
    conflict_fault unit c.args.index function old (c.args.values - step.takes)
    (way_on step) found c.requires.split c.requires.sane
    (can_on unit c.args.index function old c.args.at c.args.values step here c.if-values-step.false)
    (subst (λ (w : Option Way). IsConflictOn old c.args.index (c.args.values - step.takes) w found)
    c.way_on.ensures (c.in_err-follow.ensures.fault other)))

pub returns-in_err-follow-2-clause-fault : goal.returns-in_err-follow-2-clause-fault
returns-in_err-follow-2-clause-fault c =
    let unit = c.args.unit.now in
    let function = c.args.function.now in
    let old : State = state c.args.work.now in
    let step : Step = c.in_ok-step.step in
    let found = c.in_err-follow-2.field-0.0 in
    let gap : ℕ = c.args.values - step.takes in
    let left =
    err_from_is_err_and c.from_residual-in_err-follow-2.result
    c.from_residual-in_err-follow-2.ensures.1 in
    let here : Here unit c.args.index function old c.args.at c.args.values step =
    record {
      split = c.requires.split;
      sane = c.requires.sane;
      kept_here = c.requires.here;
      stands = sym c.in_ok-step.ensures.step;
      goes_on = c.in_ok-step.ensures.onward;
    } in
    let middle : state c.follow.new.work ≡ followed old gap (way_on step) =
    c.in_ok-follow.ensures.ok.0 ∙ ap (followed old gap) c.way_on.ensures in
    exit
    (λ (fault : VerifyFault). fault ≢ NoMemory → IsFunctionFault unit c.args.index function fault)
    c.from_residual-in_err-follow-2.result found (left.1 ∙ ap Err left.2)
    (λ other.
    conflict_fault unit c.args.index function
    (followed old gap (way_on step)) gap step.jump found c.requires.split
    (sane_on unit c.args.index function old c.args.at c.args.values step here
    c.if-values-step.false)
    (can_jump unit c.args.index function old c.args.at c.args.values step here
    c.if-values-step.false)
    (subst (λ (s : State). IsConflictOn s c.args.index gap step.jump found) middle
    (c.in_err-follow-2.ensures.fault other)))

pub returns-clause-visits : goal.returns-clause-visits
returns-clause-visits c =
    let unit = c.args.unit.now in
    let function = c.args.function.now in
    let old : State = state c.args.work.now in
    let step : Step = c.in_ok-step.step in
    let gap : ℕ = c.args.values - step.takes in
    let here : Here unit c.args.index function old c.args.at c.args.values step =
    record {
      split = c.requires.split;
      sane = c.requires.sane;
      kept_here = c.requires.here;
      stands = sym c.in_ok-step.ensures.step;
      goes_on = c.in_ok-step.ensures.onward;
    } in
    let middle : state c.follow.new.work ≡ followed old gap (way_on step) =
    c.in_ok-follow.ensures.ok.0 ∙ ap (followed old gap) c.way_on.ensures in
    let last : state c.follow-2.new.work ≡ followed (followed old gap (way_on step)) gap step.jump =
    c.in_ok-follow-2.ensures.ok.0 ∙ ap (λ (s : State). followed s gap step.jump) middle in
    subst (λ (s : State). Visits unit c.args.index function old s c.args.at c.args.values)
    (sym last)
    (visited unit c.args.index function old c.args.at c.args.values step here c.if-values-step.false
    (subst (AgreesWith old gap) c.way_on.ensures c.in_ok-follow.ensures.ok.1)
    (subst (λ (s : State). AgreesWith s gap step.jump) middle c.in_ok-follow-2.ensures.ok.1))
