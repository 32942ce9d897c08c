use Rattle.std.proofs.Common.{◌≡◌, ℕ, ◌<◌, ◌≤◌, true, false, length, Err}
use Rattle.std.proofs.Common.{ap, subst, ◌∙◌, sym, arith}
use Rattle.std.proofs.lemmas.Result.{err_from_is_err_and}
use Rattle.wap_verify.specs.declared.fault.VerifyFault.{VerifyFault}
use Rattle.wap_verify.specs.Faults.{IsFunctionFault, item}
use Rattle.wap_verify.specs.inside.Work.{is_marked_step}
use Rattle.wap_verify.proofs.Walks.{exit, aimed_push, missed, all_aimed}
use Rattle.wap_verify.proofs.targets.check_targets.Goals as goal

pub returns-in_err-step-clause-fault : goal.returns-in_err-step-clause-fault
returns-in_err-step-clause-fault c =
    let found = c.in_err-step.field-0.0 in
    let left = err_from_is_err_and c.from_residual.result c.from_residual.ensures.1 in
    let so_far = c.loop-at.invariant c.requires.marked.places c.requires.marked.runs in
    let within : c.loop-at.at < length c.args.function.now.code = omega arith in
    exit (λ (fault : VerifyFault).
    IsFunctionFault c.args.unit.now c.args.index c.args.function.now fault)
    c.from_residual.result found (left.1 ∙ ap Err left.2)
    (item so_far.front c.loop-at.at so_far.runs within (sym c.in_err-step.ensures.step))

pub returns-then-not-is_marked_step-clause-fault : goal.returns-then-not-is_marked_step-clause-fault
returns-then-not-is_marked_step-clause-fault c =
    let within : c.loop-at.at < length c.args.function.now.code = omega arith in
    missed c.args.unit.now c.args.index c.args.function.now c.args.marks.now c.loop-at.at
    c.in_ok-step.step c.requires.marked c.loop-at.invariant within (sym c.in_ok-step.ensures.step)
    (subst (λ (n : ℕ). is_marked_step c.args.marks.now n c.in_ok-step.step ≡ false)
    c.len-end.ensures (sym c.is_marked_step.ensures ∙ c.if-not-is_marked_step.true))

pub returns-clause-aimed : goal.returns-clause-aimed
returns-clause-aimed c =
    let past : length c.args.function.now.code ≤ c.loop-at.at = omega arith in
    all_aimed c.args.unit.now c.args.index c.args.function.now c.args.marks.now c.loop-at.at
    c.requires.marked c.loop-at.invariant past

pub loop-at-preserved : goal.loop-at-preserved
loop-at-preserved c =
    let within : c.loop-at.at < length c.args.function.now.code = omega arith in
    aimed_push c.args.unit.now c.args.index c.args.function.now c.args.marks.now c.loop-at.at
    c.in_ok-step.step c.requires.marked c.loop-at.invariant within (sym c.in_ok-step.ensures.step)
    (subst (λ (n : ℕ). is_marked_step c.args.marks.now n c.in_ok-step.step ≡ true) c.len-end.ensures
    (sym c.is_marked_step.ensures ∙ c.if-not-is_marked_step.false)) c.in_ok-step.ensures.onward
