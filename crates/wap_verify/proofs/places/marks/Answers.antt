use Rattle.std.proofs.Common.{Err, ap, ◌∙◌, ◌≢◌, ◌<◌, length, sym, arith}
use Rattle.std.proofs.lemmas.Result.{err_from_is_err_and}
use Rattle.wap_verify.specs.declared.fault.VerifyFault.{VerifyFault}
use Rattle.wap_verify.specs.declared.fault.VerifyFault.TheVariants.{NoMemory}
use Rattle.wap_verify.specs.Faults.{IsFunctionFault, item}
use Rattle.wap_verify.proofs.Walks.{marks_push, exit}
use Rattle.wap_verify.proofs.places.marks.Goals as goal

pub returns-in_err-step-clause-fault : goal.returns-in_err-step-clause-fault
returns-in_err-step-clause-fault c =
    let found = c.in_err-step.field-0.0 in
    let left =
    err_from_is_err_and c.from_residual-in_err-step.result c.from_residual-in_err-step.ensures.1 in
    let so_far = c.loop-at.invariant in
    let within : c.loop-at.at < length c.args.function.now.code = omega arith in
    exit (λ (fault : VerifyFault).
    fault ≢ NoMemory → IsFunctionFault c.args.unit.now c.args.index c.args.function.now fault)
    c.from_residual-in_err-step.result found (left.1 ∙ ap Err left.2)
    (λ other. item so_far.places c.loop-at.at so_far.runs within (sym c.in_err-step.ensures.step))

pub loop-at-preserved : goal.loop-at-preserved
loop-at-preserved c =
    let within : c.loop-at.at < length c.args.function.now.code = omega arith in
    marks_push c.args.unit.now c.args.index c.args.function.now c.loop-at.at c.loop-at.marks.items
    c.in_ok-step.step c.loop-at.invariant within
    (sym c.in_ok-step.ensures.step) c.in_ok-step.ensures.onward
