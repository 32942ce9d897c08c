use Rattle.std.proofs.Common.{◌≢◌, Err, ap, ◌∙◌}
use Rattle.std.proofs.lemmas.Result.{err_from_is_err_and}
use Rattle.wap_verify.specs.declared.fault.VerifyFault.{VerifyFault}
use Rattle.wap_verify.specs.declared.fault.VerifyFault.TheVariants.{NoMemory}
use Rattle.wap_verify.specs.Faults.{IsFunctionFault}
use Rattle.wap_verify.proofs.Walks.{exit}
use Rattle.wap_verify.proofs.function.function_room.Goals as goal

pub returns-in_err-check_targets-clause-fault : goal.returns-in_err-check_targets-clause-fault
returns-in_err-check_targets-clause-fault c =
    let result = c.from_residual-in_err-check_targets.result in
    let left = err_from_is_err_and result c.from_residual-in_err-check_targets.ensures.1 in
    exit (λ (fault : VerifyFault).
    fault ≢ NoMemory → IsFunctionFault c.args.unit.now c.args.index c.args.function.now fault)
    result c.in_err-check_targets.field-0.0 (left.1 ∙ ap Err left.2)
    (λ other. c.in_err-check_targets.ensures.fault)
