use Rattle.wap_verify.proofs.Verifying.{unverified, no_memory}
use Rattle.wap_verify.proofs.verified.verify.Goals as goal

pub returns-in-Err-clause-accepted : goal.returns-in-Err-clause-accepted
returns-in-Err-clause-accepted c =
    λ verified. no_memory c.in-Err.fault
    (λ other. unverified c.args.unit c.in-Err.fault verified (c.in-Err.ensures.fault other))
