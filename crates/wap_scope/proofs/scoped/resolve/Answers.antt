use Rattle.wap_scope.specs.Faults.{faults}
use Rattle.wap_scope.proofs.Listed.{scoped_without_faults, first_is_fault}
use Rattle.wap_scope.proofs.Programs.{no_fault, the_first}
use Rattle.wap_scope.proofs.scoped.resolve.Goals as goal

pub invariant_of-result : goal.invariant_of-result
invariant_of-result c =
    scoped_without_faults c.args.program
    (no_fault (faults c.args.program) c.args.program c.args.program c.in-Ok.ensures).0

pub returns-in-Ok-clause-scoped : goal.returns-in-Ok-clause-scoped
returns-in-Ok-clause-scoped c =
    scoped_without_faults c.args.program
    (no_fault (faults c.args.program) c.args.program c.args.program c.in-Ok.ensures).0

pub returns-in-Err-clause-fault : goal.returns-in-Err-clause-fault
returns-in-Err-clause-fault c = λ other. first_is_fault c.args.program c.in-Err.fault
    (the_first (faults c.args.program) c.args.program c.in-Err.fault (c.in-Err.ensures other))
