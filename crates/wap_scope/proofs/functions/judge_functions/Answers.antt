use Rattle.std.proofs.Common.{arith}
use Rattle.std.proofs.lemmas.Grind.{common_steps}
use Rattle.wap_scope.specs.inside.Globals.{scope_by}
use Rattle.wap_scope.proofs.Programs.{functions_listed}
use Rattle.wap_scope.proofs.functions.judge_functions.Goals as goal

pub returns : goal.returns
returns c =
    rw (functions_listed (scope_by c.args.globals.now) c.args.functions.now c.args.functions.now)
    (grind (arith, common_steps))

pub returns-in_err-judge_function : goal.returns-in_err-judge_function
returns-in_err-judge_function c =
    rw (functions_listed (scope_by c.args.globals.now) c.args.functions.now c.args.functions.now)
    (grind (arith, common_steps))
