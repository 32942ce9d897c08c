use Rattle.std.proofs.Common.{rules}
use Rattle.wap_scope.specs.inside.Globals.{scope_by}
use Rattle.wap_scope.proofs.Programs.{said_parts}
use Rattle.wap_scope.proofs.functions.judge_said.Goals as goal

pub returns : goal.returns
returns c = rw (said_parts (scope_by c.args.globals.now) c.args.function.now) (search rules)

pub returns-in_err-judge_parameters : goal.returns-in_err-judge_parameters
returns-in_err-judge_parameters c =
    rw (said_parts (scope_by c.args.globals.now) c.args.function.now) (search rules)

pub returns-in_err-judge_statements : goal.returns-in_err-judge_statements
returns-in_err-judge_statements c =
    rw (said_parts (scope_by c.args.globals.now) c.args.function.now) (search rules)
