use Rattle.std.proofs.Common.{arith}
use Rattle.std.proofs.lemmas.Grind.{common_steps}
use Rattle.wap_scope.proofs.Programs.{uses_listed}
use Rattle.wap_scope.proofs.functions.judge_uses.Goals as goal

pub returns : goal.returns
returns c = rw (uses_listed c.args.uses.now) (grind (arith, common_steps))

pub returns-in_err-judge_use : goal.returns-in_err-judge_use
returns-in_err-judge_use c = rw (uses_listed c.args.uses.now) (grind (arith, common_steps))
