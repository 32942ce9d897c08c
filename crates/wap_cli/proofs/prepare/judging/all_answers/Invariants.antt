use Rattle.std.proofs.Common.{◌≡◌, map, Ok}
use Rattle.wap_cli.proofs.prepare.judging.all_answers.Given as goal

abbrev pub invariant-loop-answer : goal.invariant-loop-answer
invariant-loop-answer g l = map Ok l.all.items ≡ l.yielded
