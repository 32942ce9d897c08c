use Rattle.wap_push.proofs.Pushing.{is_read, read_so}
use Rattle.wap_push.proofs.laws.pushes_are_read_one_way.Goals as goal

pub returns-clause-some : goal.returns-clause-some
returns-clause-some c = is_read

pub returns-clause-one : goal.returns-clause-one
returns-clause-one c = λ push reads i bytes. read_so bytes (push bytes) (reads bytes) i
