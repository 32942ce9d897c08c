use Rattle.wap_cli.proofs.Calling.{calls_read, one_reading}
use Rattle.wap_cli.proofs.laws.calls_are_read_one_way.Goals as goal

pub returns-clause-some : goal.returns-clause-some
returns-clause-some c = calls_read

pub returns-clause-one : goal.returns-clause-one
returns-clause-one c = one_reading
