use Rattle.std.proofs.Common.{arith}
use Rattle.wap_push.specs.Fields.{digits_of}
use Rattle.wap_push.proofs.created.digits_of.Goals as goal

pub returns : goal.returns
unfolding digits_of
returns c = omega arith
