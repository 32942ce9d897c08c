use Rattle.wap_verify.proofs.Verifying.{never_stuck}
use Rattle.wap_verify.proofs.laws.verified_is_never_stuck.Goals as goal

pub returns : goal.returns
returns c = never_stuck
