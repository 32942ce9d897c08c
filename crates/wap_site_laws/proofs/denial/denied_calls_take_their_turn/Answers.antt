use Rattle.wap_site_laws.proofs.DenialLemmas.{denies_call}
use Rattle.wap_site_laws.proofs.denial.denied_calls_take_their_turn.Goals as goal

pub returns : goal.returns
returns c = denies_call
