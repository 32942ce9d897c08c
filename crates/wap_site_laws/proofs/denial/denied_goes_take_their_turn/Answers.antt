use Rattle.wap_site_laws.proofs.DenialLemmas.{denies_go}
use Rattle.wap_site_laws.proofs.denial.denied_goes_take_their_turn.Goals as goal

pub returns : goal.returns
returns c = denies_go
