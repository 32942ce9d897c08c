use Rattle.std.proofs.Common.{refl}
use Rattle.wap_world.proofs.SessionLawsLemmas.Standing.{keeps_standing}
use Rattle.wap_world.proofs.session_laws.keys_keep_the_card.Goals as goal

pub returns-clause-first : goal.returns-clause-first
returns-clause-first c = λ shelf seed budget limits. record { card = refl; timer = λ none. refl }

pub returns-clause-kept : goal.returns-clause-kept
returns-clause-kept c = keeps_standing
