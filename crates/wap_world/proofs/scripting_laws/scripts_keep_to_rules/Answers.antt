use Rattle.wap_world.specs.History.{KeepsToLimit}
use Rattle.wap_world.specs.session_laws.Standing.{StandsOnCard}
use Rattle.wap_world.proofs.ScriptingLawsLemmas.Keeping.{units_few, units_fall, scripts_keep}
use Rattle.wap_world.proofs.ScriptingLawsLemmas.Keeping.{limit_in_scripts, card_in_scripts}
use Rattle.wap_world.proofs.scripting_laws.scripts_keep_to_rules.Goals as goal

pub returns-clause-turns : goal.returns-clause-turns
returns-clause-turns c = units_fall

pub returns-clause-keys : goal.returns-clause-keys
returns-clause-keys c = units_few

pub returns-clause-history : goal.returns-clause-history
returns-clause-history c = scripts_keep (λ k. KeepsToLimit) limit_in_scripts

pub returns-clause-card : goal.returns-clause-card
returns-clause-card c =
    λ call pages shelf. scripts_keep (λ k. StandsOnCard shelf) (card_in_scripts shelf) call pages
