use Rattle.wap_world.proofs.SessionLawsLemmas.FieldNumbers.{has_number, shows_number}
use Rattle.wap_world.proofs.session_laws.fields.fields_show_their_numbers.Goals as goal

pub returns-clause-shown : goal.returns-clause-shown
returns-clause-shown c = shows_number

pub returns-clause-named : goal.returns-clause-named
returns-clause-named c = has_number
