use Rattle.wap_libs.proofs.LawsLemmas.Tables.{handed, called_so}
use Rattle.wap_libs.proofs.laws.calls_hand_over_what_functions_take.Goals as goal

pub returns-clause-handed : goal.returns-clause-handed
returns-clause-handed c = handed

pub returns-clause-called : goal.returns-clause-called
returns-clause-called c = called_so
