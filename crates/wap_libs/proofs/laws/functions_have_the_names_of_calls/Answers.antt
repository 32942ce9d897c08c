use Rattle.wap_libs.proofs.LawsLemmas.Tables.{names_agree}
use Rattle.wap_libs.proofs.laws.functions_have_the_names_of_calls.Goals as goal

pub returns : goal.returns
returns c = names_agree
