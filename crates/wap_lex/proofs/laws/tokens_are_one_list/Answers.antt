use Rattle.wap_lex.proofs.Unique.{one_list}
use Rattle.wap_lex.proofs.laws.tokens_are_one_list.Goals as goal

pub returns : goal.returns
returns c = one_list
