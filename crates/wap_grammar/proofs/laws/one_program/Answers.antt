use Rattle.wap_grammar.proofs.Unique.{one}
use Rattle.wap_grammar.proofs.laws.one_program.Goals as goal

pub returns : goal.returns
returns c = one
