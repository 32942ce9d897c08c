use Rattle.wap_cards.proofs.InputsLemmas.Limits.{empty_test}
use Rattle.wap_cards.proofs.inputs.inputs.is_empty.Goals as goal

pub returns : goal.returns
returns c = empty_test c.is_empty.result c.args.text.now c.is_empty.ensures
