use Rattle.wap_deck.proofs.GoodLemmas.Ending.{number_behind}
use Rattle.wap_deck.proofs.good.skip.after_number.Goals as goal

pub returns-in-Some-clause-behind : goal.returns-in-Some-clause-behind
returns-in-Some-clause-behind c =
    number_behind c.args.bytes.now c.in-Some.field-0-0 c.in-Some.rest.now c.in-Some.ensures
