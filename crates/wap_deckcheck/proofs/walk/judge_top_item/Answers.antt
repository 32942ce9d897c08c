use Rattle.std.proofs.Common.{◌∙◌, ap, Err}
use Rattle.std.proofs.lemmas.Result.{err_from_is_err_and}
use Rattle.wap_deckcheck.specs.Places.{own_id}
use Rattle.wap_deckcheck.specs.inside.Walks.{top_places}
use Rattle.wap_deckcheck.proofs.Walking.{exits_own}
use Rattle.wap_deckcheck.proofs.walk.judge_top_item.Goals as goal

pub returns-in_err-judge_node-in-Node-clause-faults :
    goal.returns-in_err-judge_node-in-Node-clause-faults
returns-in_err-judge_node-in-Node-clause-faults c =
    let left = err_from_is_err_and c.from_residual.result c.from_residual.ensures.1 in
    exits_own own_id top_places c.args.walk.now.names c.args.walk.now.path c.args.item.now
    c.in-Node.node c.from_residual.result c.in_err-judge_node-in-Node.field-0.0 c.in-Node.is
    (left.1 ∙ ap Err left.2) c.in_err-judge_node-in-Node.ensures
