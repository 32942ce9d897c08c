use Rattle.wap_cards.proofs.Goes.{go_parts}
use Rattle.wap_cards.proofs.tasks.go_in.Goals as goal

pub returns : goal.returns
returns c =
    go_parts c.args.vars.now c.args.view.now c.in_ok-fill_value.field-0 c.in_ok-is_plain.field-0
    c.in_ok-is_true.field-0 c.in_ok-is_filled.field-0 c.in_ok-pairs_with.field-0
    c.in_ok-sets_in.field-0
    c.in_ok-fill_value.ensures c.in_ok-is_plain.ensures c.in_ok-is_true.ensures
    c.in_ok-is_filled.ensures c.in_ok-pairs_with.ensures c.in_ok-sets_in.ensures
