use Rattle.std.proofs.Common.{◌≡◌, ◌++◌}
use Rattle.wap_cards.proofs.FlowLemmas.Texts.{texts_flow}
use Rattle.wap_cards.proofs.flow.selects.add_texts.Given as goal

abbrev pub invariant-loop-child : goal.invariant-loop-child
invariant-loop-child l =
    l.flow ++ texts_flow l.vars l.child-iterator ≡ l.initial.flow ++ texts_flow l.vars l.option.kids
