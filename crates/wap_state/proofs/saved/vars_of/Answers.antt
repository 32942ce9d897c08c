use Rattle.wap_state.proofs.Saving.{set_from}
use Rattle.wap_state.proofs.saved.vars_of.Goals as goal

pub add_variable-requires : goal.add_variable-requires
add_variable-requires c =
    set_from c.args.pairs c.loop-name.vars c.loop-name.name-iterator.rest.items _ c.in-Some.name
    c.in-Some.text c.requires c.loop-name.invariant c.in-Some.ensures.steps.0
