use Rattle.std.proofs.Common.{◌≡◌, map, take}
use Rattle.wap_tokens.specs.declared.markup.name.AttrName.TheVariants as attrs
use Rattle.wap_tokens.specs.markup.Trees.{value_of}
use Rattle.wap_vars.specs.Filling.{value_text}
use Rattle.wap_cards.proofs.inputs.options.values_of.Given as goal

abbrev pub invariant-loop-option : goal.invariant-loop-option
invariant-loop-option l =
    l.values ≡ map (λ option. value_text l.vars (value_of attrs.Value option))
    (take l.option-index l.option-items)
