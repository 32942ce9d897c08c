use Rattle.std.proofs.Common.{◌≡◌, ◌++◌}
use Rattle.std.specs.Option.{option_map}
use Rattle.wap_tokens.specs.markup.Trees.{plain_text}
use Rattle.wap_cards.proofs.values.plain_text.Given as goal

abbrev pub invariant-loop-bit : goal.invariant-loop-bit
invariant-loop-bit l =
    option_map (λ more. l.whole ++ more) (plain_text l.bit-iterator)
    ≡ plain_text l.initial.bit-iterator
