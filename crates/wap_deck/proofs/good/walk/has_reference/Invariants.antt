use Rattle.std.proofs.Common.{◌≡◌}
use Rattle.std.specs.List.{list_any}
use Rattle.wap_deck.specs.good.Runs.{is_reference}
use Rattle.wap_deck.proofs.good.walk.has_reference.Given as goal

abbrev pub invariant-loop-bit : goal.invariant-loop-bit
invariant-loop-bit l =
    list_any is_reference l.bit-iterator ≡ list_any is_reference l.initial.bit-iterator
