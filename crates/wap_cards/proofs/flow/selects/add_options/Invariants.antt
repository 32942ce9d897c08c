use Rattle.std.proofs.Common.{◌≡◌, ◌++◌, take}
use Rattle.std.specs.List.{zip}
use Rattle.wap_cards.proofs.FlowLemmas.Options.{options_flow}
use Rattle.wap_cards.proofs.flow.selects.add_options.Given as goal

abbrev pub invariant-loop-place : goal.invariant-loop-place
invariant-loop-place l =
    l.flow ≡ l.initial.flow ++ options_flow l.vars l.select (take l.place (zip l.choice l.options))
