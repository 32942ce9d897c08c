use Rattle.std.proofs.Common.{◌≡◌, replicate}
use Rattle.wap_base.specs.Ascii.{asterisk}
use Rattle.wap_cards.proofs.inputs.inputs.stars.Given as goal

abbrev pub invariant-loop-column : goal.invariant-loop-column
invariant-loop-column l = l.stars ≡ replicate l.column asterisk
