use Rattle.std.proofs.Common.{◌-◌}
use denote.Text.{Utf8}
use denote.Shadow.{shadow}
use Rattle.wap_libs.proofs.TextsLemmas.Parting.{Reaches}
use Rattle.wap_libs.proofs.texts.elements.from_element.Given as goal

abbrev pub invariant-loop-at : goal.invariant-loop-at
invariant-loop-at l = shadow (Utf8 l.rest) × Reaches l.separator l.text l.place l.at l.rest

abbrev pub decreases-loop-at : goal.decreases-loop-at
decreases-loop-at l = l.place - l.at
