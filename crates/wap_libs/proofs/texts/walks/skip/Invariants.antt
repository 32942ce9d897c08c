use denote.Text.{Utf8}
use denote.Shadow.{shadow}
use Rattle.wap_libs.proofs.TextsLemmas.Ends.{Skips}
use Rattle.wap_libs.proofs.texts.walks.skip.Given as goal

abbrev pub invariant-loop-left : goal.invariant-loop-left
invariant-loop-left l = shadow (Utf8 l.rest) × Skips l.text l.count l.left l.rest

abbrev pub decreases-loop-left : goal.decreases-loop-left
decreases-loop-left l = l.left
