use Rattle.std.proofs.Common.{◌≡◌, drop}
use Rattle.wap_push.specs.Fields.{elements_of}
use Rattle.wap_push.proofs.content.split_element.Given as goal

-- what is left has the elements that all have
abbrev pub invariant-loop-place : goal.invariant-loop-place
invariant-loop-place l = elements_of (drop l.place l.kids) ≡ elements_of l.kids
