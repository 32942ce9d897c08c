use Rattle.std.proofs.Common.{◌≡◌, drop}
use Rattle.wap_verify.specs.Kept.{names_first}
use Rattle.wap_verify.proofs.verified.named_in.Given as goal

-- what is left has what all have
abbrev pub invariant-loop-entry : goal.invariant-loop-entry
invariant-loop-entry l =
    names_first (drop l.entry-index l.names) l.name ≡ names_first l.names l.name
