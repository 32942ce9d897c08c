use Rattle.std.proofs.Common.{◌≡◌, drop}
use Rattle.wap_dis.specs.Listing.{first_name}
use Rattle.wap_dis.proofs.lines.first_name.Given as goal

-- what is left has what all have
abbrev pub invariant-loop-name : goal.invariant-loop-name
invariant-loop-name l = first_name (drop l.name-index l.names) l.index ≡ first_name l.names l.index
