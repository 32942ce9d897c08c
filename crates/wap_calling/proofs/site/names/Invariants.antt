use Rattle.std.proofs.Common.{◌≡◌, take}
use Rattle.std.specs.Map.{keys_of}
use Rattle.wap_calling.proofs.site.names.Given as goal

abbrev pub invariant-loop-name : goal.invariant-loop-name
invariant-loop-name l = l.names.items ≡ keys_of (take l.name-index l.pages)
