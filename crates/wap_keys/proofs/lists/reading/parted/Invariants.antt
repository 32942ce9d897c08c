use Rattle.wap_keys.proofs.ListLaws.{Parts}
use Rattle.wap_keys.proofs.lists.reading.parted.Given as goal

-- the items so far make the lists that are whole, and that which is begun
abbrev pub invariant-loop-one : goal.invariant-loop-one
invariant-loop-one l = Parts l.yielded l.whole.items l.list
