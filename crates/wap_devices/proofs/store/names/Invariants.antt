use Rattle.std.proofs.Common.{◌≡◌, take}
use Rattle.wap_base.specs.Contents.{names_of}
use Rattle.wap_devices.proofs.store.names.Given as goal

abbrev pub invariant-loop-name : goal.invariant-loop-name
invariant-loop-name l = l.names.items ≡ names_of (take l.name-index l.pages)
