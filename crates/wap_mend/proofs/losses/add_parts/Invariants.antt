use Rattle.std.proofs.Common.{◌≡◌, ◌++◌, take}
use Rattle.wap_mend.specs.Accounts.{signs_of}
use Rattle.wap_mend.proofs.losses.add_parts.Given as goal

abbrev pub invariant-loop-part : goal.invariant-loop-part
invariant-loop-part l =
    signs_of l.texts ≡ signs_of l.fn.texts ++ signs_of (take l.part-index l.parts)
