use Rattle.std.proofs.Common.{◌≡◌, ◌++◌, take}
use Rattle.std.specs.List.{flat_map}
use Rattle.wap_world.specs.Setting.{fault_lines}
use Rattle.wap_state.proofs.screen_lines.lines.add_fault_lines.Given as goal

abbrev pub invariant-loop-fault : goal.invariant-loop-fault
invariant-loop-fault l =
    l.lines ≡ l.initial.lines ++ flat_map fault_lines (take l.fault-index l.faults)
