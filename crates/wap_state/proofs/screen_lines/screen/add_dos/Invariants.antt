use Rattle.std.proofs.Common.{◌≡◌, ◌++◌, map, take}
use Rattle.wap_world.specs.Lines.{do_line}
use Rattle.wap_state.proofs.screen_lines.screen.add_dos.Given as goal

abbrev pub invariant-loop-one : goal.invariant-loop-one
invariant-loop-one l =
    l.lines ≡ l.initial.lines ++ map do_line (take l.one-index l.dos)
