use Rattle.std.proofs.Common.{◌≡◌, take, map}
use Rattle.wap_world.specs.Lines.{variable_line}
use Rattle.wap_session.proofs.lines.variable_lines.Given as goal

abbrev pub invariant-loop-variable : goal.invariant-loop-variable
invariant-loop-variable l = l.lines ≡ map variable_line (take l.variable-index l.variable-items)
