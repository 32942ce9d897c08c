use Rattle.std.proofs.Common.{◌≡◌}
use Rattle.wap_cli.specs.made.Making.{value_in}
use Rattle.wap_cli.proofs.made.playing.value_in.Given as goal

-- none of the lines before is that of the variable
abbrev pub invariant-loop-line : goal.invariant-loop-line
invariant-loop-line l = value_in l.line-iterator ≡ value_in l.lines
