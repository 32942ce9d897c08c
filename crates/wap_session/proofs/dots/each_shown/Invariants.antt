use Rattle.std.proofs.Common.{◌≡◌, ◌++◌, map}
use Rattle.wap_base.specs.Controls.{shown_text}
use Rattle.wap_session.proofs.dots.each_shown.Given as goal

-- the lines that are shown, and those that are left
abbrev pub invariant-loop-line : goal.invariant-loop-line
invariant-loop-line l = l.shown ++ map shown_text l.line-iterator ≡ map shown_text l.lines
