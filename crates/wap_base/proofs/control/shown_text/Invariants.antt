use Rattle.std.proofs.Common.{◌≡◌}
use Rattle.wap_base.specs.Controls.{shown_text}
use Rattle.wap_base.proofs.control.shown_text.Given as goal

abbrev pub invariant-loop-character : goal.invariant-loop-character
invariant-loop-character l = l.shown ≡ shown_text l.yielded
