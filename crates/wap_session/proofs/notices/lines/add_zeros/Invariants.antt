use Rattle.std.proofs.Common.{◌≡◌, ◌++◌, replicate}
use Rattle.wap_base.specs.Ascii.{digit_zero}
use Rattle.wap_session.proofs.notices.lines.add_zeros.Given as goal

abbrev pub invariant-loop : goal.invariant-loop
invariant-loop l = l.line ≡ l.initial.line ++ replicate l.counter digit_zero
