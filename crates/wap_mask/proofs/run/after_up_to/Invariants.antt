use Rattle.std.proofs.Common.{◌≡◌, ◌-◌}
use denote.Text.{Utf8}
use denote.Shadow.{shadow}
use Rattle.std.specs.Str.{chars}
use Rattle.wap_mask.specs.Calculation.{after_up_to}
use Rattle.wap_mask.proofs.run.after_up_to.Given as goal

abbrev pub invariant-loop : goal.invariant-loop
invariant-loop l =
    shadow (Utf8 l.rest)
    × (after_up_to l.class (l.most - l.counter) (chars l.rest)
    ≡ after_up_to l.class l.most (chars l.text))
