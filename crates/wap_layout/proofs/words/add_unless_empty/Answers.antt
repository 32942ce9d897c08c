use Rattle.std.proofs.Common.{◌++◌, List, ℕ, sym, ap, ◌∙◌, append-nil, arith}
use Rattle.std.proofs.lemmas.Bool.Decides.{nat_tests}
use Rattle.wap_layout.proofs.Slices.{none_shown}
use Rattle.wap_layout.proofs.words.add_unless_empty.Goals as goal

pub returns-else-not-is_empty : goal.returns-else-not-is_empty
returns-else-not-is_empty c =
    sym (ap (λ (l : List (List ℕ)). c.args.lines.now ++ l)
    (none_shown c.args.line.now
    (grind (arith, nat_tests, c.is_empty.ensures, c.if-not-is_empty.false)))
    ∙ append-nil c.args.lines.now)
