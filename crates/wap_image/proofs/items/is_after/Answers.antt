use Rattle.std.proofs.Common.{List, ℕ, sym, ap, ◌∙◌}
use Rattle.std.specs.Ordering.{is_lt}
use Rattle.wap_image.specs.Items.{is_after}
use Rattle.wap_image.proofs.SpellingLaws.{after_last, after_nothing}
use Rattle.wap_image.proofs.items.is_after.Goals as goal

pub returns-in-Some : goal.returns-in-Some
returns-in-Some c =
    c.is_lt.ensures ∙ ap is_lt c.cmp.ensures
    ∙ sym (after_last c.in-Some.field-0-1.now c.in-Some.last.now c.args.name.now)
    ∙ ap (λ (l : List (List ℕ × List ℕ)). is_after l c.args.name.now)
    (sym c.in-Some.ensures.cases.0)

pub returns-in-None : goal.returns-in-None
returns-in-None c = after_nothing c.args.before.now c.args.name.now c.in-None.ensures.cases
