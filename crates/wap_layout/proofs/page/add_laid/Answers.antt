use Rattle.std.proofs.Common.{◌≡◌, ◌∙◌, ◌+◌, ◌++◌, List, ℕ, length, refl, sym, ap, subst}
use Rattle.std.specs.Prelude.{OnOk}
use Rattle.std.specs.Str.{chars}
use Rattle.wap_layout.specs.Calculation.{laid}
use Rattle.wap_layout.proofs.Unwrapped.{filled-one_line}
use Rattle.wap_layout.proofs.page.add_laid.Goals as goal

pub returns-in-Unwrapped : goal.returns-in-Unwrapped
returns-in-Unwrapped c =
    let P : List (List ℕ) → Type 0 =
    λ own. OnOk c.add_filled-in-Unwrapped.result
    (c.add_filled-in-Unwrapped.new.lines ≡ c.args.lines.now ++ own) in
    subst P (filled-one_line (length c.args.text.now + 1) c.args.text.now c.utf8.text refl
    ∙ ap (λ mode. laid c.args.width mode (chars c.args.text.now)) (sym c.in-Unwrapped.is))
    c.add_filled-in-Unwrapped.ensures
