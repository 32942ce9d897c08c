use Rattle.std.proofs.Common.{refl, codes, List, ℕ, sym, ap, ◌∙◌}
use Rattle.wap_base.proofs.Plain.{chars-plain}
use Rattle.wap_base.specs.Texts.{is_same_text}
use Rattle.wap_cardrules.specs.Flow.{mode_named}
use Rattle.wap_cards.specs.flow.inside.Modes.{paragraph_mode}
use Rattle.wap_cards.proofs.flow.shown.is_nowrap.Goals as goal

pub returns-in-Some : goal.returns-in-Some
returns-in-Some c =
    ap paragraph_mode (c.is_word.ensures
    ∙ ap (λ (word : List ℕ). is_same_text c.in-Some.mode word) (chars-plain (codes "nowrap") refl))
    ∙ ap (mode_named (paragraph_mode c.args.before)) (sym c.in-Some.is ∙ c.in_ok-mode.ensures)
