use Rattle.std.proofs.Common.{refl, codes, List, ℕ, ap, ◌∙◌}
use Rattle.wap_base.proofs.Plain.{chars-plain}
use Rattle.wap_base.specs.Texts.{is_same_text}
use Rattle.wap_cards.proofs.inputs.choices.is_zero.Goals as goal

pub returns : goal.returns
returns c = c.is_word.ensures ∙ ap (λ (word : List ℕ). is_same_text c.args.text.now word)
    (chars-plain (codes "0") refl)
