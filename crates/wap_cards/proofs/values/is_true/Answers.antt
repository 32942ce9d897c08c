use Rattle.std.proofs.Common.{refl, ◌∙◌, ap, codes, List, ℕ, Option}
use Rattle.std.specs.Str.{chars}
use Rattle.wap_base.proofs.Plain.{chars-plain}
use Rattle.wap_tokens.specs.markup.Trees.{is_text, plain_value}
use Rattle.wap_cards.proofs.values.is_true.Goals as goal

pub returns : goal.returns
returns c =
    c.is_word.ensures
    ∙ ap (λ (value : Option (List ℕ)). is_text (chars (codes "true")) value)
    (c.as_ref.ensures.value ∙ c.in_ok-value.ensures)
    ∙ ap (λ (word : List ℕ). is_text word (plain_value c.args.name c.args.view.now))
    (chars-plain (codes "true") refl)
