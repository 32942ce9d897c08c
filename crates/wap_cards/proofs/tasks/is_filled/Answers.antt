use Rattle.std.proofs.Common.{◌∙◌, ap, List, ℕ}
use Rattle.std.specs.Str.{chars}
use Rattle.wap_base.specs.Texts.{is_same_text}
use Rattle.wap_cards.proofs.ComparedTexts.{word_same}
use Rattle.wap_cards.proofs.tasks.is_filled.Goals as goal

pub returns : goal.returns
returns c =
    c.eq.ensures
    ∙ word_same c.as_str.result.now c.in_ok-value.value c.args.word.now c.as_str.ensures.bytes
    c.as_str.ensures.characters c.utf8.word
    ∙ ap (λ (text : List ℕ). is_same_text (chars c.args.word.now) text) c.in_ok-value.ensures
