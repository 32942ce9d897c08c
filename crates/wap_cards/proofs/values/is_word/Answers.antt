use Rattle.std.proofs.Common.{◌∙◌, List, ℕ, Option, ap, sym}
use Rattle.std.specs.Borrow.{Bor}
use Rattle.std.specs.Option.{option_copied}
use Rattle.std.specs.Str.{chars}
use Rattle.wap_tokens.specs.markup.Trees.{is_text}
use Rattle.wap_cards.proofs.ComparedTexts.{same_word}
use Rattle.wap_cards.proofs.values.is_word.Goals as goal

pub returns-in-Some : goal.returns-in-Some
returns-in-Some c =
    c.eq.ensures ∙ same_word c.as_str.result.now c.in-Some.text.now c.args.word.now
    c.as_str.ensures.bytes c.as_str.ensures.characters c.utf8.word
    ∙ ap (λ (text : Option (Bor (List ℕ))). is_text (chars c.args.word.now) (option_copied text))
    (sym c.in-Some.is)
