use Rattle.std.proofs.Common.{ap, ◌∙◌, sym}
use Rattle.wap_base.specs.declared.name.Part.{Part}
use Rattle.wap_tokens.specs.markup.Writing.{part_kids}
use Rattle.wap_deck.specs.writing.inside.WrittenTexts.{has_any}
use Rattle.wap_deck.proofs.WritingLemmas.Emptiness.{literal_gives}
use Rattle.wap_deck.proofs.writing.texts.gives.Goals as goal

pub returns-in-Lit : goal.returns-in-Lit
returns-in-Lit c =
    literal_gives c.is_empty.result c.in-Lit.text c.is_empty.ensures
    ∙ ap (λ (part : Part). has_any (part_kids part)) (sym c.in-Lit.is)
