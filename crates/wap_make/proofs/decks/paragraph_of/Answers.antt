use Rattle.std.proofs.Common.{◌∙◌, List, [], ◌∷◌, ap, ap₂}
use Rattle.wap_base.specs.declared.name.Part.{Part}
use Rattle.wap_tokens.specs.declared.markup.name.Tag.TheVariants.{P}
use Rattle.wap_tokens.specs.declared.markup.deck.Item.TheVariants as item
use Rattle.wap_make.specs.Folders.{literal, element}
use Rattle.wap_make.proofs.decks.paragraph_of.Goals as goal

pub returns : goal.returns
returns c =
    c.element.ensures
    ∙ ap₂ (element P) c.new.ensures.items
    (c.in_ok-kids.ensures.items
    ∙ ap (λ (parts : List Part). item.Text parts ∷ [])
    (c.in_ok-text.ensures ∙ ap literal c.in_ok-shown_of.ensures))
