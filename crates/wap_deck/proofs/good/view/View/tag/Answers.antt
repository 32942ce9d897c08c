use Rattle.std.proofs.Common.{◌∙◌, ap, unwrap_or, Option}
use Rattle.wap_tokens.specs.declared.markup.name.Tag.{Tag}
use Rattle.wap_tokens.specs.declared.markup.name.Tag.TheVariants as tags
use Rattle.wap_deck.proofs.GoodLemmas.Seen.{tag_seen, some_first}
use Rattle.wap_deck.proofs.good.view.View.tag.Goals as goal

pub returns-in-Some : goal.returns-in-Some
returns-in-Some c =
    c.unwrap_or.ensures ∙ ap (λ (o : Option Tag). unwrap_or o tags.Other)
    (c.tag_of.ensures ∙ tag_seen c.self.inside.table.now c.self.inside.levels
    c.self.inside.bytes.now c.self.invariant.lent.read c.args.self.now c.self.view_is c.in-Some.mark
    c.in-Some.field-0-1.now c.in-Some.ensures)

pub returns-in-None : goal.returns-in-None
returns-in-None c =
    absurd (some_first c.self.inside.table.now c.self.inside.levels c.self.inside.bytes.now
    c.self.invariant.lent.read c.in-None.ensures)
