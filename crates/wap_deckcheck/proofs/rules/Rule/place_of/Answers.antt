use Rattle.std.proofs.Common.{ap, sym, ◌∙◌}
use Rattle.std.proofs.lemmas.Iterator.Adapters.{position_from-zero}
use Rattle.wap_tokens.specs.markup.Good.{Rule, is_among, place_in}
use Rattle.wap_deckcheck.specs.inside.Rows.{groups_of}
use Rattle.wap_deckcheck.proofs.rules.Rule.place_of.Goals as goal

pub returns : goal.returns
returns c =
    c.place_in.ensures
    ∙ sym
    (position_from-zero (λ group. is_among group c.args.tag) (groups_of c.self.inside.groups.now))
    ∙ ap (λ (rule : Rule). place_in rule.groups c.args.tag) c.self.view_is
