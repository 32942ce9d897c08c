use Rattle.std.proofs.Common.{List, ℕ, take, sym, ◌∙◌, subst}
use Rattle.wap_layout.specs.inside.Slices.{IsPlainWord}
use Rattle.wap_layout.proofs.Plain.{plain_cut, from_start}
use Rattle.wap_layout.proofs.Begun.{space_cut, space_low}
use Rattle.wap_layout.proofs.first.cut_at_space.Goals as goal

pub range_from-requires : goal.range_from-requires
range_from-requires c = λ some.
    (plain_cut c.args.text.now c.args.at c.utf8.text c.requires.first
    (space_low c.args.text.now c.args.at c.requires.space)).after

pub returns : goal.returns
returns c =
    subst (λ (part : List ℕ). IsPlainWord c.args.text.now part c.range_from.result.now)
    (sym (c.range.ensures.value ∙ from_start c.args.at c.args.text.now))
    (subst (λ (rest : List ℕ). IsPlainWord c.args.text.now (take c.args.at c.args.text.now) rest)
    (sym c.range_from.ensures.value)
    (space_cut c.args.text.now c.args.at c.utf8.text c.requires.first c.requires.space
    c.requires.some))
