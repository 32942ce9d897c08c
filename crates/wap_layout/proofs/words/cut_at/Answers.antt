use Rattle.std.proofs.Common.{List, ℕ, take, length, sym, ap, ◌∙◌, subst}
use Rattle.std.specs.Str.{chars}
use Rattle.wap_layout.specs.inside.Slices.{IsCutAtBlank}
use Rattle.wap_layout.proofs.Plain.{plain_cut, from_start}
use Rattle.wap_layout.proofs.words.cut_at.Goals as goal

pub range_from-requires : goal.range_from-requires
range_from-requires c = λ some.
    (plain_cut c.args.text.now c.args.at c.utf8.text c.requires.first c.requires.blank).after

pub returns-clause-cut : goal.returns-clause-cut
returns-clause-cut c =
    let plain =
    plain_cut c.args.text.now c.args.at c.utf8.text c.requires.first c.requires.blank in
    subst (λ (part : List ℕ). IsCutAtBlank c.args.text.now part c.range_from.result.now)
    (sym (c.range.ensures.value ∙ from_start c.args.at c.args.text.now))
    (subst (λ (rest : List ℕ). IsCutAtBlank c.args.text.now (take c.args.at c.args.text.now) rest)
    (sym c.range_from.ensures.value) plain.cut)

pub returns-clause-columns : goal.returns-clause-columns
returns-clause-columns c =
    let plain =
    plain_cut c.args.text.now c.args.at c.utf8.text c.requires.first c.requires.blank in
    sym (ap (λ (part : List ℕ). length (chars part))
    (c.range.ensures.value ∙ from_start c.args.at c.args.text.now) ∙ plain.columns)
