use Rattle.std.proofs.Common.{List, ℕ, take, sym, ◌∙◌, subst}
use Rattle.wap_layout.specs.inside.Slices.{IsCutAtFeed}
use Rattle.wap_layout.proofs.Plain.{from_start}
use Rattle.wap_layout.proofs.Feeds.{place_cut}
use Rattle.wap_layout.proofs.words.cut_at_place.Goals as goal

pub range-requires-clause-end_boundary : goal.range-requires-clause-end_boundary
range-requires-clause-end_boundary c =
    (place_cut c.args.text.now c.args.at c.utf8.text c.requires).before

pub range_from-requires : goal.range_from-requires
range_from-requires c = λ some.
    (place_cut c.args.text.now c.args.at c.utf8.text c.requires).after

pub returns : goal.returns
returns c =
    subst (λ (part : List ℕ). IsCutAtFeed c.args.text.now part c.range_from.result.now)
    (sym (c.range.ensures.value ∙ from_start c.args.at c.args.text.now))
    (subst (λ (rest : List ℕ). IsCutAtFeed c.args.text.now (take c.args.at c.args.text.now) rest)
    (sym c.range_from.ensures.value)
    (place_cut c.args.text.now c.args.at c.utf8.text c.requires).cut)
