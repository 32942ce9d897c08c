use Rattle.std.proofs.Common.{rules, tests, lit<}
use Rattle.std.proofs.lemmas.Bool.{MatchBool-at_true}
use Rattle.std.proofs.lemmas.List.Elements.{All-from_all_within}
use Rattle.std.proofs.lemmas.Iterator.{cases_from_all}
use Rattle.std.proofs.lemmas.Iterator.Splits.{YieldsList-from_str_split}
use Rattle.std.proofs.lemmas.Iterator.Search.{true_from_All}
use Rattle.wap_system.specs.Inside.{IsFileName, segments}
use Rattle.wap_system.proofs.folder.is_inside.Goals as goal

pub returns : goal.returns
returns c =
    let parts = segments c.args.name.now in
    let cases =
    cases_from_all _ _ _ IsFileName (λ s. IsFileName s → ⊥) c.all.ensures.ran
    (YieldsList-from_str_split 47 c.args.name.now
    (lit< tt) c.split.ensures.text c.split.ensures.has_more c.split.ensures.pattern)
    (λ x q k. search (rules, tests)) (λ x q k. search (rules, tests)) in (
      λ yes. All-from_all_within IsFileName parts (MatchBool-at_true _ _ yes cases),
      λ names.
          true_from_All IsFileName (λ s. IsFileName s → ⊥) _ parts (λ x is not. not is) cases names,
    )
