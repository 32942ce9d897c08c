use Rattle.std.proofs.Common.{List, sym, ap, ◌∙◌}
use Rattle.std.proofs.lemmas.List.{map-id}
use Rattle.std.proofs.lemmas.Iterator.Adapters.{YieldsList-from_vec}
use Rattle.std.proofs.lemmas.Iterator.Consumers.{YieldsList-end}
use Rattle.wap_keys.specs.declared.ending.Ending.TheVariants.{End}
use Rattle.wap_keys.specs.declared.lists.item.Item.{Item}
use Rattle.wap_keys.specs.lists.Lists.{all_of, lists_by}
use Rattle.wap_keys.proofs.ListLaws.{all_parts}
use Rattle.wap_keys.proofs.lists.reading.parted.Goals as goal

-- all items were taken
pub returns : goal.returns
returns c =
    let gives = c.into_iter-one-iterator.ensures.into_iter_gives in
    let all = YieldsList-end (YieldsList-from_vec {s = c.into_iter-one-iterator.result} _ gives.0
    (gives.1 ∙ c.args.items.ok.0))
    c.loop-one.yielded _ c.loop-one.yielded_by _ c.next.new.self c.in-None.is
    c.next.ensures.steps in
    c.in_ok-push.ensures.items
    ∙ all_parts c.loop-one.yielded c.loop-one.whole.items c.loop-one.list c.loop-one.invariant
    ∙ ap (λ (items : List Item). all_of (lists_by items End))
    (sym (map-id c.loop-one.yielded) ∙ all.0)
