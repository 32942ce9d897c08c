use Rattle.std.proofs.Common.{List, ℕ, subst}
use Rattle.std.specs.Prelude.{IsTrue, ◌↔◌}
use Rattle.wap_base.specs.Texts.{AreAscending}
use Rattle.wap_base.proofs.Orders.{distinct_by_sorting}
use Rattle.wap_base.proofs.order.are_distinct.Goals as goal

pub returns : goal.returns
returns c =
    let Known : List (List ℕ) → Type 0 =
    λ texts. IsTrue c.are_ascending.result ↔ AreAscending texts in
    distinct_by_sorting c.args.texts.items c.sort_unstable.new.self.items c.are_ascending.result
    c.sort_unstable.ensures.permutation c.sort_unstable.ensures.sorted
    (subst Known c.deref.ensures.value c.are_ascending.ensures)
