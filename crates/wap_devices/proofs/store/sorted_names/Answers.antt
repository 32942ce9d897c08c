use Rattle.std.proofs.Common.{sym, subst}
use Rattle.wap_base.specs.Texts.{AreDistinct}
use Rattle.wap_base.proofs.Orders.{ascending_from_distinct}
use Rattle.wap_devices.proofs.store.sorted_names.Goals as goal

pub returns-clause-ascending : goal.returns-clause-ascending
returns-clause-ascending c =
    let apart : AreDistinct c.in_ok-names.names.items =
    subst AreDistinct (sym (c.in_ok-names.ensures))
    c.requires in
    ascending_from_distinct c.in_ok-names.names.items c.sort.new.self.items apart
    c.in_ok-sort.ensures.permutation c.in_ok-sort.ensures.sorted
