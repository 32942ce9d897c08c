use Rattle.std.proofs.Common.{◌≡◌, take, filter, not}
use Rattle.wap_mend.specs.inside.Building.{is_named}
use Rattle.wap_mend.proofs.kept.Attributes.copy_without.Given as goal

abbrev pub invariant-loop-attribute : goal.invariant-loop-attribute
invariant-loop-attribute l =
    l.rows ≡ filter (λ row. not (is_named l.name row)) (take l.attribute-index l.self.rows)
