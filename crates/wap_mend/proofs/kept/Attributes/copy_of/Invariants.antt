use Rattle.std.proofs.Common.{◌≡◌, take, filter}
use Rattle.wap_mend.specs.inside.Building.{is_named}
use Rattle.wap_mend.proofs.kept.Attributes.copy_of.Given as goal

abbrev pub invariant-loop-attribute : goal.invariant-loop-attribute
invariant-loop-attribute l =
    l.rows ≡ filter (is_named l.name) (take l.attribute-index l.self.rows)
