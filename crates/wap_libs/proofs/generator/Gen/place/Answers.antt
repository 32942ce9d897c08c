use Rattle.std.proofs.Common.{subst}
use Rattle.wap_libs.specs.Generator.{KeepsCount}
use Rattle.wap_libs.proofs.Draws.{at_its_place}
use Rattle.wap_libs.proofs.generator.Gen.place.Goals as goal

pub returns-clause-named : goal.returns-clause-named
returns-clause-named c =
    at_its_place c.args.self.now (subst KeepsCount c.self.view_is c.self.invariant)
