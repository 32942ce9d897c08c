use Rattle.std.proofs.Common.{ap, ◌∙◌}
use Rattle.rand_pcg.specs.Pcg.{multiplier_64}
use Rattle.wap_libs.specs.Generator.{seeded}
use Rattle.wap_libs.proofs.Draws.{advance-none}
use Rattle.wap_libs.proofs.generator.Gen.start_from.Goals as goal

pub invariant_of-result : goal.invariant_of-result
invariant_of-result c =
    λ _. c.seed_from_u64.ensures ∙ ap seeded c.from.ensures
    ∙ advance-none 64 multiplier_64 (seeded c.args.start)
