use Rattle.std.proofs.Common.{ap, sym, ◌∙◌, arith}
use Rattle.rand_pcg.specs.Lcg.{advance}
use Rattle.rand_pcg.specs.Pcg.{multiplier_64}
use Rattle.wap_libs.specs.Generator.{Generator, generator_of}
use Rattle.wap_libs.proofs.Draws.{after_words-from_start}
use Rattle.wap_libs.proofs.generator.Gen.at.Goals as goal

pub returns : goal.returns
returns c =
    let n = c.args.drawn in
    ap (generator_of c.placed.inside.seed c.placed.inside.start n) c.advance.ensures
    ∙ ap (λ (g : Generator). generator_of g.seed g.start n (advance 64 multiplier_64 n g.state))
    (c.placed.view_is ∙ c.start_from-placed.ensures)
    ∙ sym (after_words-from_start c.args.seed c.args.start n (omega (arith, c.requires)))
