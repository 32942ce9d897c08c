use Rattle.std.proofs.Common.{◌≡◌, ℕ, ◌+◌, ap, sym, ◌∙◌, arith}
use Rattle.rand_pcg.specs.Lcg.{Lcg, next, advance}
use Rattle.rand_pcg.specs.Pcg.{multiplier_64}
use Rattle.wap_libs.specs.Generator.{seeded}
use Rattle.wap_libs.proofs.Draws.{advance-more}
use Rattle.wap_libs.proofs.generator.Gen.next_word.Goals as goal

pub invariant_of-self : goal.invariant_of-self
invariant_of-self c = λ fewer.
    let gen = c.self.inside in
    let counted : c.saturating_add-self-inside.result ≡ gen.drawn + 1 =
    omega (arith, c.saturating_add-self-inside.ensures) in
    ap (λ (p : ℕ × Lcg). p.1) c.next_word-word.ensures
    ∙ ap (next 64 multiplier_64)
    (c.self.invariant (omega (arith, c.saturating_add-self-inside.ensures)))
    ∙ sym (advance-more 64 multiplier_64 gen.drawn (seeded gen.start))
    ∙ ap (λ n. advance 64 multiplier_64 n (seeded gen.start)) (sym counted)
