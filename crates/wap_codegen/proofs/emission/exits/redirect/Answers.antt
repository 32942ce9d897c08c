use Rattle.std.proofs.Common.{◌∙◌, arith}
use Rattle.wap_codegen.specs.emission.inside.Exits.{redirected}
use Rattle.wap_codegen.proofs.EmissionLemmas.Looping.{redirect_next}
use Rattle.wap_codegen.proofs.emission.exits.redirect.Goals as goal

pub redirect_at-requires : goal.redirect_at-requires
redirect_at-requires c =
    omega (arith, c.loop-at-test.true, c.requires, c.loop-at.invariant.0)

pub loop-at-preserved : goal.loop-at-preserved
loop-at-preserved c = (
  c.redirect_at.ensures.same_length ∙ c.loop-at.invariant.0,
  λ before items after split starts ends.
      redirect_next (redirected c.args.end c.args.again) before items after
      c.loop-at.forms.items c.redirect_at.new.forms.items c.args.from c.args.to c.loop-at.at
      c.loop-at.auto.at c.loop-at-test.true starts ends
      (omega (arith, c.loop-at-test.true, c.requires, c.loop-at.invariant.0))
      c.redirect_at.ensures.redirected
      (c.loop-at.invariant.1 before items after split starts ends),
)
