use Rattle.std.proofs.Common.{◌≡◌, arith, ◌∙◌, ap, sum, length}
use Rattle.std.proofs.lemmas.List.{take_at}
use Rattle.wap_asm.specs.Placing.{settled}
use Rattle.wap_asm.proofs.PassLaws.{first_sizes, targets_within}
use Rattle.wap_asm.proofs.PlacedLaws.{sum-settled}
use Rattle.wap_asm.proofs.pass.laid_out.Goals as goal

pub chain-requires-clause-targets : goal.chain-requires-clause-targets
chain-requires-clause-targets c =
    targets_within c.args.forms.now c.as_slice.result.now c.as_mut_slice.result.now
    (c.as_slice.ensures.value ∙ c.in_ok-sites.ensures)
    (omega (arith, c.in_ok-before.ensures.len))

pub settle-requires-clause-first : goal.settle-requires-clause-first
settle-requires-clause-first c =
    c.as_mut_slice-3.ensures.value ∙ c.in_ok-sizes.ensures ∙ first_sizes c.args.forms.now

pub fill_starts-requires-clause-few : goal.fill_starts-requires-clause-few
fill_starts-requires-clause-few c =
    let long : length c.settle.new.sizes ≡ c.in_ok-sizes.sizes.len =
    omega (arith, ap length c.as_mut_slice-3.ensures.value, c.in_ok-sizes.sizes.ok) in
    let is : c.as_slice-4.result.now ≡ settled c.args.forms.now =
    c.as_slice-4.ensures.value
    ∙ take_at c.settle.new.sizes _ c.in_ok-sizes.sizes.len long
    ∙ c.settle.ensures in
    omega (arith, ap sum is, sum-settled c.args.forms.now)
