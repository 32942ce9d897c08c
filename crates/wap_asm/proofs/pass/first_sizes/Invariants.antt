use Rattle.std.proofs.Common.{◌≡◌, take, map}
use Rattle.wap_asm.specs.inside.Passes.{first_size}
use Rattle.wap_asm.proofs.pass.first_sizes.Given as goal

abbrev pub invariant-loop-form : goal.invariant-loop-form
invariant-loop-form l = l.sizes.items ≡ map first_size (take l.form-index l.forms)
