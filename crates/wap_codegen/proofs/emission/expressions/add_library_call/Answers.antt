use Rattle.std.proofs.Common.{ℕ, ap}
use Rattle.wap_unit.specs.declared.row.OpName.TheVariants as op
use Rattle.wap_asm.specs.declared.form.Form.TheVariants.{Op}
use Rattle.wap_meaning.specs.coding.Coded.{one, instr}
use Rattle.wap_codegen.proofs.EmissionLemmas.Chaining.{extends_same}
use Rattle.std.proofs.lemmas.Result.{on_ok_weaker}
use Rattle.wap_codegen.proofs.emission.expressions.add_library_call.Goals as goal

pub returns : goal.returns
returns c =
    on_ok_weaker _ (extends_same (ap (λ (numbers : ℕ × ℕ). one (λ exits at. Op
    (instr op.CallLib numbers.1 numbers.0 0))) c.library_numbers-numbers.ensures)) c.add_op.ensures
