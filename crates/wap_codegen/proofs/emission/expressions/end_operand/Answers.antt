use Rattle.std.proofs.Common.{None, ap, ◌∙◌, slice_set}
use Rattle.wap_unit.specs.declared.row.OpName.TheVariants as op
use Rattle.wap_asm.specs.declared.form.Form.TheVariants.{Jump}
use Rattle.wap_codegen.proofs.EmissionLemmas.Extending.{adds_both}
use Rattle.wap_codegen.proofs.emission.expressions.end_operand.Goals as goal

pub returns-in_ok-end-in-Short : goal.returns-in_ok-end-in-Short
returns-in_ok-end-in-Short c =
    rw c.in-Short.is (
      c.add_label.new.forms.items,
      λ exits. adds_both (c.in_ok-add_plain-in-Short.ensures exits)
          (c.in_ok-end-in-Short.ensures.added exits),
      c.close.ensures
          ∙ ap (λ n. slice_set c.add_label.new.forms.items c.args.jump (Jump op.TjumpFw n))
          (c.in_ok-end-in-Short.ensures.number ∙ (c.in_ok-add_plain-in-Short.ensures None).sized),
    )
