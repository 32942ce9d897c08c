use Rattle.std.proofs.Common.{◌≡◌, Option, sym, ap, subst, ◌∙◌}
use Rattle.wap_value.specs.declared.value.Value.{Value}
use Rattle.wap_value.specs.declared.value.Value.TheVariants.{Invalid}
use Rattle.wap_value.specs.Unary.{unary_of}
use Rattle.wap_execution.specs.Frames.{Frame}
use Rattle.wap_execution.specs.Effects.{effect_of, with_value, stored, Effect}
use Rattle.wap_execution.specs.declared.action.Action.TheVariants as action
use Rattle.wap_machine.specs.Doing.{Does}
use Rattle.wap_machine.specs.inside.InstructionParts.{next_of}
use Rattle.wap_machine.proofs.Doing.{stored_again}
use Rattle.wap_machine.proofs.variables.change_variable.Goals as goal

pub returns : goal.returns
unfolding effect_of
returns c =
    let frame : Frame = c.args.frame.now in
    let does =
    subst (λ (f : Frame).
    Does (stored c.args.instr.a f.variables c.unary.result f.operands c.args.instr.next) f.function
    c.store_in.new.frame (next_of c.store_in.result)) c.replace-old.ensures.new
    c.store_in.ensures in
    let old : effect_of 0 frame (action.ChangeVariable c.args.op) c.args.instr
    ≡ stored c.args.instr.a frame.variables
    (unary_of c.args.op c.replace-old.result) frame.operands c.args.instr.next =
    ap (λ (o : Option Value). with_value o (λ old. stored c.args.instr.a frame.variables
    (unary_of c.args.op old) frame.operands c.args.instr.next)) c.replace-old.ensures.old in
    subst (λ (e : Effect). Does e frame.function c.store_in.new.frame (next_of c.store_in.result))
    (stored_again c.args.instr.a frame.variables Invalid c.unary.result frame.operands
    c.args.instr.next
    ∙ ap (λ (v : Value). stored c.args.instr.a frame.variables v frame.operands c.args.instr.next)
    c.unary.ensures
    ∙ sym old) does
