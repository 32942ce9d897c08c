use Rattle.std.proofs.Common.{◌≡◌, ◌≢◌, ℕ, ◌∷◌, Some, Result, Ok, Err, refl, sym, ap, subst, ◌∙◌}
use Rattle.wap_value.specs.declared.value.Value.{Value}
use Rattle.wap_value.specs.declared.fault.ValueFault.{ValueFault}
use Rattle.wap_value.specs.declared.fault.ValueFault.TheVariants.{TooLong, NoMemory}
use Rattle.wap_value.specs.TooLong.{kept_within}
use Rattle.wap_unit.specs.declared.unit.Unit.{Unit as CodeUnit}
use Rattle.wap_unit.specs.declared.instr.Instr.{Instr}
use Rattle.wap_execution.specs.Frames.{Frame, constant_at}
use Rattle.wap_execution.specs.Effects.{Effect, onward, with_kept, effect_of}
use Rattle.wap_execution.specs.declared.action.Action.TheVariants.{LoadConstant}
use Rattle.wap_machine.specs.Standing.{Fits}
use Rattle.wap_machine.specs.Doing.{Does}
use Rattle.wap_machine.specs.inside.InstructionParts.{HasConstant, next_of}
use Rattle.wap_machine.proofs.Doing.{constant_here, loads}
use Rattle.wap_machine.proofs.constants.load_constant.Goals as goal

-- the constant's value
there : (string : ℕ) (frame : Frame) (instr : Instr) (unit : CodeUnit) → unit ≡ frame.function.unit
    → Fits frame (effect_of string frame LoadConstant instr)
    → (value : Value) × (constant_at frame.function.unit instr.a ≡ Some value)
    × (constant_at unit instr.a ≡ Some value)
there string frame instr unit same fits =
    let constant = constant_here string frame instr fits in (
      constant.value,
      constant.is,
      subst (λ (u : CodeUnit). constant_at u instr.a ≡ Some constant.value) (sym same) constant.is,
    )

abbrev kept_effect : ℕ → Frame → Instr → Result Value ValueFault → Effect
kept_effect string frame instr made =
    with_kept made (λ kept. onward instr.next frame.variables (kept ∷ frame.operands))

pub constant-requires : goal.constant-requires
constant-requires c =
    let frame : Frame = c.args.frame.now in
    subst (λ (u : CodeUnit). HasConstant u c.args.instr.a) (sym c.unit.ensures)
    (constant_here c.args.string frame c.args.instr c.requires)

pub give-requires : goal.give-requires
give-requires c =
    let frame : Frame = c.args.frame.now in
    let value =
    there c.args.string frame c.args.instr c.unit.result.now c.unit.ensures c.requires in
    let made : kept_within c.args.string value.0 ≡ Ok c.in-Ok.value =
    c.in-Ok.ensures value.0 value.2 in
    subst (Fits frame) (loads c.args.string frame c.args.instr value.0 value.1
    ∙ ap (kept_effect c.args.string frame c.args.instr) made) c.requires

pub returns-in-Ok-clause-done : goal.returns-in-Ok-clause-done
returns-in-Ok-clause-done c =
    let frame : Frame = c.args.frame.now in
    let value =
    there c.args.string frame c.args.instr c.unit.result.now c.unit.ensures c.requires in
    let made : kept_within c.args.string value.0 ≡ Ok c.in-Ok.value =
    c.in-Ok.ensures value.0 value.2 in
    subst (λ (e : Effect). Does e frame.function c.give.new.frame (next_of c.give.result))
    (sym (loads c.args.string frame c.args.instr value.0 value.1
    ∙ ap (kept_effect c.args.string frame c.args.instr) made)) c.give.ensures

pub returns-in-Err-TooLong-clause-done : goal.returns-in-Err-TooLong-clause-done
returns-in-Err-TooLong-clause-done c =
    let frame : Frame = c.args.frame.now in
    let value =
    there c.args.string frame c.args.instr c.unit.result.now c.unit.ensures c.requires in
    let other : c.in-Err-TooLong.field-0 ≢ NoMemory = λ e. cc (e, c.in-Err-TooLong.field-0-is) in
    let made : kept_within c.args.string value.0 ≡ Err (TooLong c.in-Err-TooLong.field-0-0) =
    cc (c.in-Err-TooLong.ensures value.0 value.2 other, c.in-Err-TooLong.field-0-is) in
    record {
      is =
          loads c.args.string frame c.args.instr value.0 value.1
          ∙ ap (kept_effect c.args.string frame c.args.instr) made;
      same = refl;
      in_order = λ e. cc e;
    }
