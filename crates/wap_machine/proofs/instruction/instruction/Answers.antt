use Rattle.std.proofs.Common.{◌≡◌, Option, Some, None, Result, Ok, Err, sym, subst, arith}
use Rattle.std.specs.Prelude.{slice_index}
use Rattle.wap_unit.specs.declared.row.Row.{Row}
use Rattle.wap_unit.specs.declared.instr.Instr.{Instr}
use Rattle.wap_unit.specs.declared.instr.InstrFault.{InstrFault}
use Rattle.wap_unit.specs.Instructions.{row_of, read_row}
use Rattle.wap_execution.specs.declared.action.Action.{Action}
use Rattle.wap_execution.specs.Frames.{Frame, code_of}
use Rattle.wap_machine.specs.inside.InstructionParts.{IsInstruction}
use Rattle.wap_machine.proofs.Ready.{instruction_is, no_row, no_instr}
use Rattle.wap_machine.proofs.instruction.instruction.Goals as goal

pub unreachable-requires : goal.unreachable-requires
unreachable-requires c =
    let frame : Frame = c.args.frame.now in
    let row : ◌≡◌ {A = Option Row} None
    (row_of (slice_index (code_of frame.function) frame.place)) =
    cc (c.in_default.is, c.row_of.ensures.row, c.requires.code, c.place-place.ensures) in
    no_row frame c.requires.stands c.requires.within row

pub unreachable-requires-in-Err : goal.unreachable-requires-in-Err
unreachable-requires-in-Err c =
    let frame : Frame = c.args.frame.now in
    let row : Some c.in-Some.row ≡ row_of (slice_index (code_of frame.function) frame.place) =
    cc (c.in-Some.is, c.row_of.ensures.row, c.requires.code, c.place-place.ensures) in
    let short : ◌≡◌ {A = Result Instr InstrFault} (Err c.in-Err.field-0)
    (read_row c.in-Some.row (code_of frame.function) frame.place) =
    cc (c.in-Err.is, c.read_row.ensures.instr, c.requires.code, c.place-place.ensures) in
    no_instr frame c.in-Some.row c.in-Err.field-0 c.requires.stands c.requires.within row short

pub returns : goal.returns
returns c =
    let frame : Frame = c.args.frame.now in
    let row : row_of (slice_index (code_of frame.function) frame.place) ≡ Some c.in-Some.row =
    cc (c.in-Some.is, c.row_of.ensures.row, c.requires.code, c.place-place.ensures) in
    let read : read_row c.in-Some.row (code_of frame.function) frame.place ≡ Ok c.in-Ok.instr =
    cc (c.in-Ok.is, c.read_row.ensures.instr, c.requires.code, c.place-place.ensures) in
    let byte : slice_index c.args.code.now c.place-place.result
    ≡ slice_index (code_of frame.function) frame.place =
    cc (c.requires.code, c.place-place.ensures) in
    subst (λ (action : Action). IsInstruction frame action c.in-Ok.instr) (sym c.action_of.ensures)
    (instruction_is frame c.in-Some.row c.in-Ok.instr c.requires.stands c.requires.within row read
    (λ below. c.in-Ok.ensures.operands c.in-Some.row.count (omega (arith, byte, below))))
