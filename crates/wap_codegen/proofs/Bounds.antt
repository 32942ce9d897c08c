-- How many bytes forms have at most, and save.
use Rattle.std.proofs.Common.{◌*◌, ◌≤◌, List, length, get_or, arith, Option, Some, None}
use Rattle.std.proofs.lemmas.List.Sums.{sum_by-le}
use Rattle.wap_unit.specs.declared.row.Slot.{Slot}
use Rattle.wap_unit.specs.declared.row.Slot.TheVariants.{Absent, Low, Byte, Word}
use Rattle.wap_unit.specs.declared.row.Row.{Row}
use Rattle.wap_unit.specs.declared.row.OpName.{OpName}
use Rattle.wap_unit.specs.declared.row.OpName.TheVariants.{AddAsg, SubAsg}
use Rattle.wap_unit.specs.Instructions.{width}
use Rattle.wap_asm.specs.declared.form.Form.{Form}
use Rattle.wap_asm.specs.declared.form.Form.TheVariants.{Op, Jump, Label}
use Rattle.wap_asm.specs.Spellings.{row_size, longest, operation_of}
use Rattle.wap_asm.specs.Placing.{wide_size, wide}
use Rattle.wap_meaning.specs.compiled.Savings.{operation_saves, form_saves, saved}

-- an operand
width_few : (s : Slot) → width s ≤ 2
width_few Absent = omega arith
width_few Low = omega arith
width_few Byte = omega arith
width_few Word = omega arith

-- an instruction
size_few : (row : Option Row) → row_size row ≤ 7
size_few None = omega arith
size_few (Some row) = omega (arith, width_few row.a, width_few row.b, width_few row.c)

-- a form
form_few : (form : Form) → wide_size form ≤ 7
unfolding wide_size
form_few (Op instr) = size_few (longest (operation_of instr.name))
form_few (Jump name label) = size_few (longest (operation_of name))
form_few (Label label) = omega arith

-- what an operation of its own saves
operation_saves_few : (name : OpName) → operation_saves name ≤ 6
operation_saves_few AddAsg = omega arith
operation_saves_few SubAsg = omega arith
operation_saves_few _ = omega arith

-- what a form saves
form_saves_few : (form : Form) → form_saves form ≤ 6
form_saves_few (Op instr) = operation_saves_few instr.name
form_saves_few _ = omega arith

-- what forms save
pub saved_few : (forms : List Form) → saved forms ≤ length forms * 6
saved_few forms = sum_by-le form_saves 6 forms (λ i d within. form_saves_few (get_or forms i d))

-- forms
pub wide_few : (forms : List Form) → wide forms ≤ length forms * 7
unfolding wide
wide_few forms = sum_by-le wide_size 7 forms (λ i d within. form_few (get_or forms i d))
