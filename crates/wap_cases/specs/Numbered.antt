-- Forms whose labels have their indexes as numbers. This project's own.
use Rattle.std.specs.Prelude.{ℕ, ◌≡◌, IsTrue, IsSomeAnd, Some, List, slice_get}
use Rattle.wap_asm.specs.Spelling.{holds}
use Rattle.wap_asm.specs.declared.form.Form.{Form}
use Rattle.wap_asm.specs.declared.form.Form.TheVariants.{Op, Jump, Label}
use Rattle.wap_asm.specs.Spellings.{operation_of, longest}
use Rattle.wap_asm.specs.Placed.{Leads}

-- a form may stand at an index: a label's number is its index, and a jump leads to one
abbrev pub MayStand : List Form → ℕ → Form → Type 0
MayStand forms i (Op instr) =
    IsSomeAnd (longest (operation_of instr.name))
    (λ row. IsTrue (holds row instr.a instr.b instr.c))
MayStand forms i (Jump name label) =
    (slice_get forms label ≡ Some (Label label)) × Leads (operation_of name) i label
MayStand forms i (Label label) = label ≡ i
