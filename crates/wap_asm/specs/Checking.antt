-- A test whether forms may be placed, which computes: for forms that are written out. This
-- project's own.
use Rattle.std.specs.Prelude.{ℕ, ◌==◌, nat_lt, Bool, true, false, not, ◌&&◌, ◌||◌, List, slice_get}
use Rattle.std.specs.List.{list_all, enumerate_from}
use Rattle.std.specs.Option.{option_map_or}
use Rattle.wap_unit.specs.declared.row.OpName.{OpName}
use Rattle.wap_unit.specs.declared.row.OpName.TheVariants.{JumpFw, JumpBw, TjumpFw, TjumpBw}
use Rattle.wap_asm.specs.Spelling.{holds}
use Rattle.wap_asm.specs.declared.form.Form.{Form}
use Rattle.wap_asm.specs.declared.form.Form.TheVariants.{Op, Jump, Label}
use Rattle.wap_asm.specs.Spellings.{operation_of, longest}
use Rattle.wap_asm.specs.Placing.{is_label, target}

-- whether a jump of this operation leads from one index to another
abbrev pub leads_test : OpName → ℕ → ℕ → Bool
leads_test JumpFw i t = nat_lt i t
leads_test TjumpFw i t = nat_lt i t
leads_test JumpBw i t = nat_lt t i
leads_test TjumpBw i t = nat_lt t i
leads_test _ i t = false

-- whether a form, unless it stands at this index, is another than the label
abbrev pub is_apart : ℕ → ℕ → ℕ × Form → Bool
is_apart label t form = not (is_label label form.1) || (form.0 == t)

-- whether a form, which comes with its index, may be placed among the forms
abbrev pub form_test : List Form → ℕ × Form → Bool
form_test forms (i, Op instr) =
    option_map_or (λ row. holds row instr.a instr.b instr.c) (longest (operation_of instr.name))
    false
form_test forms (i, Jump name label) =
    let t = target forms label in
    leads_test (operation_of name) i t
    && (option_map_or (is_label label) (slice_get forms t) false
    && list_all (is_apart label t) (enumerate_from 0 forms))
form_test forms (i, Label label) = true

-- whether forms may be placed
unfoldable pub are_placeable : List Form → Bool
are_placeable forms = list_all (form_test forms) (enumerate_from 0 forms)
