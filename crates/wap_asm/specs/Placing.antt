-- Where forms stand, and the bytes that they come to. This project's own.
use Rattle.std.specs.Prelude.{ℕ, zero, suc, ◌+◌, ◌==◌, Bool, false, List, []}
use Rattle.std.specs.Prelude.{length, map, replicate, sum, sum_by, slice_range}
use Rattle.std.specs.List.{position_or_len, enumerate_from, flat_map}
use Rattle.wap_unit.specs.declared.row.OpName.{OpName}
use Rattle.wap_asm.specs.declared.form.Form.{Form}
use Rattle.wap_asm.specs.declared.form.Form.TheVariants.{Op, Jump, Label}
use Rattle.wap_asm.specs.Spellings.{operation_of, longest, spelling_of, row_size, row_bytes}

-- whether a form is the label of this number
abbrev pub is_label : ℕ → Form → Bool
is_label label (Op instr) = false
is_label label (Jump name other) = false
is_label label (Label other) = other == label

-- the index of the form that is this label
abbrev pub target : List Form → ℕ → ℕ
target forms label = position_or_len (is_label label) forms

-- how many bytes stand between the forms at two indexes, where forms have these sizes
abbrev pub between : List ℕ → ℕ → ℕ → ℕ
between sizes i t = sum (slice_range sizes (i + 1) t) + sum (slice_range sizes t i)

-- a jump over so many bytes, in its shortest spelling
abbrev pub jump_bytes : OpName → ℕ → List ℕ
jump_bytes operation distance =
    row_bytes (spelling_of operation distance 0 0) distance 0 0

-- an operation with its operands, in its shortest spelling
abbrev pub instr_bytes : OpName → ℕ → ℕ → ℕ → List ℕ
instr_bytes operation a b c = row_bytes (spelling_of operation a b c) a b c

-- the bytes of the form at an index, where forms have these sizes: a jump's operand is how many
-- bytes stand between it and its label
abbrev pub form_bytes : List Form → List ℕ → ℕ → Form → List ℕ
form_bytes forms sizes i (Op instr) =
    instr_bytes (operation_of instr.name) instr.a instr.b instr.c
form_bytes forms sizes i (Jump name label) =
    jump_bytes (operation_of name) (between sizes i (target forms label))
form_bytes forms sizes i (Label label) = []

-- the bytes of a form that comes with its index
abbrev pub bytes_at : List Form → List ℕ → ℕ × Form → List ℕ
bytes_at forms sizes form = form_bytes forms sizes form.0 form.1

-- one pass: how many bytes each form has, where forms had these sizes before
unfoldable pub grown : List Form → List ℕ → List ℕ
grown forms sizes = map (λ form. length (bytes_at forms sizes form)) (enumerate_from 0 forms)

-- the sizes after so many passes: at first no form has bytes, so that each jump begins in its
-- shortest spelling
unfoldable pub sizes_after : ℕ → List Form → List ℕ
sizes_after zero forms = replicate (length forms) 0
sizes_after (suc passes) forms = grown forms (sizes_after passes forms)

-- how many bytes a form has in the longest spelling of its operation
unfoldable pub wide_size : Form → ℕ
wide_size (Op instr) = row_size (longest (operation_of instr.name))
wide_size (Jump name label) = row_size (longest (operation_of name))
wide_size (Label label) = 0

-- how many bytes the wide code has, in which each form has its longest spelling
unfoldable pub wide : List Form → ℕ
wide forms = sum_by wide_size forms

-- the sizes at which none grows any more; as many passes as the wide code has bytes get there
unfoldable pub settled : List Form → List ℕ
settled forms = sizes_after (wide forms) forms

-- the code: the bytes of each form in order, at the sizes at which none grows any more
unfoldable pub placed : List Form → List ℕ
placed forms = flat_map (bytes_at forms (settled forms)) (enumerate_from 0 forms)
