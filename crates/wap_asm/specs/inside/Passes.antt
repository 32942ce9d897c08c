-- Passes over the sizes of forms as the code makes them. It only carries proofs.
use Rattle.std.specs.Prelude.{ℕ, ◌+◌, ◌-◌, ◌<◌, ◌≤◌, ◌≡◌, nat_lt, if◌then◌else◌, List, Some}
use Rattle.std.specs.Prelude.{length, slice_index, take, sum}
use Rattle.wap_unit.specs.declared.row.OpName.{OpName}
use Rattle.wap_unit.specs.declared.row.OpName.TheVariants.{JumpFw, JumpBw, TjumpFw, TjumpBw}
use Rattle.wap_unit.specs.declared.row.Row.{Row}
use Rattle.wap_asm.specs.Spelling.{shortest}
use Rattle.wap_asm.specs.declared.form.Form.{Form}
use Rattle.wap_asm.specs.declared.form.Form.TheVariants.{Op, Jump, Label}
use Rattle.wap_asm.specs.declared.site.Kind.{Kind}
use Rattle.wap_asm.specs.declared.site.Kind.TheVariants.{Fixed, Short, Near}
use Rattle.wap_asm.specs.declared.site.Site.{Site}
use Rattle.wap_asm.specs.Spellings.{operation_of, spelling_of, row_size}
use Rattle.wap_asm.specs.Placing.{target, sizes_after, settled}
use Rattle.wap_asm.specs.Settling.{AreBelow}

abbrev pub kind_of : OpName → Kind
kind_of JumpFw = Short
kind_of JumpBw = Short
kind_of TjumpFw = Short
kind_of TjumpBw = Near
kind_of _ = Fixed

abbrev pub site_of : List Form → Form → Site
site_of forms (Op instr) = record { kind = Fixed; target = 0 }
site_of forms (Jump name label) =
    record { kind = kind_of (operation_of name); target = target forms label }
site_of forms (Label label) = record { kind = Fixed; target = 0 }

-- the size of a form that had this one, at this distance
abbrev pub leap_size : Kind → ℕ → ℕ → ℕ
leap_size Fixed had distance = had
leap_size Short had distance =
    if nat_lt distance 32 then 1 else (if nat_lt distance 256 then 2 else 3)
leap_size Near had distance = if nat_lt distance 256 then 2 else 3

-- how many bytes stand between the forms at two indexes, by where forms begin
abbrev pub apart : List ℕ → ℕ → ℕ → ℕ
apart starts i t =
    (slice_index starts t - slice_index starts (i + 1))
    + (slice_index starts i - slice_index starts t)

-- where forms of these sizes begin, and the last ends
pub record AreStarts (sizes starts : List ℕ) : Type 0 where
  pub count : length starts ≡ length sizes + 1
  pub each : (k : ℕ) → k ≤ length sizes → slice_index starts k ≡ sum (take k sizes)

-- sizes that forms have on the way to those that they settle at
pub record AreSoFar (forms : List Form) (sizes : List ℕ) : Type 0 where
  pub count : length sizes ≡ length forms
  pub first : AreBelow (sizes_after 1 forms) sizes
  pub below : AreBelow sizes (settled forms)

-- where forms begin up to an index, at sizes on the way
pub record AreKnown (forms : List Form) (starts : List ℕ) (known : ℕ) : Type 0 where
  pub sizes : List ℕ
  pub count : length sizes ≡ length forms
  pub below : AreBelow sizes (settled forms)
  pub long : length starts ≡ length forms + 1
  pub within : known ≤ length forms
  pub each : (k : ℕ) → k ≤ known → slice_index starts k ≡ sum (take k sizes)

-- the form at an index has grown, and no other
pub record IsLonger (sizes longer : List ℕ) (i : ℕ) : Type 0 where
  pub count : length longer ≡ length sizes
  pub before : (k : ℕ) → k < i → slice_index longer k ≡ slice_index sizes k
  pub after : (k : ℕ) → i < k → slice_index longer k ≡ slice_index sizes k
  pub more : slice_index sizes i < slice_index longer i

-- a form before an index has grown, and no other
pub record IsLongerBefore (end : ℕ) (sizes longer : List ℕ) (i : ℕ) : Type 0 where
  pub within : i < end
  pub grown : IsLonger sizes longer i

-- a form's size is enough for its distance
abbrev pub IsEnough : List ℕ → List ℕ → ℕ → Site → Type 0
IsEnough starts sizes i site =
    leap_size site.kind (slice_index sizes i) (apart starts i site.target) ≤ slice_index sizes i

-- the size of a form where none has bytes yet
unfoldable pub first_size : Form → ℕ
first_size (Op instr) = row_size (spelling_of (operation_of instr.name) instr.a instr.b instr.c)
first_size (Jump name label) = row_size (spelling_of (operation_of name) 0 0 0)
first_size (Label label) = 0

-- there is a spelling that has room for the operands
pub record HasSpelling (operation : OpName) (a b c : ℕ) : Type 0 where
  pub row : Row
  pub is : shortest operation a b c ≡ Some row
