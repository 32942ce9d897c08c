-- Which forms are placed, and what holds of their code. This project's own.
use Rattle.std.specs.Prelude.{ℕ, ◌+◌, ◌-◌, ◌<◌, ◌≤◌, ◌≡◌, true, IsTrue, IsSomeAnd, Some, Ok, List}
use Rattle.std.specs.Prelude.{length, take, sum, slice_get, slice_index}
use Rattle.wap_unit.specs.declared.instr.Instr.{Instr}
use Rattle.wap_unit.specs.declared.row.OpName.{OpName}
use Rattle.wap_unit.specs.declared.row.OpName.TheVariants.{JumpFw, JumpBw, TjumpFw, TjumpBw}
use Rattle.wap_unit.specs.declared.row.Row.{Row}
use Rattle.wap_unit.specs.Rows.{rows}
use Rattle.wap_unit.specs.Instructions.{size, row_of, read_row}
use Rattle.wap_asm.specs.Spelling.{holds, is_spelling}
use Rattle.wap_asm.specs.Exact.{Among}
use Rattle.wap_asm.specs.declared.form.Form.{Form}
use Rattle.wap_asm.specs.declared.form.Form.TheVariants.{Op, Jump, Label}
use Rattle.wap_asm.specs.Spellings.{operation_of, longest}
use Rattle.wap_asm.specs.Placing.{wide, settled}
use Rattle.wap_asm.specs.declared.form.PlaceFault.{PlaceFault}
use Rattle.wap_asm.specs.declared.form.PlaceFault.TheVariants.{TooFar, NoMemory}

-- whether a jump of this operation leads from one index to another: the others are no jumps
abbrev pub Leads : OpName → ℕ → ℕ → Type 0
Leads JumpFw i t = i < t
Leads TjumpFw i t = i < t
Leads JumpBw i t = t < i
Leads TjumpBw i t = t < i
Leads _ i t = ⊥

-- the label stands once, where a jump of this operation at this index may lead
pub record IsLabelled (forms : List Form) (operation : OpName) (i label : ℕ) : Type 0 where
  pub index : ℕ
  pub stands : slice_get forms index ≡ Some (Label label)
  pub once : (t : ℕ) → slice_get forms t ≡ Some (Label label) → t ≡ index
  pub leads : Leads operation i index

-- forms that may be placed
pub record ArePlaceable (forms : List Form) : Type 0 where
  -- the operands fit the longest spelling of the operation, and unused ones are 0
  pub ops : (i : ℕ) (instr : Instr) → slice_get forms i ≡ Some (Op instr)
      → IsSomeAnd (longest (operation_of instr.name))
      (λ row. IsTrue (holds row instr.a instr.b instr.c))
  -- each jump has the name of a jump, and its label stands once, before or after it by its name
  pub jumps : (i label : ℕ) (name : OpName) → slice_get forms i ≡ Some (Jump name label)
      → IsLabelled forms (operation_of name) i label

-- where the form at an index begins, and the code ends
unfoldable pub start : List Form → ℕ → ℕ
start forms i = sum (take i (settled forms))

-- what stands at a place of code, in the shortest spelling that has room for its operands
pub record Stands (code : List ℕ) (at : ℕ) (operation : OpName) (instr : Instr) : Type 0 where
  pub row : Row
  pub has_row : row_of (slice_index code at) ≡ Some row
  pub of_operation : row.operation ≡ operation
  pub reads : read_row row code at ≡ Ok instr
  pub shortest : (other : Row) → Among other rows
      → is_spelling operation instr.a instr.b instr.c other ≡ true → size row ≤ size other

-- a jump forward that stands at a place, and leads to a target: it counts from the byte after it
pub record JumpsOn (code : List ℕ) (at next target : ℕ) (operation : OpName) : Type 0 where
  pub instr : Instr
  pub stands : Stands code at operation instr
  pub ends : instr.next ≡ next
  pub lands : instr.next + instr.a ≡ target

-- a jump backward, which counts from its own first byte
pub record JumpsBack (code : List ℕ) (at next target : ℕ) (operation : OpName) : Type 0 where
  pub instr : Instr
  pub stands : Stands code at operation instr
  pub ends : instr.next ≡ next
  pub reaches : instr.a ≤ at
  pub lands : at - instr.a ≡ target

-- code that splits into the forms in order, each at its start
pub record IsPlaced (code : List ℕ) (forms : List Form) (start : ℕ → ℕ) : Type 0 where
  pub begins : start 0 ≡ 0
  pub ends : start (length forms) ≡ length code
  pub within : (i : ℕ) → start i ≤ length code
  -- no longer than in the longest spellings
  pub no_longer : length code ≤ wide forms
  -- a label has no bytes
  pub labels : (i label : ℕ) → slice_get forms i ≡ Some (Label label) → start (i + 1) ≡ start i
  -- an instruction has its operation and operands, and ends where the next form begins
  pub ops : (i : ℕ) (form : Instr) → slice_get forms i ≡ Some (Op form)
      → (name : OpName) × Stands code (start i) (operation_of form.name)
      (record { name = name; a = form.a; b = form.b; c = form.c; next = start (i + 1) })
  -- a jump leads to where its label stands
  pub jumps_on : (i t label : ℕ) (name : OpName) → slice_get forms i ≡ Some (Jump name label)
      → slice_get forms t ≡ Some (Label label) → i < t
      → JumpsOn code (start i) (start (i + 1)) (start t) (operation_of name)
  pub jumps_back : (i t label : ℕ) (name : OpName) → slice_get forms i ≡ Some (Jump name label)
      → slice_get forms t ≡ Some (Label label) → t < i
      → JumpsBack code (start i) (start (i + 1)) (start t) (operation_of name)

-- a fault's cause: out of memory has none
abbrev pub IsCause : List Form → PlaceFault → Type 0
IsCause forms (TooFar bytes) = (65535 < wide forms) × (bytes ≡ wide forms)
IsCause forms NoMemory = Unit {0}
