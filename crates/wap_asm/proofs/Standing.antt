-- Bytes that a spelling gives are read as its instruction.
use Rattle.std.proofs.Common.{◌≡◌, ℕ, ◌+◌, ◌-◌, nat_lt, List, ◌++◌, Option, Some, None, Result, Ok}
use Rattle.std.proofs.Common.{Err, inl, inr, refl, sym, ◌∙◌, ap, arith, length, slice_index}
use Rattle.std.proofs.lemmas.Bool.{cases_Bool, cond-true, cond-false}
use Rattle.wap_unit.specs.declared.row.OpName.{OpName}
use Rattle.wap_unit.specs.declared.row.Row.{Row}
use Rattle.wap_unit.specs.declared.instr.Instr.{Instr}
use Rattle.wap_unit.specs.declared.instr.InstrFault.{InstrFault}
use Rattle.wap_unit.specs.declared.instr.InstrFault.TheVariants.{Opcode, Operand}
use Rattle.wap_unit.specs.Rows.{rows}
use Rattle.wap_unit.specs.Instructions.{size, has_code, row_of, read, read_row, read_by}
use Rattle.wap_asm.specs.Spelling.{shortest, spelling}
use Rattle.wap_asm.specs.Exact.{Among}
use Rattle.wap_asm.proofs.Finding.{found}
use Rattle.wap_asm.proofs.RowLaws.{read_back, none_shorter}
use Rattle.wap_asm.specs.Spellings.{operation_of}
use Rattle.wap_asm.specs.Placed.{Stands}
use Rattle.wap_asm.proofs.SpellingLaws.{operation_named, shortest_found}

abbrev pub instr_of : OpName → ℕ → ℕ → ℕ → ℕ → Instr
instr_of name a b c next = record { name = name; a = a; b = b; c = c; next = next }

err_ok : (fault : InstrFault) (instr : Instr)
    → ◌≡◌ {A = Result Instr InstrFault} (Err fault) (Ok instr) → ⊥
err_ok fault instr e = cc

same_ok : (i j : Instr) → ◌≡◌ {A = Result Instr InstrFault} (Ok i) (Ok j) → i ≡ j
same_ok i j e = cc

row_among : (code : ℕ) (row : Row) → row_of code ≡ Some row → Among row rows
unfolding row_of
row_among code row e = (found (has_code code) rows row e).1

read_ok : (row : Row) (code : List ℕ) (at : ℕ) (instr : Instr) → read_row row code at ≡ Ok instr
    → read row code at ≡ instr
read_ok row code at instr e =
    elim (cases_Bool (nat_lt (length code - at) (size row))) [
      | inl short ↦ absurd (err_ok Operand instr
          (sym (cond-true (nat_lt (length code - at) (size row)) (Err Operand)
          (Ok (read row code at))
          short) ∙ e))
      | inr enough ↦ same_ok (read row code at) instr
          (sym (cond-false (nat_lt (length code - at) (size row)) (Err Operand)
          (Ok (read row code at))
          enough) ∙ e)
    ]

stands_by : (o : Option Row) (code : List ℕ) (at : ℕ) (operation : OpName) (a b c : ℕ) (row : Row)
    → row_of (slice_index code at) ≡ o → shortest operation a b c ≡ Some row
    → read_by o code at ≡ Ok (instr_of row.name a b c (at + size row))
    → Stands code at operation (instr_of row.name a b c (at + size row))
stands_by None code at operation a b c row here short e =
    absurd (err_ok Opcode (instr_of row.name a b c (at + size row)) e)
stands_by (Some other) code at operation a b c row here short e =
    let instr = instr_of row.name a b c (at + size row) in
    let it = shortest_found operation a b c row short in
    let is = read_ok other code at instr e in
    let named : other.name ≡ row.name = ap (λ (i : Instr). i.name) is in
    let next : at + size other ≡ at + size row = ap (λ (i : Instr). i.next) is in
    let among = row_among (slice_index code at) other here in
    let same : other.operation ≡ operation =
    sym (operation_named other among) ∙ ap operation_of named ∙ operation_named row it.0 ∙ it.1 in
    let sizes : size other ≡ size row = omega (arith, next) in
    record {
      row = other;
      has_row = here;
      of_operation = same;
      reads = e;
      shortest = λ third third_among spells. omega
          (arith, sizes, none_shorter operation a b c row third short third_among spells);
    }

-- the shortest spelling, between other bytes
pub stands : (before rest : List ℕ) (operation : OpName) (a b c : ℕ) (row : Row)
    → shortest operation a b c ≡ Some row
    → Stands (before ++ (spelling row a b c ++ rest)) (length before) operation
    (instr_of row.name a b c (length before + size row))
stands before rest operation a b c row short =
    let code = before ++ (spelling row a b c ++ rest) in
    stands_by (row_of (slice_index code (length before))) code (length before) operation a b c row
    refl short
    (read_back operation a b c row before rest short)
