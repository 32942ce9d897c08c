-- What the table keeps: what is spelled is read, and the row that is taken is the shortest. This
-- project's own.
use Rattle.std.specs.Prelude.{take, drop, slice_index, ◌<◌, ◌≡◌, ℕ, ◌+◌, ◌≤◌, true}
use Rattle.std.specs.Prelude.{List, [], ◌∷◌, ◌++◌, ◌⊎◌, length, Some, Ok}
use Rattle.wap_unit.specs.declared.row.OpName.{OpName}
use Rattle.wap_unit.specs.declared.row.Row.{Row}
use Rattle.wap_unit.specs.declared.instr.Instr.{Instr}
use Rattle.wap_unit.specs.Rows.{rows}
use Rattle.wap_unit.specs.Instructions.{size}
use Rattle.wap_asm.specs.Spelling.{holds, is_spelling, shortest}
use Rattle.wap_unit.specs.Instructions.{instr_at}
use Rattle.wap_asm.specs.Spelling.{spelling}

-- an item stands in a list
abbrev pub Among : {X : Type 0} → X → List X → Type 0
Among x [] = ⊥
Among x (y ∷ ys) = (x ≡ y) ⊎ Among x ys

-- the bytes at a place are what a row of the table spells
abbrev pub IsSpelled : List ℕ → ℕ → Instr → Type 0
IsSpelled code at i =
    (row : Row) × Among row rows × (row.name ≡ i.name)
    × (take (size row) (drop at code) ≡ spelling row i.a i.b i.c)

-- the table of instructions is read as it is spelled
pub record IsExact : Type 0 where
  -- what any row spells is read back, whatever stands before and after it
  pub any : (row : Row) (a b c : ℕ) (before rest : List ℕ)
      → Among row rows → holds row a b c ≡ true
      → instr_at (before ++ (spelling row a b c ++ rest)) (length before)
      ≡ Ok (record { name = row.name; a = a; b = b; c = c; next = length before + size row })
  -- so is what the shortest row of an operation spells
  pub read : (operation : OpName) (a b c : ℕ) (row : Row) (before rest : List ℕ)
      → shortest operation a b c ≡ Some row
      → instr_at (before ++ (spelling row a b c ++ rest)) (length before)
      ≡ Ok (record { name = row.name; a = a; b = b; c = c; next = length before + size row })
  -- no other row that spells it is shorter
  pub short : (operation : OpName) (a b c : ℕ) (row other : Row)
      → shortest operation a b c ≡ Some row → Among other rows
      → is_spelling operation a b c other ≡ true → size row ≤ size other
  -- a row's spelling has as many bytes as the row
  pub long : (row : Row) (a b c : ℕ) → length (spelling row a b c) ≡ size row
  -- what is read is spelled so
  pub spelled : (code : List ℕ) (at : ℕ) (i : Instr) → at < length code
      → ((j : ℕ) → slice_index code j < 256) → instr_at code at ≡ Ok i → IsSpelled code at i
