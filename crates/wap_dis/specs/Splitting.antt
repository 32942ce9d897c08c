-- How far code is split into instructions where it is listed. This project's own.
use Rattle.std.specs.Prelude.{◌≡◌, ℕ, ◌<◌, ◌≤◌, List, [], ◌∷◌, ◌++◌, length, Some}
use Rattle.std.specs.List.{flat_map}
use Rattle.wap_unit.specs.declared.row.Row.{Row}
use Rattle.wap_unit.specs.declared.instr.Instr.{Instr}
use Rattle.wap_dis.specs.Listing.{instr_line, byte_lines, whole_at, code_from}

-- an instruction at its place, with its row
abbrev pub Item : Type 0
Item = ℕ × Row × Instr

-- the line of an instruction at its place
abbrev pub item_line : Item → List ℕ
item_line item = instr_line item.0 item.1 item.2

-- from one place to another the code is these whole instructions, one after the other
abbrev pub Splits : List ℕ → ℕ → List Item → ℕ → Type 0
Splits code from [] to = from ≡ to
Splits code from (item ∷ items) to =
    (item.0 ≡ from) × (from < length code) × (whole_at code from ≡ Some (item.1, item.2))
    × Splits code item.2.next items to

-- code is listed as whole instructions from its beginning on, and then as bytes; no whole
-- instructions from its beginning on end later
pub record IsListedSplit (code : List ℕ) : Type 0 where
  pub items : List Item
  pub end : ℕ
  pub split : Splits code 0 items end
  pub within : end ≤ length code
  pub longest : (others : List Item) (to : ℕ) → Splits code 0 others to → to ≤ end
  pub lines : code_from (length code) code 0 ≡ flat_map item_line items ++ byte_lines code end
