-- Reading the bytes of a unit from the left: the steps of all formats, with a unit's faults. This
-- project's own.
use Rattle.std.specs.Prelude.{ℕ, List}
use Rattle.wap_base.specs.formats.ByteReading as formats
use Rattle.wap_unit.specs.declared.fault.UnitFault.{UnitFault}
use Rattle.wap_unit.specs.declared.fault.UnitFault.TheVariants as fault

-- a value and the bytes after it, given the length of the input and what is left of it
abbrev pub Reader : Type 0 → Type 0
Reader = formats.Reader UnitFault

abbrev pub byte_at : Reader ℕ
byte_at = formats.byte_at fault.Short

abbrev pub taken_at : ℕ → Reader (List ℕ)
taken_at = formats.taken_at fault.Short

abbrev pub number_at : Reader ℕ
number_at = formats.number_at fault.Short fault.Number
