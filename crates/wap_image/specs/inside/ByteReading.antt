-- Reading the bytes of an image from the left: the steps of all formats, with an image's faults.
use Rattle.std.specs.Prelude.{ℕ, List}
use Rattle.wap_base.specs.formats.ByteReading as formats
use Rattle.wap_image.specs.declared.context_parts.fault.ImageFault.{ImageFault}
use Rattle.wap_image.specs.declared.context_parts.fault.ImageFault.TheVariants as fault

-- a value and the bytes after it, given the length of the input and what is left of it
abbrev pub Reader : Type 0 → Type 0
Reader = formats.Reader ImageFault

abbrev pub byte_at : Reader ℕ
byte_at = formats.byte_at fault.Short

abbrev pub taken_at : ℕ → Reader (List ℕ)
taken_at = formats.taken_at fault.Short

abbrev pub number_at : Reader ℕ
number_at = formats.number_at fault.Short fault.Number
