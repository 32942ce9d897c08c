-- The numbers of rows by code, computed: each gives the first row that the code is of.
use Rattle.std.proofs.Common.{◌≡◌, ℕ, ◌<◌, map, find, slice_index, get_or}
use Rattle.std.proofs.Common.{Option, None, refl, sym, ◌∙◌, ap, arith}
use Rattle.std.specs.List.{slice_get, range_with_len}
use Rattle.std.proofs.lemmas.List.FromFn.{get_or-map-range_with_len}
use Rattle.wap_unit.specs.declared.row.Row.{Row}
use Rattle.wap_unit.specs.Rows.{rows}
use Rattle.wap_unit.specs.Instructions.{has_code, row_of}
use Rattle.wap_asm.specs.declared.codes.TheConstants.{ROW_NUMBERS}

abbrev pub numbered : ℕ → Option Row
numbered code = slice_get rows (slice_index ROW_NUMBERS code)

abbrev searched : ℕ → Option Row
searched code = find (has_code code) rows

all_numbered : map numbered (range_with_len 0 256) ≡ map searched (range_with_len 0 256)
all_numbered = refl

pub row_of-numbered : (code : ℕ) → code < 256 → numbered code ≡ row_of code
unfolding row_of
row_of-numbered code is_byte =
    sym (get_or-map-range_with_len numbered 0 256 code code None is_byte (omega arith))
    ∙ ap (λ found. get_or found code None) all_numbered
    ∙ get_or-map-range_with_len searched 0 256 code code None is_byte (omega arith)
