-- Reading a unit from the left, with the first fault that is met.
use Rattle.std.specs.Prelude.{ℕ, ◌-◌, nat_lt, ◌==◌, if◌then◌else◌, List, length}
use Rattle.std.specs.Prelude.{Option, Some, None, Result, Ok, Err}
use Rattle.std.specs.Str.{is_utf8, chars}
use Rattle.std.specs.Int.{w8, w16, w32, cast_signed, from_be_bytes}
use Rattle.wap_base.specs.Outcome.{◌>>=◌}
use Rattle.wap_base.specs.declared.charset.Charset.{Charset}
use Rattle.wap_unit.specs.declared.unit.Unit.{Unit}
use Rattle.wap_unit.specs.declared.unit.Constant.{Constant}
use Rattle.wap_unit.specs.declared.unit.Constant.TheVariants.{Int8, Int16, Int32, Float, Utf8}
use Rattle.wap_unit.specs.declared.unit.Constant.TheVariants.{Empty, Coded}
use Rattle.wap_unit.specs.declared.unit.Pragma.{Pragma}
use Rattle.wap_unit.specs.declared.unit.Pragma.TheVariants.{Domain, Path, Property, Scheme}
use Rattle.wap_unit.specs.declared.unit.Code.{Code}
use Rattle.wap_base.specs.Charsets.{charset_of, is_text}
use Rattle.wap_unit.specs.declared.fault.UnitFault.{UnitFault}
use Rattle.wap_unit.specs.declared.fault.UnitFault.TheVariants as fault
use Rattle.wap_unit.specs.declared.reading.TheConstants.{GREATEST_VERSION}
use Rattle.wap_unit.specs.declared.kind.ConstantKind.{ConstantKind}
use Rattle.wap_unit.specs.declared.kind.ConstantKind.TheVariants as constant
use Rattle.wap_unit.specs.declared.kind.PragmaKind.{PragmaKind}
use Rattle.wap_unit.specs.declared.kind.PragmaKind.TheVariants as pragma
use Rattle.wap_unit.specs.Kinds.{constant_kind, pragma_kind}
use Rattle.wap_base.specs.formats.ByteReading.{in_turn, given, judged, failing, unless, made}
use Rattle.wap_base.specs.formats.ByteReading.{row_at}
use Rattle.wap_unit.specs.reading.ByteReading.{Reader, byte_at, taken_at, number_at}

-- bytes after their number
unfoldable pub sized_at : Reader (List ℕ)
sized_at = in_turn number_at taken_at

-- the characters of bytes that have to be UTF-8, and bytes that have to be a text of a character
-- set
unfoldable pub utf8_text : ℕ → List ℕ → Result (List ℕ) UnitFault
utf8_text at content = if is_utf8 content then Ok (chars content) else Err (fault.Text at)

unfoldable pub coded_text : Charset → ℕ → List ℕ → Result (List ℕ) UnitFault
coded_text set at content = if is_text set content then Ok content else Err (fault.Text at)

-- ---- constants

unfoldable pub coded_at : ℕ → Option Charset → Reader Constant
coded_at at None = failing (fault.Charset at)
coded_at at (Some set) =
    made Coded (in_turn sized_at (λ content. judged (coded_text set at content)))

unfoldable pub utf8_at : ℕ → Reader Constant
utf8_at at = made Utf8 (in_turn sized_at (λ content. judged (utf8_text at content)))

unfoldable pub value_at : Option Charset → ℕ → ConstantKind → Reader Constant
value_at set at constant.Int8 =
    made (λ value. Int8 (cast_signed w8 (from_be_bytes w8 value))) (taken_at 1)
value_at set at constant.Int16 =
    made (λ value. Int16 (cast_signed w16 (from_be_bytes w16 value))) (taken_at 2)
value_at set at constant.Int32 =
    made (λ value. Int32 (cast_signed w32 (from_be_bytes w32 value))) (taken_at 4)
value_at set at constant.Float = made (λ value. Float (from_be_bytes w32 value)) (taken_at 4)
value_at set at constant.Utf8 = utf8_at at
value_at set at constant.Empty = given Empty
value_at set at constant.Coded = coded_at at set

abbrev pub value_by : Option Charset → ℕ → Option ConstantKind → Reader Constant
value_by set at None = failing (fault.ConstantKind at)
value_by set at (Some kind) = value_at set at kind

unfoldable pub constant_at : Option Charset → Reader Constant
constant_at set end bytes =
    in_turn byte_at (λ byte. value_by set (end - length bytes) (constant_kind byte)) end bytes

unfoldable pub constants_at : Reader (ℕ × List Constant)
constants_at =
    in_turn number_at (λ count.
    in_turn number_at (λ charset.
    made (λ constants. (charset, constants)) (row_at (constant_at (charset_of charset)) count)))

-- ---- pragmas

unfoldable pub pair_at : Reader (ℕ × ℕ)
pair_at = in_turn number_at (λ one. made (λ two. (one, two)) number_at)

unfoldable pub indexes_at : PragmaKind → Reader Pragma
indexes_at pragma.Domain = made Domain number_at
indexes_at pragma.Path = made Path number_at
indexes_at pragma.Property = made (λ pair. Property pair.0 pair.1) pair_at
indexes_at pragma.Scheme =
    in_turn number_at (λ name. made (λ pair. Scheme name pair.0 pair.1) pair_at)

abbrev pub indexes_by : ℕ → Option PragmaKind → Reader Pragma
indexes_by at None = failing (fault.PragmaKind at)
indexes_by at (Some kind) = indexes_at kind

unfoldable pub pragma_at : Reader Pragma
pragma_at end bytes =
    in_turn byte_at (λ byte. indexes_by (end - length bytes) (pragma_kind byte)) end bytes

unfoldable pub pragmas_at : Reader (List Pragma)
pragmas_at = in_turn number_at (row_at pragma_at)

-- ---- functions

unfoldable pub name_text_at : ℕ → Reader (List ℕ)
name_text_at at =
    in_turn byte_at (λ size.
    in_turn (taken_at size) (λ content. judged (utf8_text at content)))

unfoldable pub name_at : ℕ → Reader (ℕ × List ℕ)
name_at count end bytes =
    in_turn byte_at (λ index.
    unless (nat_lt index count) (fault.NameIndex (end - length bytes))
    (made (λ text. (index, text)) (name_text_at (end - length bytes)))) end bytes

unfoldable pub function_at : Reader Code
function_at =
    in_turn byte_at (λ args.
    in_turn byte_at (λ locals.
    made (λ code. record { args = args; locals = locals; code = code }) sized_at))

unfoldable pub named_functions_at : ℕ → Reader (List (ℕ × List ℕ) × List Code)
named_functions_at count =
    in_turn byte_at (λ names.
    in_turn (row_at (name_at count) names) (λ row.
    made (λ functions. (row, functions)) (row_at function_at count)))

unfoldable pub functions_at : Reader (List (ℕ × List ℕ) × List Code)
functions_at end bytes =
    in_turn byte_at (λ count.
    unless (nat_lt 0 count) (fault.NoFunction (end - length bytes)) (named_functions_at count))
    end bytes

-- ---- units

unfoldable pub body_at : ℕ → Reader Unit
body_at version =
    in_turn constants_at (λ pool. in_turn pragmas_at (λ pragmas. made (λ functions. record {
      version = version;
      charset = pool.0;
      constants = pool.1;
      pragmas = pragmas;
      names = functions.0;
      functions = functions.1;
    }) functions_at))

-- nothing may follow
abbrev pub ended : ℕ → Unit × List ℕ → Result Unit UnitFault
ended end read =
    if nat_lt 0 (length read.1) then Err (fault.Size (end - length read.1)) else Ok read.0

abbrev pub sized_body : ℕ → ℕ → ℕ × List ℕ → Result Unit UnitFault
sized_body end version size =
    if size.0 == length size.1 then body_at version end size.1 >>= ended end else Err (fault.Size 1)

unfoldable pub unit_by : ℕ → ℕ × List ℕ → Result Unit UnitFault
unit_by end version =
    if nat_lt GREATEST_VERSION version.0 then Err (fault.Version 0)
    else number_at end version.1 >>= sized_body end version.0

unfoldable pub unit_at : List ℕ → Result Unit UnitFault
unit_at bytes = byte_at (length bytes) bytes >>= unit_by (length bytes)
