-- The kinds of constants and pragmas, by their first byte (WAP-193, section 9).
use Rattle.std.specs.Prelude.{ℕ, ◌==◌, if◌then◌else◌, Option, Some, None}
use Rattle.wap_unit.specs.declared.kind.ConstantKind.{ConstantKind}
use Rattle.wap_unit.specs.declared.kind.ConstantKind.TheVariants as constant
use Rattle.wap_unit.specs.declared.kind.PragmaKind.{PragmaKind}
use Rattle.wap_unit.specs.declared.kind.PragmaKind.TheVariants as pragma

-- what a constant is that begins with this byte
abbrev pub constant_kind : ℕ → Option ConstantKind
constant_kind byte =
    if byte == 0 then Some constant.Int8
    else if byte == 1 then Some constant.Int16
    else if byte == 2 then Some constant.Int32
    else if byte == 3 then Some constant.Float
    else if byte == 4 then Some constant.Utf8
    else if byte == 5 then Some constant.Empty
    else if byte == 6 then Some constant.Coded
    else None

-- what a pragma is that begins with this byte
abbrev pub pragma_kind : ℕ → Option PragmaKind
pragma_kind byte =
    if byte == 0 then Some pragma.Domain
    else if byte == 1 then Some pragma.Path
    else if byte == 2 then Some pragma.Property
    else if byte == 3 then Some pragma.Scheme
    else None
