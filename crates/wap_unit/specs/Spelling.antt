-- The one spelling that is written for a unit (WAP-193, section 9): the shortest numbers, and its
-- own version byte.
use Rattle.std.specs.Prelude.{ℕ, List, [], ◌∷◌, ◌++◌, length, encode_utf8_all}
use Rattle.std.specs.List.{flat_map}
use Rattle.std.specs.Int.{w8, w16, w32, cast_unsigned, to_be_bytes}
use Rattle.wap_base.specs.Numbers.{mb_spelling}
use Rattle.wap_unit.specs.declared.unit.Unit.{Unit}
use Rattle.wap_unit.specs.declared.unit.Constant.{Constant}
use Rattle.wap_unit.specs.declared.unit.Constant.TheVariants.{Int8, Int16, Int32, Float, Utf8}
use Rattle.wap_unit.specs.declared.unit.Constant.TheVariants.{Empty, Coded}
use Rattle.wap_unit.specs.declared.unit.Pragma.{Pragma}
use Rattle.wap_unit.specs.declared.unit.Pragma.TheVariants.{Domain, Path, Property, Scheme}
use Rattle.wap_unit.specs.declared.unit.Code.{Code}
use Rattle.wap_unit.specs.declared.kind.TheConstants.{INT8, INT16, INT32, FLOAT, UTF8, EMPTY, CODED}
use Rattle.wap_unit.specs.declared.kind.TheConstants.{DOMAIN, PATH, PROPERTY, SCHEME}
use Rattle.wap_unit.specs.Units.{IsUnit}

-- their number, and the bytes
abbrev pub sized : List ℕ → List ℕ
sized content = mb_spelling (length content) ++ content

-- their number, and the things
abbrev pub counted : {A : Type 0} → (A → List ℕ) → List A → List ℕ
counted spell xs = mb_spelling (length xs) ++ flat_map spell xs

-- the byte of its kind, and its value
abbrev pub constant_spelling : Constant → List ℕ
constant_spelling (Int8 number) = INT8 ∷ to_be_bytes w8 (cast_unsigned w8 number)
constant_spelling (Int16 number) = INT16 ∷ to_be_bytes w16 (cast_unsigned w16 number)
constant_spelling (Int32 number) = INT32 ∷ to_be_bytes w32 (cast_unsigned w32 number)
constant_spelling (Float number) = FLOAT ∷ to_be_bytes w32 number
constant_spelling (Utf8 text) = UTF8 ∷ sized (encode_utf8_all text)
constant_spelling Empty = EMPTY ∷ []
constant_spelling (Coded text) = CODED ∷ sized text

-- the byte of its kind, and its indexes
abbrev pub pragma_spelling : Pragma → List ℕ
pragma_spelling (Domain text) = DOMAIN ∷ mb_spelling text
pragma_spelling (Path text) = PATH ∷ mb_spelling text
pragma_spelling (Property name content) = PROPERTY ∷ (mb_spelling name ++ mb_spelling content)
pragma_spelling (Scheme name content scheme) =
    SCHEME ∷ (mb_spelling name ++ (mb_spelling content ++ mb_spelling scheme))

-- the index of a function, and its name after one byte for the length
abbrev pub name_spelling : ℕ × List ℕ → List ℕ
name_spelling name = name.0 ∷ length (encode_utf8_all name.1) ∷ encode_utf8_all name.1

-- the counts of its arguments and of its other variables, and its code after the length
abbrev pub function_spelling : Code → List ℕ
function_spelling function = function.args ∷ function.locals ∷ sized function.code

-- how many constants there are, the number of the character set, and the constants
abbrev pub constants_spelling : ℕ → List Constant → List ℕ
constants_spelling charset constants =
    mb_spelling (length constants) ++ (mb_spelling charset ++ flat_map constant_spelling constants)

-- how many functions and names there are, a byte each, the names, and the functions
abbrev pub functions_spelling : List (ℕ × List ℕ) → List Code → List ℕ
functions_spelling names functions =
    length functions ∷ length names
    ∷ (flat_map name_spelling names ++ flat_map function_spelling functions)

-- what follows the number of the bytes that follow
unfoldable pub body_spelling : Unit → List ℕ
body_spelling unit =
    constants_spelling unit.charset unit.constants
    ++ (counted pragma_spelling unit.pragmas ++ functions_spelling unit.names unit.functions)

-- the version byte, and the rest after the number of its bytes
unfoldable pub spelling : Unit → List ℕ
spelling unit = unit.version ∷ sized (body_spelling unit)

-- some bytes are this unit: it is one that decode can give
abbrev pub HasSpelling : Unit → Type 0
HasSpelling unit = (bytes : List ℕ) × IsUnit bytes unit
