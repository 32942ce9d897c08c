-- Compiled units (WAP-193, section 9): which bytes are which unit. This project's own are the
-- version bytes that are read, the character sets, and that the counts of constants and of pragmas
-- and the indexes of constants have 32 bits, where the standard has 16.
use Rattle.std.specs.Prelude.{◌≡◌, ℕ, ◌<◌, ◌≤◌, true, List, [], ◌∷◌, ◌++◌, length, Some}
use Rattle.std.specs.List.{AllByRecursion}
use Rattle.std.specs.Str.{is_utf8, chars}
use Rattle.std.specs.Int.{w8, w16, w32, cast_signed, from_be_bytes}
use Rattle.wap_base.specs.Numbers.{IsMb}
use Rattle.wap_base.specs.declared.charset.Charset.{Charset}
use Rattle.wap_unit.specs.declared.unit.Unit.{Unit}
use Rattle.wap_unit.specs.declared.unit.Constant.{Constant}
use Rattle.wap_unit.specs.declared.unit.Constant.TheVariants.{Int8, Int16, Int32, Float, Utf8}
use Rattle.wap_unit.specs.declared.unit.Constant.TheVariants.{Empty, Coded}
use Rattle.wap_unit.specs.declared.unit.Pragma.{Pragma}
use Rattle.wap_unit.specs.declared.unit.Pragma.TheVariants.{Domain, Path, Property, Scheme}
use Rattle.wap_unit.specs.declared.unit.Code.{Code}
use Rattle.wap_base.specs.Charsets.{charset_of, is_text}
use Rattle.wap_unit.specs.declared.reading.TheConstants.{GREATEST_VERSION}
use Rattle.wap_unit.specs.declared.kind.TheConstants.{INT8, INT16, INT32, FLOAT, UTF8, EMPTY, CODED}
use Rattle.wap_unit.specs.declared.kind.TheConstants.{DOMAIN, PATH, PROPERTY, SCHEME}
use Rattle.wap_unit.specs.Sequences.{InTurn, After, IsSized, Sized, IsRow, IsCounted}

-- a text in UTF-8
pub record IsUtf8Text (bytes text : List ℕ) : Type 0 where
  pub utf8 : is_utf8 bytes ≡ true
  pub characters : text ≡ chars bytes

-- a text in the character set of this number
pub record IsCodedText (charset : ℕ) (bytes : List ℕ) : Type 0 where
  pub set : Charset
  pub known : charset_of charset ≡ Some set
  pub fits : is_text set bytes ≡ true

-- so many bytes, the most significant first
abbrev pub IsBits : ℕ → (List ℕ → Type 0) → List ℕ → Type 0
IsBits size Is value = (length value ≡ size) × Is value

-- a constant of a pool whose strings are in this character set
abbrev pub IsConstant : ℕ → List ℕ → Constant → Type 0
IsConstant charset bytes (Int8 number) =
    After INT8 (IsBits 1 (λ value. number ≡ cast_signed w8 (from_be_bytes w8 value))) bytes
IsConstant charset bytes (Int16 number) =
    After INT16 (IsBits 2 (λ value. number ≡ cast_signed w16 (from_be_bytes w16 value))) bytes
IsConstant charset bytes (Int32 number) =
    After INT32 (IsBits 4 (λ value. number ≡ cast_signed w32 (from_be_bytes w32 value))) bytes
IsConstant charset bytes (Float number) =
    After FLOAT (IsBits 4 (λ value. number ≡ from_be_bytes w32 value)) bytes
IsConstant charset bytes (Utf8 text) = After UTF8 (Sized (λ content. IsUtf8Text content text)) bytes
IsConstant charset bytes Empty = bytes ≡ EMPTY ∷ []
IsConstant charset bytes (Coded text) =
    After CODED (Sized (λ content. (content ≡ text) × IsCodedText charset content)) bytes

-- how many constants there are, the number of the character set, and the constants
abbrev pub AreConstants : List ℕ → ℕ → List Constant → Type 0
AreConstants bytes charset constants =
    InTurn (λ count. IsMb count (length constants))
    (InTurn (λ set. IsMb set charset) (λ row. IsRow (IsConstant charset) row constants)) bytes

-- two numbers
abbrev pub IsPair : List ℕ → ℕ → ℕ → Type 0
IsPair bytes one two = InTurn (λ front. IsMb front one) (λ back. IsMb back two) bytes

-- the byte of a pragma's kind, and the indexes of its strings
abbrev pub IsPragma : List ℕ → Pragma → Type 0
IsPragma bytes (Domain text) = After DOMAIN (λ rest. IsMb rest text) bytes
IsPragma bytes (Path text) = After PATH (λ rest. IsMb rest text) bytes
IsPragma bytes (Property name content) = After PROPERTY (λ rest. IsPair rest name content) bytes
IsPragma bytes (Scheme name content scheme) =
    After SCHEME (InTurn (λ front. IsMb front name) (λ back. IsPair back content scheme)) bytes

-- the index of one of so many functions, and its name: one byte for the length, and a text
pub record IsName (count : ℕ) (bytes : List ℕ) (name : ℕ × List ℕ) : Type 0 where
  pub content : List ℕ
  pub spelled : bytes ≡ name.0 ∷ length content ∷ content
  pub within : name.0 < count
  pub text : IsUtf8Text content name.1

-- how many arguments a function takes and how many variables it has besides, and its instructions
pub record IsFunction (bytes : List ℕ) (function : Code) : Type 0 where
  pub rest : List ℕ
  pub spelled : bytes ≡ function.args ∷ function.locals ∷ rest
  pub code : IsSized rest function.code

-- how many functions and names there are, the names, and the functions
pub record AreFunctions (bytes : List ℕ) (names : List (ℕ × List ℕ))
    (functions : List Code) : Type 0 where
  pub rows : List ℕ
  pub spelled : bytes ≡ length functions ∷ length names ∷ rows
  pub some : 0 < length functions
  pub each : InTurn (λ front. IsRow (IsName (length functions)) front names)
      (λ back. IsRow IsFunction back functions) rows

-- what follows the number of the bytes that follow
abbrev pub IsBody : List ℕ → Unit → Type 0
IsBody bytes unit =
    InTurn (λ pool. AreConstants pool unit.charset unit.constants)
    (InTurn (λ front. IsCounted IsPragma front unit.pragmas)
    (λ back. AreFunctions back unit.names unit.functions)) bytes

-- a version that is read, and the number of the bytes that follow
pub record IsHead (bytes : List ℕ) (version : ℕ) (body : List ℕ) : Type 0 where
  pub size : List ℕ
  pub spelled : bytes ≡ version ∷ (size ++ body)
  pub low : version ≤ GREATEST_VERSION
  pub size_is : IsMb size (length body)

-- the bytes are this unit
pub record IsUnit (bytes : List ℕ) (unit : Unit) : Type 0 where
  pub bytes_are : AllByRecursion (λ byte. byte < 256) bytes
  pub body : List ℕ
  pub head : IsHead bytes unit.version body
  pub body_is : IsBody body unit
