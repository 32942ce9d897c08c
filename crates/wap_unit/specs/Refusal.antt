-- Why bytes are no unit: a prefix of whole items, and then an item that can't stand there. Each
-- refusal speaks of the length of the whole input, of the bytes that are left of it after whole
-- items, and of a fault; the place of the first byte that is left is the difference of the lengths.
-- This project's own.
use Rattle.std.specs.Prelude.{◌≡◌, ◌≢◌, ℕ, ◌-◌, ◌<◌, ◌≤◌, Bool, nat_lt}
use Rattle.std.specs.Prelude.{List, [], ◌∷◌, ◌++◌, length, Option, Some, None}
use Rattle.std.specs.Str.{is_utf8}
use Rattle.wap_base.specs.Numbers.{IsMb}
use Rattle.wap_base.specs.declared.charset.Charset.{Charset}
use Rattle.wap_unit.specs.declared.unit.Unit.{Unit}
use Rattle.wap_unit.specs.declared.unit.Constant.{Constant}
use Rattle.wap_base.specs.Charsets.{charset_of, is_text}
use Rattle.wap_unit.specs.declared.fault.UnitFault.{UnitFault}
use Rattle.wap_unit.specs.declared.fault.UnitFault.TheVariants as fault
use Rattle.wap_unit.specs.declared.reading.TheConstants.{GREATEST_VERSION}
use Rattle.wap_unit.specs.declared.kind.ConstantKind.{ConstantKind}
use Rattle.wap_unit.specs.declared.kind.ConstantKind.TheVariants as constant
use Rattle.wap_unit.specs.declared.kind.PragmaKind.{PragmaKind}
use Rattle.wap_unit.specs.declared.kind.PragmaKind.TheVariants as pragma
use Rattle.wap_unit.specs.Kinds.{constant_kind, pragma_kind}
use Rattle.wap_base.specs.formats.Refusal as formats
pub use Rattle.wap_base.specs.formats.Refusal.{Never, RefusesInTurn, RefusesUnless, RefusesRow}
pub use Rattle.wap_base.specs.formats.Sequences.{AreBytes as IsTaken}
use Rattle.wap_unit.specs.Sequences.{IsByte, IsSized, IsRow, IsCounted}
use Rattle.wap_unit.specs.Units.{IsConstant, AreConstants, IsPragma}
use Rattle.wap_unit.specs.Units.{IsName, IsFunction, IsHead, IsBody}

-- the length of the input, what is left of it, and the fault
abbrev pub Refusal : Type 1
Refusal = formats.Refusal UnitFault

-- ---- what an item may lack

-- nothing is left where a byte has to stand
abbrev pub LacksByte : Refusal
LacksByte = formats.LacksByte fault.Short

-- fewer bytes are left than have to follow
abbrev pub LacksBytes : ℕ → Refusal
LacksBytes = formats.LacksBytes fault.Short

-- no number stands here: the input ends inside it, or it is too long
abbrev pub RefusesNumber : Refusal
RefusesNumber = formats.RefusesNumber fault.Short fault.Number

-- no number of things stands here, or one of so many things is refused
abbrev pub RefusesCounted : {A : Type 0} → (List ℕ → A → Type 0) → Refusal → Refusal
RefusesCounted Is Refuses = RefusesInTurn RefusesNumber IsMb (λ count. RefusesRow count Is Refuses)

-- no number stands here, or fewer bytes follow than it says
abbrev pub RefusesSized : Refusal
RefusesSized = RefusesInTurn RefusesNumber IsMb (λ size. LacksBytes size)

-- no bytes after their number stand here, or they don't pass a test
abbrev pub RefusesText : (List ℕ → Bool) → UnitFault → Refusal
RefusesText test failed =
    RefusesInTurn RefusesSized IsSized (λ content. RefusesUnless (test content) failed Never)

-- ---- constants

-- a string of a character set, at this place
abbrev pub RefusesCoded : ℕ → Option Charset → Refusal
RefusesCoded at None end left found = found ≡ fault.Charset at
RefusesCoded at (Some set) end left found = RefusesText (is_text set) (fault.Text at) end left found

-- what follows the first byte of a constant at this place
abbrev pub RefusesValue : ℕ → ℕ → Option ConstantKind → Refusal
RefusesValue charset at None end left found = found ≡ fault.ConstantKind at
RefusesValue charset at (Some constant.Int8) end left found = LacksBytes 1 end left found
RefusesValue charset at (Some constant.Int16) end left found = LacksBytes 2 end left found
RefusesValue charset at (Some constant.Int32) end left found = LacksBytes 4 end left found
RefusesValue charset at (Some constant.Float) end left found = LacksBytes 4 end left found
RefusesValue charset at (Some constant.Utf8) end left found =
    RefusesText is_utf8 (fault.Text at) end left found
RefusesValue charset at (Some constant.Empty) end left found = ⊥
RefusesValue charset at (Some constant.Coded) end left found =
    RefusesCoded at (charset_of charset) end left found

-- no constant of a pool whose strings are in this character set stands here
abbrev pub RefusesConstant : ℕ → Refusal
RefusesConstant charset end left found =
    RefusesInTurn LacksByte IsByte
    (λ byte. RefusesValue charset (end - length left) (constant_kind byte)) end left found

-- no pool of constants stands here: their number, their character set, and the constants
abbrev pub RefusesConstants : Refusal
RefusesConstants =
    RefusesInTurn RefusesNumber IsMb (λ count.
    RefusesInTurn RefusesNumber IsMb (λ charset.
    RefusesRow count (IsConstant charset) (RefusesConstant charset)))

-- ---- pragmas

-- two numbers don't stand here
abbrev pub RefusesPair : Refusal
RefusesPair = RefusesInTurn RefusesNumber IsMb (λ one. RefusesNumber)

-- what follows the first byte of a pragma at this place
abbrev pub RefusesIndexes : ℕ → Option PragmaKind → Refusal
RefusesIndexes at None end left found = found ≡ fault.PragmaKind at
RefusesIndexes at (Some pragma.Domain) end left found = RefusesNumber end left found
RefusesIndexes at (Some pragma.Path) end left found = RefusesNumber end left found
RefusesIndexes at (Some pragma.Property) end left found = RefusesPair end left found
RefusesIndexes at (Some pragma.Scheme) end left found =
    RefusesInTurn RefusesNumber IsMb (λ name. RefusesPair) end left found

-- no pragma stands here
abbrev pub RefusesPragma : Refusal
RefusesPragma end left found =
    RefusesInTurn LacksByte IsByte
    (λ byte. RefusesIndexes (end - length left) (pragma_kind byte)) end left found

-- ---- functions

-- what follows the index of a name at this place
abbrev pub RefusesNameText : ℕ → Refusal
RefusesNameText at =
    RefusesInTurn LacksByte IsByte (λ size.
    RefusesInTurn (LacksBytes size) (IsTaken size) (λ content.
    RefusesUnless (is_utf8 content) (fault.Text at) Never))

-- the name of one of so many functions
abbrev pub RefusesName : ℕ → Refusal
RefusesName count end left found =
    RefusesInTurn LacksByte IsByte (λ index.
    RefusesUnless (nat_lt index count) (fault.NameIndex (end - length left))
    (RefusesNameText (end - length left))) end left found

-- no function stands here: its counts of arguments and variables, and its code
abbrev pub RefusesFunction : Refusal
RefusesFunction =
    RefusesInTurn LacksByte IsByte (λ args. RefusesInTurn LacksByte IsByte (λ locals. RefusesSized))

-- what follows the number of functions
abbrev pub RefusesNamesAndFunctions : ℕ → Refusal
RefusesNamesAndFunctions count =
    RefusesInTurn LacksByte IsByte (λ names.
    RefusesInTurn (RefusesRow names (IsName count) (RefusesName count)) (λ bytes row.
    IsRow (IsName count) bytes row × (length row ≡ names))
    (λ row. RefusesRow count IsFunction RefusesFunction))

-- no functions stand here: their number, which isn't 0, and what follows it
abbrev pub RefusesFunctions : Refusal
RefusesFunctions end left found =
    RefusesInTurn LacksByte IsByte (λ count.
    RefusesUnless (nat_lt 0 count) (fault.NoFunction (end - length left))
    (RefusesNamesAndFunctions count)) end left found

-- ---- units

-- no constants, pragmas and functions stand here, one after the other
abbrev pub RefusesBody : Refusal
RefusesBody =
    RefusesInTurn {A = ℕ × List Constant} RefusesConstants
    (λ bytes pool. AreConstants bytes pool.0 pool.1)
    (λ pool.
    RefusesInTurn (RefusesCounted IsPragma RefusesPragma) (IsCounted IsPragma) (λ pragmas.
    RefusesFunctions))

-- the first thing in the bytes that no unit can have there, and its place
pub data IsRefused (bytes : List ℕ) (found : UnitFault) : Type 0 where
  no_version : bytes ≡ [] → found ≡ fault.Short 0 → IsRefused bytes found
  other_version : (version : ℕ) (rest : List ℕ) → bytes ≡ version ∷ rest
      → GREATEST_VERSION < version → found ≡ fault.Version 0 → IsRefused bytes found
  no_size : (version : ℕ) (rest : List ℕ) → bytes ≡ version ∷ rest → version ≤ GREATEST_VERSION
      → RefusesNumber (length bytes) rest found → IsRefused bytes found
  other_size : (version number : ℕ) (size rest : List ℕ) → bytes ≡ version ∷ (size ++ rest)
      → version ≤ GREATEST_VERSION → IsMb size number → number ≢ length rest → found ≡ fault.Size 1
      → IsRefused bytes found
  inside : (version : ℕ) (body : List ℕ) → IsHead bytes version body
      → RefusesBody (length bytes) body found → IsRefused bytes found
  behind : (unit : Unit) (body front rest : List ℕ) → IsHead bytes unit.version body
      → body ≡ front ++ rest → IsBody front unit → 0 < length rest
      → found ≡ fault.Size (length bytes - length rest) → IsRefused bytes found
