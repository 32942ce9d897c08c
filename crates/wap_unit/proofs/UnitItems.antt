-- The parts of a unit are read as the relation has them, and refused as the refusal has them.
use Rattle.std.proofs.Common.{◌≡◌, ℕ, ◌<◌, true, ltb, List, [], ◌∷◌, length}
use Rattle.std.proofs.Common.{Option, Some, None, refl, sym, ap, subst, ◌∙◌, arith}
use Rattle.std.specs.Str.{is_utf8, chars}
use Rattle.std.specs.Int.{w8, w16, w32, cast_signed, from_be_bytes}
use Rattle.std.proofs.lemmas.Bool.{ltb-true, lt-ltb}
use Rattle.std.proofs.lemmas.Bool.Decides.{nat_tests}
use Rattle.wap_base.specs.Numbers.{IsMb}
use Rattle.wap_base.proofs.Choices.{some_same}
use Rattle.wap_base.specs.declared.charset.Charset.{Charset}
use Rattle.wap_unit.specs.declared.unit.Unit.{Unit}
use Rattle.wap_unit.specs.declared.unit.Constant.{Constant}
use Rattle.wap_unit.specs.declared.unit.Constant.TheVariants.{Int8, Int16, Int32, Float, Utf8}
use Rattle.wap_unit.specs.declared.unit.Constant.TheVariants.{Empty, Coded}
use Rattle.wap_unit.specs.declared.unit.Pragma.{Pragma}
use Rattle.wap_unit.specs.declared.unit.Pragma.TheVariants.{Domain, Path, Property, Scheme}
use Rattle.wap_unit.specs.declared.unit.Code.{Code}
use Rattle.wap_base.specs.Charsets.{charset_of, is_text}
use Rattle.wap_unit.specs.declared.fault.UnitFault.TheVariants as fault
use Rattle.wap_unit.specs.declared.kind.ConstantKind.{ConstantKind}
use Rattle.wap_unit.specs.declared.kind.ConstantKind.TheVariants as constant
use Rattle.wap_unit.specs.declared.kind.PragmaKind.{PragmaKind}
use Rattle.wap_unit.specs.declared.kind.PragmaKind.TheVariants as pragma
use Rattle.wap_unit.specs.declared.kind.TheConstants.{INT8, INT16, INT32, FLOAT, UTF8, EMPTY, CODED}
use Rattle.wap_unit.specs.declared.kind.TheConstants.{DOMAIN, PATH, PROPERTY, SCHEME}
use Rattle.wap_unit.specs.Kinds.{constant_kind, pragma_kind}
use Rattle.wap_base.specs.formats.Sequences.{InTurn, Then, IsByte, After, IsRow, Made}
use Rattle.wap_unit.specs.Sequences.{IsSized, Sized, IsCounted}
use Rattle.wap_unit.specs.Units.{IsUtf8Text, IsCodedText, IsBits, IsConstant, AreConstants, IsPair}
use Rattle.wap_unit.specs.Units.{IsPragma, IsName, IsFunction, AreFunctions, IsBody}
use Rattle.wap_unit.specs.Refusal.{IsTaken, LacksByte, LacksBytes, RefusesNumber, RefusesSized}
use Rattle.wap_unit.specs.Refusal.{RefusesText, RefusesCoded, RefusesValue, RefusesConstant}
use Rattle.wap_unit.specs.Refusal.{RefusesConstants, RefusesPair, RefusesIndexes, RefusesPragma}
use Rattle.wap_unit.specs.Refusal.{RefusesCounted, RefusesNameText, RefusesName, RefusesFunction}
use Rattle.wap_unit.specs.Refusal.{RefusesNamesAndFunctions, RefusesFunctions, RefusesBody}
use Rattle.wap_unit.specs.reading.UnitReading.{sized_at, utf8_text, coded_text, coded_at, utf8_at}
use Rattle.wap_unit.specs.reading.UnitReading.{value_at, value_by, constant_at, constants_at}
use Rattle.wap_unit.specs.reading.UnitReading.{pair_at, indexes_at, indexes_by, pragma_at}
use Rattle.wap_unit.specs.reading.UnitReading.{pragmas_at, name_text_at, name_at, function_at}
use Rattle.wap_unit.specs.reading.UnitReading.{named_functions_at, functions_at, body_at}
use Rattle.wap_unit.specs.reading.ByteReading.{byte_at, taken_at, number_at}
use Rattle.wap_base.specs.formats.ByteReading.{in_turn, judged, made}
use Rattle.wap_base.proofs.formats.Parts.{parts_of, headed, behind, alone, added}
use Rattle.wap_base.proofs.formats.Readers.{Reads, reads_in_turn, reads_given, reads_judged}
use Rattle.wap_base.proofs.formats.Readers.{reads_made}
use Rattle.wap_base.proofs.formats.Readers.{reads_failing, reads_unless, reads_as, reads_here}
use Rattle.wap_base.proofs.formats.Readers.{reads_known}
use Rattle.wap_base.proofs.formats.Steps
use Rattle.wap_base.proofs.formats.Rows.{reads_row}
use Rattle.wap_base.proofs.formats.KindBytes.{IsBy, reads_kind}

-- ---- the steps, with a unit's faults

-- one byte
pub reads_byte : Reads byte_at IsByte LacksByte
reads_byte = Steps.reads_byte fault.Short

-- so many bytes
reads_taken : (size : ℕ) → Reads (taken_at size) (IsTaken size) (LacksBytes size)
reads_taken = Steps.reads_taken fault.Short

-- one number
pub reads_number : Reads number_at IsMb RefusesNumber
reads_number = Steps.reads_number fault.Short fault.Number

-- bytes after their number
pub reads_sized : Reads sized_at IsSized RefusesSized
unfolding sized_at
reads_sized =
    reads_known reads_number reads_taken (λ content. length content)
    (λ size l content is. (is.1, is.0)) (λ l content is. (is, refl))

-- ---- texts

-- a text in UTF-8
reads_utf8 : (at : ℕ)
    → Reads (in_turn sized_at (λ content. judged (utf8_text at content))) (λ bytes text.
    Sized (λ content. IsUtf8Text content text) bytes) (RefusesText is_utf8 (fault.Text at))
unfolding utf8_text
reads_utf8 at =
    reads_as (reads_in_turn reads_sized
    (λ content. reads_judged (chars content) (is_utf8 content) (fault.Text at)))
    (λ bytes text is.
    let one = alone bytes is in
    (one.0, one.1, record { utf8 = one.2.0; characters = one.2.1 }))
    (λ bytes text is. added bytes (is.0, is.1, (is.2.utf8, is.2.characters)))

-- bytes that are a text of the character set
abbrev IsCoded : ℕ → List ℕ → List ℕ → Type 0
IsCoded charset bytes text = Sized (λ content. (content ≡ text) × IsCodedText charset content) bytes

-- a string of a character set that is read
reads_text : (charset at : ℕ) (set : Charset) → charset_of charset ≡ Some set
    → Reads (in_turn sized_at (λ content. judged (coded_text set at content))) (IsCoded charset)
    (RefusesText (is_text set) (fault.Text at))
unfolding coded_text
reads_text charset at set known =
    reads_as (reads_in_turn reads_sized
    (λ content. reads_judged content (is_text set content) (fault.Text at)))
    (λ bytes text is.
    let one = alone bytes is in
    (one.0, one.1, (sym one.2.1, record { set = set; known = known; fits = one.2.0 })))
    (λ bytes text is.
    let same : is.2.1.set ≡ set = some_same is.2.1.set set (sym is.2.1.known ∙ known) in
    added bytes (
      is.0,
      is.1,
      (subst (λ (s : Charset). is_text s is.0 ≡ true) same is.2.1.fits, sym is.2.0),
    ))

-- ---- constants

-- a string of any character set
reads_coded : (charset at : ℕ) (set : Option Charset) → charset_of charset ≡ set
    → Reads (coded_at at set) (Made Coded (IsCoded charset)) (RefusesCoded at set)
unfolding coded_at
reads_coded charset at None known =
    reads_as (reads_failing (fault.Charset at)) (λ bytes c is. absurd is)
    (λ bytes c is. absurd (cc (sym is.1.2.1.known ∙ known)))
reads_coded charset at (Some set) known = reads_made (reads_text charset at set known) Coded

-- so many bytes, of which a value is made
reads_bits : {N : Type 0} (size : ℕ) (of : List ℕ → N) (make : N → Constant)
    → Reads (made (λ value. make (of value)) (taken_at size))
    (Made make (λ bytes n. IsBits size (λ value. n ≡ of value) bytes)) (LacksBytes size)
reads_bits size of make =
    reads_as (reads_made (reads_taken size) (λ value. make (of value)))
    (λ bytes c is. (
      of is.0,
      (ap (λ (l : List ℕ). length l) is.1.0 ∙ is.1.1, ap of (sym is.1.0)),
      is.2,
    ))
    (λ bytes c is. (bytes, (refl, is.1.0), is.2 ∙ ap make is.1.1))

-- what follows the first byte of a constant
abbrev IsValue : ℕ → ConstantKind → List ℕ → Constant → Type 0
IsValue charset constant.Int8 =
    Made Int8 (λ bytes n. IsBits 1 (λ value. n ≡ cast_signed w8 (from_be_bytes w8 value)) bytes)
IsValue charset constant.Int16 =
    Made Int16 (λ bytes n. IsBits 2 (λ value. n ≡ cast_signed w16 (from_be_bytes w16 value)) bytes)
IsValue charset constant.Int32 =
    Made Int32 (λ bytes n. IsBits 4 (λ value. n ≡ cast_signed w32 (from_be_bytes w32 value)) bytes)
IsValue charset constant.Float =
    Made Float (λ bytes n. IsBits 4 (λ value. n ≡ from_be_bytes w32 value) bytes)
IsValue charset constant.Utf8 =
    Made Utf8 (λ bytes text. Sized (λ content. IsUtf8Text content text) bytes)
IsValue charset constant.Empty = λ bytes c. (bytes ≡ []) × (c ≡ Empty)
IsValue charset constant.Coded = Made Coded (IsCoded charset)

-- what follows any first byte
reads_value : (charset at : ℕ) (kind : Option ConstantKind)
    → Reads (value_by (charset_of charset) at kind) (IsBy (IsValue charset) kind)
    (RefusesValue charset at kind)
unfolding value_at utf8_at
reads_value charset at None = reads_failing (fault.ConstantKind at)
reads_value charset at (Some constant.Int8) =
    reads_bits 1 (λ value. cast_signed w8 (from_be_bytes w8 value)) Int8
reads_value charset at (Some constant.Int16) =
    reads_bits 2 (λ value. cast_signed w16 (from_be_bytes w16 value)) Int16
reads_value charset at (Some constant.Int32) =
    reads_bits 4 (λ value. cast_signed w32 (from_be_bytes w32 value)) Int32
reads_value charset at (Some constant.Float) = reads_bits 4 (from_be_bytes w32) Float
reads_value charset at (Some constant.Utf8) = reads_made (reads_utf8 at) Utf8
reads_value charset at (Some constant.Empty) = reads_given Empty
reads_value charset at (Some constant.Coded) = reads_coded charset at (charset_of charset) refl

-- the byte of a kind of constants
abbrev constant_code : ConstantKind → ℕ
constant_code constant.Int8 = INT8
constant_code constant.Int16 = INT16
constant_code constant.Int32 = INT32
constant_code constant.Float = FLOAT
constant_code constant.Utf8 = UTF8
constant_code constant.Empty = EMPTY
constant_code constant.Coded = CODED

-- the kind tells its byte
code-constant_kind : (byte : ℕ) (kind : ConstantKind) → constant_kind byte ≡ Some kind
    → byte ≡ constant_code kind
code-constant_kind byte constant.Int8 e = grind (arith, nat_tests)
code-constant_kind byte constant.Int16 e = grind (arith, nat_tests)
code-constant_kind byte constant.Int32 e = grind (arith, nat_tests)
code-constant_kind byte constant.Float e = grind (arith, nat_tests)
code-constant_kind byte constant.Utf8 e = grind (arith, nat_tests)
code-constant_kind byte constant.Empty e = grind (arith, nat_tests)
code-constant_kind byte constant.Coded e = grind (arith, nat_tests)

-- and the byte its kind
constant_kind-code : (kind : ConstantKind) → constant_kind (constant_code kind) ≡ Some kind
constant_kind-code constant.Int8 = refl
constant_kind-code constant.Int16 = refl
constant_kind-code constant.Int32 = refl
constant_kind-code constant.Float = refl
constant_kind-code constant.Utf8 = refl
constant_kind-code constant.Empty = refl
constant_kind-code constant.Coded = refl

-- a byte of a kind, and a value after it
abbrev IsOfKind : ℕ → List ℕ → Constant → Type 0
IsOfKind charset bytes c =
    (kind : ConstantKind) × After (constant_code kind) (λ l. IsValue charset kind l c) bytes

-- are a constant
valued : (charset : ℕ) (bytes : List ℕ) (c : Constant) → IsOfKind charset bytes c
    → IsConstant charset bytes c
valued charset bytes c (constant.Int8, (back, spelled, (n, is, same))) =
    subst (IsConstant charset bytes) (sym same) (back, spelled, is)
valued charset bytes c (constant.Int16, (back, spelled, (n, is, same))) =
    subst (IsConstant charset bytes) (sym same) (back, spelled, is)
valued charset bytes c (constant.Int32, (back, spelled, (n, is, same))) =
    subst (IsConstant charset bytes) (sym same) (back, spelled, is)
valued charset bytes c (constant.Float, (back, spelled, (n, is, same))) =
    subst (IsConstant charset bytes) (sym same) (back, spelled, is)
valued charset bytes c (constant.Utf8, (back, spelled, (text, is, same))) =
    subst (IsConstant charset bytes) (sym same) (back, spelled, is)
valued charset bytes c (constant.Empty, (back, spelled, (none, same))) =
    subst (IsConstant charset bytes) (sym same) (spelled ∙ ap (λ (l : List ℕ). EMPTY ∷ l) none)
valued charset bytes c (constant.Coded, (back, spelled, (text, is, same))) =
    subst (IsConstant charset bytes) (sym same) (back, spelled, is)

-- each constant is so
begun : (charset : ℕ) (bytes : List ℕ) (c : Constant) → IsConstant charset bytes c
    → IsOfKind charset bytes c
begun charset bytes (Int8 n) (back, spelled, is) =
    (constant.Int8, (back, spelled, (n, is, refl)))
begun charset bytes (Int16 n) (back, spelled, is) =
    (constant.Int16, (back, spelled, (n, is, refl)))
begun charset bytes (Int32 n) (back, spelled, is) =
    (constant.Int32, (back, spelled, (n, is, refl)))
begun charset bytes (Float n) (back, spelled, is) =
    (constant.Float, (back, spelled, (n, is, refl)))
begun charset bytes (Utf8 text) (back, spelled, is) =
    (constant.Utf8, (back, spelled, (text, is, refl)))
begun charset bytes Empty is = (constant.Empty, ([], is, (refl, refl)))
begun charset bytes (Coded text) (back, spelled, is) =
    (constant.Coded, (back, spelled, (text, is, refl)))

-- one constant
reads_constant : (charset : ℕ)
    → Reads (constant_at (charset_of charset)) (IsConstant charset) (RefusesConstant charset)
unfolding constant_at
reads_constant charset =
    reads_as (reads_kind (IsValue charset) constant_kind constant_code code-constant_kind
    constant_kind-code fault.Short (reads_value charset)) (valued charset) (begun charset)

-- so many constants of a pool
abbrev IsPool : ℕ → List ℕ → ℕ × List Constant → Type 0
IsPool count l pool = IsRow (IsConstant pool.0) l pool.1 × (length pool.1 ≡ count)

-- the pool of constants
pub reads_constants :
    Reads constants_at (λ bytes pool. AreConstants bytes pool.0 pool.1) RefusesConstants
unfolding constants_at
reads_constants =
    reads_known reads_number (λ count.
    reads_known reads_number (λ charset.
    reads_made (reads_row (reads_constant charset) count) (λ constants. (charset, constants)))
    (λ pool. pool.0) (λ charset l pool is.
    subst (λ (p : ℕ × List Constant). (p.0 ≡ charset) × IsPool count l p) (sym is.2) (refl, is.1))
    (λ l pool is. (pool.1, is, refl)))
    (λ pool. length pool.1)
    (λ count l pool is. (is.second.1, parts_of is is.first is.second.0))
    (λ l pool is. parts_of is is.first (is.second, refl))

-- ---- pragmas

-- two numbers
reads_pair : Reads pair_at (λ bytes pair. IsPair bytes pair.0 pair.1) RefusesPair
unfolding pair_at
reads_pair =
    reads_known reads_number (λ one. reads_made reads_number (λ two. (one, two))) (λ pair. pair.0)
    (λ one l pair is.
    subst (λ (p : ℕ × ℕ). (p.0 ≡ one) × IsMb l p.1) (sym is.2) (refl, is.1))
    (λ l pair is. (pair.1, is, refl))

-- what follows the first byte of a pragma
abbrev IsIndexes : PragmaKind → List ℕ → Pragma → Type 0
IsIndexes pragma.Domain = Made Domain IsMb
IsIndexes pragma.Path = Made Path IsMb
IsIndexes pragma.Property =
    Made (λ pair. Property pair.0 pair.1) (λ bytes (pair : ℕ × ℕ). IsPair bytes pair.0 pair.1)
IsIndexes pragma.Scheme = λ bytes p.
    Then IsMb (λ name l. Made (λ pair. Scheme name pair.0 pair.1)
    (λ back (pair : ℕ × ℕ). IsPair back pair.0 pair.1) l p) bytes

-- what follows any first byte
reads_indexes : (at : ℕ) (kind : Option PragmaKind)
    → Reads (indexes_by at kind) (IsBy IsIndexes kind) (RefusesIndexes at kind)
unfolding indexes_at
reads_indexes at None = reads_failing (fault.PragmaKind at)
reads_indexes at (Some pragma.Domain) = reads_made reads_number Domain
reads_indexes at (Some pragma.Path) = reads_made reads_number Path
reads_indexes at (Some pragma.Property) = reads_made reads_pair (λ pair. Property pair.0 pair.1)
reads_indexes at (Some pragma.Scheme) =
    reads_in_turn reads_number (λ name. reads_made reads_pair (λ pair. Scheme name pair.0 pair.1))

-- the byte of a kind of pragmas
abbrev pragma_code : PragmaKind → ℕ
pragma_code pragma.Domain = DOMAIN
pragma_code pragma.Path = PATH
pragma_code pragma.Property = PROPERTY
pragma_code pragma.Scheme = SCHEME

-- the kind tells its byte
code-pragma_kind : (byte : ℕ) (kind : PragmaKind) → pragma_kind byte ≡ Some kind
    → byte ≡ pragma_code kind
code-pragma_kind byte pragma.Domain e = grind (arith, nat_tests)
code-pragma_kind byte pragma.Path e = grind (arith, nat_tests)
code-pragma_kind byte pragma.Property e = grind (arith, nat_tests)
code-pragma_kind byte pragma.Scheme e = grind (arith, nat_tests)

-- and the byte its kind
pragma_kind-code : (kind : PragmaKind) → pragma_kind (pragma_code kind) ≡ Some kind
pragma_kind-code pragma.Domain = refl
pragma_kind-code pragma.Path = refl
pragma_kind-code pragma.Property = refl
pragma_kind-code pragma.Scheme = refl

-- a byte of a kind, and indexes after it
abbrev IsIndexed : List ℕ → Pragma → Type 0
IsIndexed bytes p = (kind : PragmaKind) × After (pragma_code kind) (λ l. IsIndexes kind l p) bytes

-- are a pragma
indexed : (bytes : List ℕ) (p : Pragma) → IsIndexed bytes p → IsPragma bytes p
indexed bytes p (pragma.Domain, (back, spelled, (text, is, same))) =
    subst (IsPragma bytes) (sym same) (back, spelled, is)
indexed bytes p (pragma.Path, (back, spelled, (text, is, same))) =
    subst (IsPragma bytes) (sym same) (back, spelled, is)
indexed bytes p (pragma.Property, (back, spelled, (pair, is, same))) =
    subst (IsPragma bytes) (sym same) (back, spelled, is)
indexed bytes p (pragma.Scheme, (back, spelled, (name, is))) =
    subst (IsPragma bytes) (sym is.second.2) (back, spelled, parts_of is is.first is.second.1)

-- each pragma is so
led : (bytes : List ℕ) (p : Pragma) → IsPragma bytes p → IsIndexed bytes p
led bytes (Domain text) (back, spelled, is) = (pragma.Domain, (back, spelled, (text, is, refl)))
led bytes (Path text) (back, spelled, is) = (pragma.Path, (back, spelled, (text, is, refl)))
led bytes (Property name content) (back, spelled, is) =
    (pragma.Property, (back, spelled, ((name, content), is, refl)))
led bytes (Scheme name content scheme) (back, spelled, is) = (
  pragma.Scheme,
  (back, spelled, (name, parts_of is is.first ((content, scheme), is.second, refl))),
)

-- one pragma
reads_pragma : Reads pragma_at IsPragma RefusesPragma
unfolding pragma_at
reads_pragma =
    reads_as (reads_kind IsIndexes pragma_kind pragma_code code-pragma_kind pragma_kind-code
    fault.Short reads_indexes) indexed led

-- the pragmas
pub reads_pragmas : Reads pragmas_at (IsCounted IsPragma) (RefusesCounted IsPragma RefusesPragma)
unfolding pragmas_at
reads_pragmas =
    reads_known reads_number (reads_row reads_pragma) (λ ps. length ps)
    (λ count l ps is. (is.1, is.0)) (λ l ps is. (is, refl))

-- ---- functions

-- a name after the index of its function
abbrev IsNameText : List ℕ → List ℕ → Type 0
IsNameText bytes text =
    (content : List ℕ) × (bytes ≡ length content ∷ content) × IsUtf8Text content text

-- the text of a name
reads_name_text : (at : ℕ) → Reads (name_text_at at) IsNameText (RefusesNameText at)
unfolding name_text_at utf8_text
reads_name_text at =
    reads_as (reads_in_turn reads_byte (λ size.
    reads_in_turn (reads_taken size) (λ content.
    reads_judged (chars content) (is_utf8 content) (fault.Text at))))
    (λ bytes text is.
    let first = headed is.1 in
    let one = alone first.0 first.2 in (
      one.0,
      first.1 ∙ ap (λ (l : List ℕ). is.0 ∷ l) one.1.0 ∙ ap (λ (n : ℕ). n ∷ one.0) (sym one.1.1),
      record { utf8 = one.2.0; characters = one.2.1 },
    ))
    (λ bytes text is. (
      length is.0,
      behind (is.0, is.1, added is.0 (is.0, (refl, refl), (is.2.utf8, is.2.characters))),
    ))

-- the name of one of so many functions
reads_name : (count : ℕ) → Reads (name_at count) (IsName count) (RefusesName count)
unfolding name_at
reads_name count =
    reads_as (reads_here (λ at.
    reads_in_turn reads_byte (λ index.
    reads_unless (reads_made (reads_name_text at) (λ text. (index, text))) (ltb index count)
    (fault.NameIndex at))))
    (λ bytes name is.
    let first = headed is.1 in
    let inner = first.2.1 in
    subst (IsName count bytes) (sym inner.2) (record {
      content = inner.1.0;
      spelled = first.1 ∙ ap (λ (l : List ℕ). is.0 ∷ l) inner.1.1;
      within = ltb-true is.0 count first.2.0;
      text = inner.1.2;
    }))
    (λ bytes name is. (
      name.0,
      behind (
        length is.content ∷ is.content,
        is.spelled,
        (lt-ltb name.0 count is.within, (name.1, (is.content, refl, is.text), refl)),
      ),
    ))

-- one function
reads_function : Reads function_at IsFunction RefusesFunction
unfolding function_at
reads_function =
    reads_as (reads_in_turn reads_byte (λ args.
    reads_in_turn reads_byte (λ locals.
    reads_made reads_sized (λ code. record { args = args; locals = locals; code = code }))))
    (λ bytes f is.
    let first = headed is.1 in
    let second = headed first.2.1 in
    subst (IsFunction bytes) (sym second.2.2) (record {
      rest = second.0;
      spelled = first.1 ∙ ap (λ (l : List ℕ). is.0 ∷ l) second.1;
      code = second.2.1;
    }))
    (λ bytes f is. (
      f.args,
      behind (
        f.locals ∷ is.rest,
        is.spelled,
        (f.locals, behind (is.rest, refl, (f.code, is.code, refl))),
      ),
    ))

-- names and functions
abbrev NamedFunctions : Type 0
NamedFunctions = List (ℕ × List ℕ) × List Code

-- the names and so many functions, after the number of functions
record AreNamed (count : ℕ) (bytes : List ℕ) (found : NamedFunctions) : Type 0 where
  rows : List ℕ
  spelled : bytes ≡ length found.0 ∷ rows
  each : InTurn (λ front. IsRow (IsName count) front found.0)
      (λ back. IsRow IsFunction back found.1) rows
  so_many : length found.1 ≡ count

-- the names, and so many functions
reads_named_functions : (count : ℕ)
    → Reads (named_functions_at count) (AreNamed count) (RefusesNamesAndFunctions count)
unfolding named_functions_at
reads_named_functions count =
    reads_as (reads_in_turn reads_byte (λ names.
    reads_in_turn (reads_row (reads_name count) names) (λ row.
    reads_made (reads_row reads_function count) (λ functions. (row, functions)))))
    (λ bytes found is.
    let first = headed is.1 in
    let inner = first.2.1 in
    let last = inner.second in
    subst (AreNamed count bytes) (sym last.2) (record {
      rows = first.0;
      spelled = first.1 ∙ ap (λ (n : ℕ). n ∷ first.0) (sym inner.first.1);
      each = parts_of inner inner.first.0 last.1.0;
      so_many = last.1.1;
    }))
    (λ bytes found is.
    let each = is.each in (
      length found.0,
      behind (
        is.rows,
        is.spelled,
        (
          found.0,
          parts_of each (each.first, refl) (found.1, (each.second, is.so_many), refl),
        ),
      ),
    ))

-- the names and functions
pub reads_functions :
    Reads functions_at (λ bytes found. AreFunctions bytes found.0 found.1) RefusesFunctions
unfolding functions_at
reads_functions =
    reads_as (reads_here (λ at.
    reads_in_turn reads_byte (λ count.
    reads_unless (reads_named_functions count) (ltb 0 count) (fault.NoFunction at))))
    (λ bytes found is.
    let first = headed is.1 in
    let named = first.2.1 in
    counted bytes found is.0 named.so_many
    (first.1 ∙ ap (λ (l : List ℕ). is.0 ∷ l) named.spelled) (ltb-true 0 is.0 first.2.0) named.each)
    (λ bytes found is. (
      length found.1,
      behind (
        length found.0 ∷ is.rows,
        is.spelled,
        (
          lt-ltb 0 (length found.1) is.some,
          record { rows = is.rows; spelled = refl; each = is.each; so_many = refl },
        ),
      ),
    ))
  where
    counted : (bytes : List ℕ) (found : NamedFunctions) (count : ℕ) → length found.1 ≡ count
        → {rows : List ℕ} → bytes ≡ count ∷ length found.0 ∷ rows → 0 < count
        → InTurn (λ front. IsRow (IsName count) front found.0)
        (λ back. IsRow IsFunction back found.1) rows
        → AreFunctions bytes found.0 found.1
    counted bytes found count so_many {rows} spelled some each = record {
      rows = rows;
      spelled = spelled ∙ ap (λ (n : ℕ). n ∷ length found.0 ∷ rows) (sym so_many);
      some = subst (λ (n : ℕ). 0 < n) (sym so_many) some;
      each =
          subst (λ (n : ℕ). InTurn (λ front. IsRow (IsName n) front found.0)
          (λ back. IsRow IsFunction back found.1) rows) (sym so_many) each;
    }

-- ---- units

-- a unit of this version
pub record IsBodyOf (version : ℕ) (bytes : List ℕ) (unit : Unit) : Type 0 where
  pub version_is : unit.version ≡ version
  pub body : IsBody bytes unit

-- a unit by its parts
abbrev unit_of : ℕ → ℕ × List Constant → List Pragma → NamedFunctions → Unit
unit_of version pool pragmas functions = record {
  version = version;
  charset = pool.0;
  constants = pool.1;
  pragmas = pragmas;
  names = functions.0;
  functions = functions.1;
}

-- the parts of a unit
pub reads_body : (version : ℕ) → Reads (body_at version) (IsBodyOf version) RefusesBody
unfolding body_at
reads_body version =
    reads_as (reads_in_turn reads_constants (λ pool.
    reads_in_turn reads_pragmas (λ pragmas.
    reads_made reads_functions (unit_of version pool pragmas))))
    (λ bytes unit is.
    let inner = is.1.second.1 in
    let last = inner.second in
    subst (IsBodyOf version bytes) (sym last.2) (record {
      version_is = refl;
      body = parts_of is.1 is.1.first (parts_of inner inner.first last.1);
    }))
    (λ bytes unit is.
    let body = is.body in
    let inner = body.second in (
      (unit.charset, unit.constants),
      parts_of body body.first (
        unit.pragmas,
        parts_of inner inner.first (
          (unit.names, unit.functions),
          inner.second,
          ap (λ (v : ℕ). unit_of v (unit.charset, unit.constants) unit.pragmas
              (unit.names, unit.functions)) is.version_is,
        ),
      ),
    ))
