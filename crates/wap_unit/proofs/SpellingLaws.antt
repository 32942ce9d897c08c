-- What is written for a unit is that unit, is no longer than what it was read from, and can be
-- written.
use Rattle.std.proofs.Common.{◌≡◌, ℕ, ◌/◌, ◌%◌, ◌^◌, ◌<◌, ◌≤◌, List, [], ◌∷◌, ◌++◌, length, refl}
use Rattle.std.proofs.Common.{sym, ap, subst, ◌∙◌, arith}
use Rattle.std.specs.Prelude.{⊤, encode_utf8_all}
use Rattle.std.specs.List.{flat_map}
use Rattle.std.specs.Int.{w8, w16, w32, cast_signed, cast_unsigned, from_be_bytes, to_be_bytes}
use Rattle.std.proofs.lemmas.Int.{of_z-to_z}
use Rattle.std.proofs.lemmas.Nat.{be_bytes_2, be_bytes_4}
use Rattle.std.proofs.lemmas.Str.{IsUtf8-from_is_utf8, encodes-chars}
use Rattle.wap_base.specs.Numbers.{carried, mb_spelling}
use Rattle.wap_base.proofs.NumberSpelling.{IsShortest-mb_spelling}
use Rattle.wap_unit.specs.declared.unit.Unit.{Unit}
use Rattle.wap_unit.specs.declared.unit.Constant.{Constant}
use Rattle.wap_unit.specs.declared.unit.Constant.TheVariants.{Int8, Int16, Int32, Float, Utf8}
use Rattle.wap_unit.specs.declared.unit.Constant.TheVariants.{Empty, Coded}
use Rattle.wap_unit.specs.declared.unit.Pragma.{Pragma}
use Rattle.wap_unit.specs.declared.unit.Pragma.TheVariants.{Domain, Path, Property, Scheme}
use Rattle.wap_unit.specs.declared.unit.Code.{Code}
use Rattle.wap_unit.specs.declared.kind.TheConstants.{INT8, INT16, INT32, FLOAT, UTF8, CODED}
use Rattle.wap_unit.specs.declared.kind.TheConstants.{DOMAIN, PATH, PROPERTY, SCHEME}
use Rattle.wap_base.specs.formats.Sequences.{InTurn}
use Rattle.wap_unit.specs.Sequences.{IsSized, IsCounted}
use Rattle.wap_unit.proofs.Writers.{AreBytes, Written, Writes, bytes_back, bytes_both, byte_below}
use Rattle.wap_unit.proofs.Writers.{written_same, written_behind, carried_bytes, writes_number}
use Rattle.wap_unit.proofs.Writers.{writes_row, writes_both, writes_of, writes_after, writes_sized}
use Rattle.wap_unit.proofs.Writers.{writes_counted}
use Rattle.wap_unit.specs.Units.{IsUtf8Text, IsConstant, AreConstants, IsPair, IsPragma, IsName}
use Rattle.wap_unit.specs.Units.{IsFunction, AreFunctions, IsHead, IsUnit}
use Rattle.wap_unit.specs.Spelling.{sized, counted, constant_spelling, pragma_spelling}
use Rattle.wap_unit.specs.Spelling.{name_spelling, function_spelling, constants_spelling}
use Rattle.wap_unit.specs.Spelling.{functions_spelling, body_spelling, spelling}
use Rattle.wap_unit.specs.inside.Fitting.{FitsConstant, FitsConstants, FitsName}
use Rattle.wap_unit.specs.inside.Fitting.{FitsFunction, FitsFunctions, FitsUnit}

-- ---- texts

-- the bytes of a text are those from which it was read
utf8_same : (content text : List ℕ) → IsUtf8Text content text → encode_utf8_all text ≡ content
utf8_same content text is =
    ap encode_utf8_all is.characters ∙ encodes-chars content (IsUtf8-from_is_utf8 content is.utf8)

-- ---- constants

-- what follows the byte of a kind is bytes
behind_kind : (bytes rest : List ℕ) (kind : ℕ) → bytes ≡ kind ∷ rest → AreBytes bytes
    → AreBytes rest
behind_kind bytes rest kind spelled are = (subst AreBytes spelled are).1

-- a number of one byte is that byte
one_byte : (value : List ℕ) → length value ≡ 1 → AreBytes value
    → to_be_bytes w8 (from_be_bytes w8 value) ≡ value
one_byte [] long are = absurd (omega arith)
one_byte (byte ∷ []) long are =
    let below : byte < 256 = are.0 in
    let same : byte % 256 ≡ byte = omega arith in
    ap (λ (b : ℕ). b ∷ []) same
one_byte (byte ∷ next ∷ bytes) long are = absurd (omega arith)

-- one byte is a number below 2^8
below_8 : (value : List ℕ) → AreBytes value → from_be_bytes w8 value < 2 ^ 8
below_8 value are = byte_below value are 0

-- two bytes are a number below 2^16
below_16 : (value : List ℕ) → AreBytes value → from_be_bytes w16 value < 2 ^ 16
below_16 value are = let fits = byte_below value are in omega (arith, fits 0, fits 1)

-- four bytes are a number below 2^32
below_32 : (value : List ℕ) → AreBytes value → from_be_bytes w32 value < 2 ^ 32
below_32 value are =
    let fits = byte_below value are in
    omega (arith, fits 0, fits 1, fits 2, fits 3)

-- one byte is read and written as it was
value_8 : (value : List ℕ) → length value ≡ 1 → AreBytes value
    → to_be_bytes w8 (cast_unsigned w8 (cast_signed w8 (from_be_bytes w8 value))) ≡ value
value_8 value long are =
    ap (to_be_bytes w8) (of_z-to_z w8 (from_be_bytes w8 value) (below_8 value are))
    ∙ one_byte value long are

-- so are two
value_16 : (value : List ℕ) → length value ≡ 2 → AreBytes value
    → to_be_bytes w16 (cast_unsigned w16 (cast_signed w16 (from_be_bytes w16 value))) ≡ value
value_16 value long are =
    ap (to_be_bytes w16) (of_z-to_z w16 (from_be_bytes w16 value) (below_16 value are))
    ∙ be_bytes_2 value (from_be_bytes w16 value) long (byte_below value are) refl

-- so are four
value_32 : (value : List ℕ) → length value ≡ 4 → AreBytes value
    → to_be_bytes w32 (cast_unsigned w32 (cast_signed w32 (from_be_bytes w32 value))) ≡ value
value_32 value long are =
    ap (to_be_bytes w32) (of_z-to_z w32 (from_be_bytes w32 value) (below_32 value are))
    ∙ be_bytes_4 value (from_be_bytes w32 value) long (byte_below value are) refl

-- a constant of fixed length is written as it was read
constant_same : (charset : ℕ) (bytes : List ℕ) (c : Constant) → AreBytes bytes
    → IsConstant charset bytes c → constant_spelling c ≡ bytes
    → IsConstant charset (constant_spelling c) c × Written bytes (constant_spelling c)
constant_same charset bytes c are is same = (
  subst (λ (l : List ℕ). IsConstant charset l c) (sym same) is,
  subst (Written bytes) (sym same) (written_same bytes are),
)

-- a byte and a value that is written as it was
fixed : (kind : ℕ) (bytes value again : List ℕ) → bytes ≡ kind ∷ value → again ≡ value
    → kind ∷ again ≡ bytes
fixed kind bytes value again spelled same = ap (λ (l : List ℕ). kind ∷ l) same ∙ sym spelled

-- what is written for a constant is the constant
constant_law : (charset : ℕ) (bytes : List ℕ) (c : Constant) → AreBytes bytes
    → IsConstant charset bytes c
    → IsConstant charset (constant_spelling c) c × Written bytes (constant_spelling c)
constant_law charset bytes (Int8 number) are is =
    constant_same charset bytes (Int8 number) are is
    (fixed INT8 bytes is.0 (to_be_bytes w8 (cast_unsigned w8 number)) is.1
    (ap (λ n. to_be_bytes w8 (cast_unsigned w8 n)) is.2.1
    ∙ value_8 is.0 is.2.0 (behind_kind bytes is.0 INT8 is.1 are)))
constant_law charset bytes (Int16 number) are is =
    constant_same charset bytes (Int16 number) are is
    (fixed INT16 bytes is.0 (to_be_bytes w16 (cast_unsigned w16 number)) is.1
    (ap (λ n. to_be_bytes w16 (cast_unsigned w16 n)) is.2.1
    ∙ value_16 is.0 is.2.0 (behind_kind bytes is.0 INT16 is.1 are)))
constant_law charset bytes (Int32 number) are is =
    constant_same charset bytes (Int32 number) are is
    (fixed INT32 bytes is.0 (to_be_bytes w32 (cast_unsigned w32 number)) is.1
    (ap (λ n. to_be_bytes w32 (cast_unsigned w32 n)) is.2.1
    ∙ value_32 is.0 is.2.0 (behind_kind bytes is.0 INT32 is.1 are)))
constant_law charset bytes (Float number) are is =
    constant_same charset bytes (Float number) are is
    (fixed FLOAT bytes is.0 (to_be_bytes w32 number) is.1 (be_bytes_4 is.0 number is.2.0
    (byte_below is.0 (behind_kind bytes is.0 FLOAT is.1 are)) is.2.1))
constant_law charset bytes (Utf8 text) are is =
    let rest : AreBytes is.0 = behind_kind bytes is.0 UTF8 is.1 are in
    let content : List ℕ = is.2.0 in
    let same = utf8_same content text is.2.2 in
    let sized_is : IsSized (sized (encode_utf8_all text)) content =
    subst (λ (l : List ℕ). IsSized (sized l) content) (sym same)
    (writes_sized.is is.0 content rest is.2.1) in
    let written : Written is.0 (sized (encode_utf8_all text)) =
    subst (λ (l : List ℕ). Written is.0 (sized l)) (sym same)
    (writes_sized.written is.0 content rest is.2.1) in (
      (sized (encode_utf8_all text), refl, (content, sized_is, is.2.2)),
      written_behind UTF8 bytes (sized (encode_utf8_all text)) is.0 is.1 are written,
    )
constant_law charset bytes Empty are is = constant_same charset bytes Empty are is (sym is)
constant_law charset bytes (Coded text) are is =
    let rest : AreBytes is.0 = behind_kind bytes is.0 CODED is.1 are in
    let content : List ℕ = is.2.0 in
    let same : content ≡ text = is.2.2.0 in
    let sized_is : IsSized (sized text) content =
    subst (λ (l : List ℕ). IsSized (sized l) content) same
    (writes_sized.is is.0 content rest is.2.1) in
    let written : Written is.0 (sized text) =
    subst (λ (l : List ℕ). Written is.0 (sized l)) same
    (writes_sized.written is.0 content rest is.2.1) in (
      (sized text, refl, (content, sized_is, is.2.2)),
      written_behind CODED bytes (sized text) is.0 is.1 are written,
    )

-- the length of a constant can be written
constant_fits : (charset : ℕ) (bytes : List ℕ) (c : Constant) → AreBytes bytes
    → IsConstant charset bytes c → FitsConstant c
constant_fits charset bytes (Utf8 text) are is =
    subst (λ (l : List ℕ). length l < 2 ^ 32) (sym (utf8_same is.2.0 text is.2.2)) is.2.1.first.fits
constant_fits charset bytes (Coded text) are is =
    subst (λ (l : List ℕ). length l < 2 ^ 32) is.2.2.0 is.2.1.first.fits
constant_fits charset bytes _ are is = tt

-- one constant
writes_constant : (charset : ℕ) → Writes (IsConstant charset) constant_spelling FitsConstant
writes_constant charset = record {
  is = λ bytes c are is. (constant_law charset bytes c are is).0;
  written = λ bytes c are is. (constant_law charset bytes c are is).1;
  fits = constant_fits charset;
}

-- so many constants of a pool whose strings are in this character set
writes_pool : (charset : ℕ) → Writes (λ bytes constants. AreConstants bytes charset constants)
    (constants_spelling charset) FitsConstants
writes_pool charset =
    writes_of (writes_both writes_number (writes_both writes_number
    (writes_row (writes_constant charset)))) (λ constants. (length constants, (charset, constants)))
    (λ constants fits. record { few = fits.0; each = fits.1.1 })

-- ---- pragmas

-- two numbers
writes_pair : Writes (λ bytes (pair : ℕ × ℕ). IsPair bytes pair.0 pair.1)
    (λ pair. mb_spelling pair.0 ++ mb_spelling pair.1)
    (λ pair. (pair.0 < 2 ^ 32) × (pair.1 < 2 ^ 32))
writes_pair = writes_both writes_number writes_number

-- what is written for a pragma is the pragma
pragma_law : (bytes : List ℕ) (p : Pragma) → AreBytes bytes → IsPragma bytes p
    → IsPragma (pragma_spelling p) p × Written bytes (pragma_spelling p)
pragma_law bytes (Domain text) are is =
    let law = writes_after (λ text. DOMAIN) writes_number in
    (law.is bytes text are is, law.written bytes text are is)
pragma_law bytes (Path text) are is =
    let law = writes_after (λ text. PATH) writes_number in
    (law.is bytes text are is, law.written bytes text are is)
pragma_law bytes (Property name content) are is =
    let law = writes_after (λ pair. PROPERTY) writes_pair in
    (law.is bytes (name, content) are is, law.written bytes (name, content) are is)
pragma_law bytes (Scheme name content scheme) are is =
    let law = writes_after (λ names. SCHEME) (writes_both writes_number writes_pair) in
    let names : ℕ × (ℕ × ℕ) = (name, (content, scheme)) in
    (law.is bytes names are is, law.written bytes names are is)

-- one pragma
writes_pragma : Writes IsPragma pragma_spelling (λ p. ⊤)
writes_pragma = record {
  is = λ bytes p are is. (pragma_law bytes p are is).0;
  written = λ bytes p are is. (pragma_law bytes p are is).1;
  fits = λ bytes p are is. tt;
}

-- ---- functions

-- the index of a function, and its name
abbrev Name : Type 0
Name = ℕ × List ℕ

-- a name is written as it was
name_same : (count : ℕ) (bytes : List ℕ) (name : Name) → (is : IsName count bytes name)
    → name_spelling name ≡ bytes
name_same count bytes name is =
    ap (λ (l : List ℕ). name.0 ∷ length l ∷ l) (utf8_same is.content name.1 is.text)
    ∙ sym is.spelled

-- the name of one of so many functions
writes_name : (count : ℕ) → Writes (IsName count) name_spelling FitsName
writes_name count = record {
  is =
      λ bytes name are is.
      subst (λ (l : List ℕ). IsName count l name) (sym (name_same count bytes name is)) is;
  written =
      λ bytes name are is.
      subst (Written bytes) (sym (name_same count bytes name is)) (written_same bytes are);
  fits = λ bytes name are is.
      let spelled : AreBytes (name.0 ∷ length is.content ∷ is.content) =
      subst AreBytes is.spelled are in
      let short : length is.content < 256 = spelled.1.0 in
      subst (λ (l : List ℕ). length l < 2 ^ 8) (sym (utf8_same is.content name.1 is.text)) short;
}

-- what is written for a function is the function
function_law : (bytes : List ℕ) (f : Code) → AreBytes bytes → IsFunction bytes f
    → IsFunction (function_spelling f) f × Written bytes (function_spelling f) × FitsFunction f
function_law bytes f are is =
    let spelled : AreBytes (f.args ∷ f.locals ∷ is.rest) = subst AreBytes is.spelled are in
    let rest : AreBytes is.rest = spelled.1.1 in
    let again = writes_sized.is is.rest f.code rest is.code in
    let written = writes_sized.written is.rest f.code rest is.code in (
      record { rest = sized f.code; spelled = refl; code = again },
      written_behind f.args bytes (f.locals ∷ sized f.code) (f.locals ∷ is.rest) is.spelled are
          (written_behind f.locals (f.locals ∷ is.rest)
          (sized f.code) is.rest refl spelled.1 written),
      writes_sized.fits is.rest f.code rest is.code,
    )

-- one function
writes_function : Writes IsFunction function_spelling FitsFunction
writes_function = record {
  is = λ bytes f are is. (function_law bytes f are is).0;
  written = λ bytes f are is. (function_law bytes f are is).1;
  fits = λ bytes f are is. (function_law bytes f are is).2;
}

-- names and functions
abbrev Named : Type 0
Named = List Name × List Code

-- what is written for names and functions is those
functions_law : (bytes : List ℕ) (found : Named) → AreBytes bytes
    → AreFunctions bytes found.0 found.1
    → AreFunctions (functions_spelling found.0 found.1) found.0 found.1
    × Written bytes (functions_spelling found.0 found.1) × FitsFunctions found.0 found.1
functions_law bytes found are is =
    let count : ℕ = length found.1 in
    let names : ℕ = length found.0 in
    let spelled : AreBytes (count ∷ names ∷ is.rows) = subst AreBytes is.spelled are in
    let rows : AreBytes is.rows = spelled.1.1 in
    let law = writes_both (writes_row (writes_name count)) (writes_row writes_function) in
    let written = law.written is.rows found rows is.each in
    let fits = law.fits is.rows found rows is.each in
    let spelling : List ℕ =
    flat_map name_spelling found.0 ++ flat_map function_spelling found.1 in
    let few : count < 256 = spelled.0 in
    let few_names : names < 256 = spelled.1.0 in (
      record {
        rows = spelling;
        spelled = refl;
        some = is.some;
        each = law.is is.rows found rows is.each;
      },
      written_behind count bytes (names ∷ spelling) (names ∷ is.rows) is.spelled are
          (written_behind names (names ∷ is.rows) spelling is.rows refl spelled.1 written),
      record { few_names = few_names; few = few; each_name = fits.0; each = fits.1 },
    )

-- names and functions
writes_functions : Writes (λ bytes (found : Named). AreFunctions bytes found.0 found.1)
    (λ found. functions_spelling found.0 found.1) (λ found. FitsFunctions found.0 found.1)
writes_functions = record {
  is = λ bytes found are is. (functions_law bytes found are is).0;
  written = λ bytes found are is. (functions_law bytes found are is).1;
  fits = λ bytes found are is. (functions_law bytes found are is).2;
}

-- ---- units

-- the parts of a unit
abbrev Body : Type 0
Body = List Constant × (List Pragma × Named)

-- the parts of a unit in this character set
writes_body : (charset : ℕ) → Writes
    (λ bytes (body : Body). InTurn (λ pool. AreConstants pool charset body.0)
    (InTurn (λ front. IsCounted IsPragma front body.1.0)
    (λ back. AreFunctions back body.1.1.0 body.1.1.1)) bytes)
    (λ body. constants_spelling charset body.0
    ++ (counted pragma_spelling body.1.0 ++ functions_spelling body.1.1.0 body.1.1.1))
    (λ body. FitsConstants body.0
    × ((length body.1.0 < 2 ^ 32) × FitsFunctions body.1.1.0 body.1.1.1))
writes_body charset =
    writes_both (writes_pool charset)
    (writes_both (writes_counted writes_pragma) writes_functions)

-- the parts of this unit
abbrev body_of : Unit → Body
body_of unit = (unit.constants, (unit.pragmas, (unit.names, unit.functions)))

-- what follows the head is bytes
body_bytes : (bytes : List ℕ) (version : ℕ) (body : List ℕ) → AreBytes bytes
    → IsHead bytes version body → (version < 256) × AreBytes body
body_bytes bytes version body are head =
    let spelled : AreBytes (version ∷ (head.size ++ body)) = subst AreBytes head.spelled are in
    (spelled.0, bytes_back head.size body spelled.1)

-- each length of a unit that was read can be written
pub unit_fits : (bytes : List ℕ) (unit : Unit) → IsUnit bytes unit → FitsUnit unit
unfolding body_spelling
unit_fits bytes unit is =
    let are = (body_bytes bytes unit.version is.body is.bytes_are is.head).1 in
    let law = writes_body unit.charset in
    let parts = law.fits is.body (body_of unit) are is.body_is in
    let fits : length is.body < 2 ^ 32 = is.head.size_is.fits in
    let short : length (body_spelling unit) ≤ length is.body =
    (law.written is.body (body_of unit) are is.body_is).short in
    record {
      constants = parts.0;
      pragmas = parts.1.0;
      functions = parts.1.1;
      body = omega arith;
    }

-- what is written for a unit that was read is the unit
pub unit_written : (bytes : List ℕ) (unit : Unit) → IsUnit bytes unit → IsUnit (spelling unit) unit
unfolding spelling body_spelling
unit_written bytes unit is =
    let are = body_bytes bytes unit.version is.body is.bytes_are is.head in
    let law = writes_body unit.charset in
    let written = law.written is.body (body_of unit) are.1 is.body_is in
    let fits = (unit_fits bytes unit is).body in
    let size : List ℕ = mb_spelling (length (body_spelling unit)) in
    record {
      bytes_are = (
        are.0,
        bytes_both size (body_spelling unit) (bytes_both
            (carried 4 (length (body_spelling unit) / 128)) (length (body_spelling unit) % 128
            ∷ []) (carried_bytes 4 (length (body_spelling unit) / 128)) (omega arith, tt))
            written.are,
      );
      body = body_spelling unit;
      head = record {
        size = size;
        spelled = refl;
        low = is.head.low;
        size_is = (IsShortest-mb_spelling (length (body_spelling unit)) fits).spells;
      };
      body_is = law.is is.body (body_of unit) are.1 is.body_is;
    }
