-- Parts of a unit that are spelled by bytes, and by how many at most.
use Rattle.std.proofs.Common.{◌≡◌, ℕ, zero, suc, ◌+◌, ◌/◌, ◌%◌, ◌^◌, ◌<◌, ◌≤◌, Bool, true, false}
use Rattle.std.proofs.Common.{cond, eqb, ltb, List, [], ◌∷◌, ◌++◌, length, refl, sym, ap, ◌∙◌}
use Rattle.std.proofs.Common.{arith, pos, negsuc}
use Rattle.std.specs.Prelude.{encode_utf8_all, FitsSigned}
use Rattle.std.specs.List.{flat_map, AllByRecursion, sum_by}
use Rattle.std.specs.Str.{all_scalars}
use Rattle.std.specs.Int.{w8, w16, w32, cast_signed, cast_unsigned, from_be_bytes, to_be_bytes}
use Rattle.std.proofs.Math.Utf8.{encode, scalar}
use Rattle.std.proofs.lemmas.Bool.{ltb-true, and_parts}
use Rattle.std.proofs.Math.Facts.{Fits-of_z}
use Rattle.std.proofs.lemmas.Int.{to_z-of_z}
use Rattle.std.proofs.lemmas.List.{length-append}
use Rattle.std.proofs.lemmas.List.Sums.{sum_by-cons}
use Rattle.std.proofs.lemmas.Nat.{from_be_bytes-to_be_bytes_2, from_be_bytes-to_be_bytes_4}
use Rattle.std.proofs.lemmas.Str.{is_utf8-from_IsUtf8, chars-encodes}
use Rattle.wap_base.specs.Numbers.{IsMb, carried, mb_spelling}
use Rattle.wap_base.proofs.NumberSpelling.{IsShortest-mb_spelling, carried-zero}
use Rattle.wap_unit.specs.declared.unit.Constant.{Constant}
use Rattle.wap_unit.specs.declared.unit.Constant.TheVariants.{Int8, Int16, Int32}
use Rattle.wap_unit.specs.declared.unit.Pragma.{Pragma}
use Rattle.wap_unit.specs.declared.unit.Pragma.TheVariants.{Domain, Path, Property, Scheme}
use Rattle.wap_unit.specs.declared.unit.Code.{Code}
use Rattle.wap_grammar.specs.declared.program.expression.Literal.{Literal}
use Rattle.wap_grammar.specs.declared.program.expression.Literal.TheVariants.{Int, Str}
use Rattle.wap_meaning.specs.coding.Constants.{integer_constant, constant_for}
use Rattle.wap_compiled_laws.proofs.SourceSizes.Sizes.{text_size, CanBeSaid}
use Rattle.wap_unit.specs.Sequences.{InTurn, After, IsSized, IsRow}
use Rattle.wap_unit.specs.Units.{IsUtf8Text, IsConstant, IsPair, IsPragma, IsName, IsFunction}
use Rattle.wap_unit.specs.Spelling.{sized, constant_spelling, pragma_spelling, name_spelling}
use Rattle.wap_unit.specs.Spelling.{function_spelling}
use Rattle.std.proofs.lemmas.Grind.{common_steps}

-- numbers below 256
abbrev pub AreBytes : List ℕ → Type 0
AreBytes bytes = AllByRecursion (λ byte. byte < 256) bytes

-- bytes after bytes are bytes
pub bytes_both : (a b : List ℕ) → AreBytes a → AreBytes b → AreBytes (a ++ b)
bytes_both [] b ones twos = twos
bytes_both (x ∷ a) b ones twos = (ones.0, bytes_both a b ones.1 twos)

-- bytes that spell something, so many at most
pub record Written (Is : List ℕ → Type 0) (bytes : List ℕ) (most : ℕ) : Type 0 where
  pub is : Is bytes
  pub are : AreBytes bytes
  pub short : length bytes ≤ most

-- one part, and what follows it
pub in_turn : {First Second : List ℕ → Type 0} {a b : List ℕ} {m n : ℕ} → Written First a m
    → Written Second b n → Written (InTurn First Second) (a ++ b) (m + n)
in_turn {a} {b} one two = record {
  is = record { front = a; back = b; split = refl; first = one.is; second = two.is };
  are = bytes_both a b one.are two.are;
  short = omega (arith, length-append a b, one.short, two.short);
}

-- a byte, and what follows it
pub behind : {byte : ℕ} {Is : List ℕ → Type 0} {rest : List ℕ} {n : ℕ} → byte < 256
    → Written Is rest n → Written (After byte Is) (byte ∷ rest) (suc n)
behind {rest} less one = record {
  is = (rest, refl, one.is);
  are = (less, one.are);
  short = omega (arith, one.short);
}

-- one thing after the other
pub row : {A : Type 0} (Is : List ℕ → A → Type 0) (spell : A → List ℕ) (size : A → ℕ) (xs : List A)
    → AllByRecursion (λ x. Written (λ bytes. Is bytes x) (spell x) (size x)) xs
    → Written (λ bytes. IsRow Is bytes xs) (flat_map spell xs) (sum_by size xs)
row Is spell size [] all = record { is = refl; are = tt; short = omega arith }
row Is spell size (x ∷ xs) all =
    let rest = row Is spell size xs all.1 in
    let whole = in_turn all.0 rest in
    record {
      is = whole.is;
      are = whole.are;
      short = omega (arith, whole.short, sum_by-cons size x xs);
    }

-- ---- numbers

carried_more : (allowed n : ℕ)
    → length (carried (suc allowed) n) ≤ suc (length (carried allowed (n / 128)))
carried_more allowed n = grind (arith, common_steps, length-append)

carried_bytes : (allowed n : ℕ) → AreBytes (carried allowed n)
carried_bytes zero n = tt
carried_bytes (suc allowed) n = by (eqb n 0) (carried_bytes allowed (n / 128))
  where
    by : (b : Bool) → AreBytes (carried allowed (n / 128))
        → AreBytes (cond b [] (carried allowed (n / 128) ++ (128 + n % 128) ∷ []))
    by true rest = tt
    by false rest =
        bytes_both (carried allowed (n / 128)) ((128 + n % 128) ∷ []) rest (omega arith, tt)

-- a number below 2^32 has five bytes at most
pub number : {n : ℕ} → n < 2 ^ 32 → Written (λ bytes. IsMb bytes n) (mb_spelling n) 5
number {n} less =
    let is = (IsShortest-mb_spelling n less).spells in
    record {
      is = is;
      are = bytes_both (carried 4 (n / 128)) (n % 128 ∷ []) (carried_bytes 4 (n / 128))
          (omega arith, tt);
      short = is.few;
    }

-- one below 2^16 has three
pub small_number : {n : ℕ} → n < 65536 → Written (λ bytes. IsMb bytes n) (mb_spelling n) 3
small_number {n} less =
    let whole = number (omega (arith, less)) in
    let third : n / 128 / 128 / 128 ≡ 0 = omega (arith, less) in
    let none : length (carried 2 (n / 128 / 128 / 128)) ≡ 0 =
    ap (λ (m : ℕ). length (carried 2 m)) third ∙ ap length (carried-zero 2) in
    record {
      is = whole.is;
      are = whole.are;
      short = omega (
        arith,
        length-append (carried 4 (n / 128)) (n % 128 ∷ []),
        carried_more 3 (n / 128),
        carried_more 2 (n / 128 / 128),
        none,
      );
    }

-- ---- texts

-- the bytes of a character
character_bytes : (c : ℕ) → c < 1114112 → AreBytes (encode c)
unfolding encode
character_bytes c less = by (ltb c 128) (ltb c 2048) (ltb c 65536) refl refl refl
  where
    by : (one two three : Bool) → ltb c 128 ≡ one → ltb c 2048 ≡ two → ltb c 65536 ≡ three
        → AreBytes (cond one (c ∷ []) (cond two ((192 + c / 64) ∷ (128 + c % 64) ∷ [])
        (cond three ((224 + c / 4096) ∷ (128 + c / 64 % 64) ∷ (128 + c % 64) ∷ [])
        ((240 + c / 262144) ∷ (128 + c / 4096 % 64) ∷ (128 + c / 64 % 64) ∷ (128 + c % 64) ∷ []))))
    by true two three is is' is'' = (omega (arith, ltb-true c 128 is), tt)
    by false true three is is' is'' = (omega (arith, ltb-true c 2048 is'), (omega arith, tt))
    by false false true is is' is'' =
        (omega (arith, ltb-true c 65536 is''), (omega arith, (omega arith, tt)))
    by false false false is is' is'' =
        (omega (arith, less), (omega arith, (omega arith, (omega arith, tt))))

-- a character is no greater than the last
scalar_below : (c : ℕ) → scalar c ≡ true → c < 1114112
scalar_below c is = grind (arith, common_steps)

-- the bytes of a text
pub text_bytes : (t : List ℕ) → all_scalars t ≡ true → AreBytes (encode_utf8_all t)
text_bytes [] scalars = tt
text_bytes (c ∷ t) scalars =
    let both = and_parts (scalar c) (all_scalars t) scalars in
    bytes_both (encode c) (encode_utf8_all t) (character_bytes c (scalar_below c both.0))
    (text_bytes t both.1)

-- they are the text
pub utf8_text : {t : List ℕ} → all_scalars t ≡ true → IsUtf8Text (encode_utf8_all t) t
utf8_text {t} scalars = record {
  utf8 = is_utf8-from_IsUtf8 (encode_utf8_all t) (t, (scalars, refl));
  characters = sym (chars-encodes t scalars);
}

-- bytes after their number
pub sized_written : {content : List ℕ} → AreBytes content → length content < 2 ^ 32
    → Written (λ bytes. IsSized bytes content) (sized content) (5 + length content)
sized_written are less =
    in_turn (number less) (record { is = refl; are = are; short = omega arith })

-- ---- constants

-- the spelling of its constant
abbrev IsIt : Constant → List ℕ → Type 0
IsIt c bytes = IsConstant 106 bytes c

byte_written : (n : ℕ) → n < 128
    → Written (IsIt (Int8 (pos n))) (constant_spelling (Int8 (pos n))) 6
byte_written n less =
    let fits : FitsSigned w8 (pos n) = omega (arith, less) in
    let m = cast_unsigned w8 (pos n) in
    let small : m < 2 ^ 8 = (Fits-of_z fits).fits in
    let back : from_be_bytes w8 (to_be_bytes w8 m) ≡ m = omega (arith, small) in
    behind (omega arith) (record {
      is = (refl, sym (ap (cast_signed w8) back ∙ to_z-of_z w8 (pos n) fits));
      are = (omega arith, tt);
      short = omega arith;
    })

word_written : (n : ℕ) → n < 32768
    → Written (IsIt (Int16 (pos n))) (constant_spelling (Int16 (pos n))) 6
word_written n less =
    let fits : FitsSigned w16 (pos n) = omega (arith, less) in
    let m = cast_unsigned w16 (pos n) in
    let small : m < 2 ^ 16 = (Fits-of_z fits).fits in
    behind (omega arith) (record {
      is = (
        refl,
        sym (ap (cast_signed w16) (from_be_bytes-to_be_bytes_2 m small)
            ∙ to_z-of_z w16 (pos n) fits),
      );
      are = (omega arith, (omega arith, tt));
      short = omega arith;
    })

long_written : (n : ℕ) → n < 2 ^ 31
    → Written (IsIt (Int32 (pos n))) (constant_spelling (Int32 (pos n))) 6
long_written n less =
    let fits : FitsSigned w32 (pos n) = omega (arith, less) in
    let m = cast_unsigned w32 (pos n) in
    let small : m < 2 ^ 32 = (Fits-of_z fits).fits in
    behind (omega arith) (record {
      is = (
        refl,
        sym (ap (cast_signed w32) (from_be_bytes-to_be_bytes_4 m small)
            ∙ to_z-of_z w32 (pos n) fits),
      );
      are = (omega arith, (omega arith, (omega arith, (omega arith, tt))));
      short = omega arith;
    })

-- an integer, in the smallest kind
integer_written : (n : ℕ) → n < 2 ^ 31
    → Written (IsIt (integer_constant (pos n))) (constant_spelling (integer_constant (pos n))) 6
integer_written n less = by (ltb n 128) (ltb n 32768) refl refl
  where
    by : (one two : Bool) → ltb n 128 ≡ one → ltb n 32768 ≡ two
        → Written (IsIt (cond one (Int8 (pos n)) (cond two (Int16 (pos n)) (Int32 (pos n)))))
        (constant_spelling (cond one (Int8 (pos n)) (cond two (Int16 (pos n)) (Int32 (pos n))))) 6
    by true two is is' = byte_written n (ltb-true n 128 is)
    by false true is is' = word_written n (ltb-true n 32768 is')
    by false false is is' = long_written n less

-- the constant of a literal
pub constant_written : (l : Literal) → CanBeSaid l → text_size l < 2 ^ 32
    → Written (IsIt (constant_for l)) (constant_spelling (constant_for l)) (6 + text_size l)
constant_written (Int (pos n)) said few = integer_written n said
constant_written (Int (negsuc n)) said few = absurd said
constant_written (Str (c ∷ cs)) said few =
    let content = encode_utf8_all (c ∷ cs) in
    let whole = sized_written (text_bytes (c ∷ cs) said) few in
    record {
      is = (sized content, refl, (content, whole.is, utf8_text said));
      are = (omega arith, whole.are);
      short = omega (arith, whole.short);
    }
constant_written _ said few = record { is = refl; are = (omega arith, tt); short = omega arith }

-- ---- pragmas

-- two numbers
pair_written : {a b : ℕ} → a < 65536 → b < 65536
    → Written (λ bytes. IsPair bytes a b) (mb_spelling a ++ mb_spelling b) 6
pair_written one two = in_turn (small_number one) (small_number two)

-- how many bytes a pragma has at most
abbrev pub pragma_size : Pragma → ℕ
pragma_size (Property name content) = 7
pragma_size (Scheme name content scheme) = 10
pragma_size _ = 4

-- its numbers are below 2^16
abbrev pub HasSmall : Pragma → Type 0
HasSmall (Domain text) = text < 65536
HasSmall (Path text) = text < 65536
HasSmall (Property name content) = (name < 65536) × (content < 65536)
HasSmall (Scheme name content scheme) = (name < 65536) × (content < 65536) × (scheme < 65536)

pub pragma_written : (p : Pragma) → HasSmall p
    → Written (λ bytes. IsPragma bytes p) (pragma_spelling p) (pragma_size p)
pragma_written (Property name content) small = behind (omega arith) (pair_written small.0 small.1)
pragma_written (Scheme name content scheme) small =
    behind (omega arith) (in_turn (small_number small.0) (pair_written small.1 small.2))
pragma_written _ small = behind (omega arith) (small_number small)

-- ---- names and functions

-- a name, with one byte for its length
pub name_written : {count : ℕ} {name : ℕ × List ℕ} → name.0 < count → count < 256
    → all_scalars name.1 ≡ true → length (encode_utf8_all name.1) < 256
    → Written (λ bytes. IsName count bytes name) (name_spelling name) 257
name_written {name} within few scalars short = record {
  is = record {
    content = encode_utf8_all name.1;
    spelled = refl;
    within = within;
    text = utf8_text scalars;
  };
  are = (omega (arith, within, few), (short, text_bytes name.1 scalars));
  short = omega (arith, short);
}

-- a function of fewer than 2^16 bytes
pub function_written : {f : Code} → f.args < 256 → f.locals < 256 → AreBytes f.code
    → length f.code ≤ 65535 → Written (λ bytes. IsFunction bytes f) (function_spelling f) 65542
function_written {f} few fewer are short =
    let code = sized_written are (omega (arith, short)) in
    record {
      is = record { rest = sized f.code; spelled = refl; code = code.is };
      are = (few, (fewer, code.are));
      short = omega (arith, code.short, short);
    }
