-- How many bytes texts take.
use Rattle.std.proofs.Common.{◌≡◌, ℕ, ◌+◌, ◌*◌, ◌≤◌, List, [], ◌∷◌, ◌++◌, length, refl, arith}
use Rattle.std.specs.Prelude.{encode_utf8_all}
use Rattle.std.specs.Char.{encode_utf8}
use Rattle.std.proofs.lemmas.List.{length-append}
use Rattle.std.proofs.lemmas.Str.{length-encode, len_utf8_bounds}
use Rattle.wap_base.specs.Utf8.{utf8_len}

pub utf8_len-append : (a b : List ℕ) → utf8_len (a ++ b) ≡ utf8_len a + utf8_len b
utf8_len-append [] b = omega arith
utf8_len-append (c ∷ a) b = omega (arith, utf8_len-append a b)

pub length-encode_utf8_all : (cs : List ℕ) → length (encode_utf8_all cs) ≡ utf8_len cs
length-encode_utf8_all [] = refl
length-encode_utf8_all (c ∷ cs) = omega (
  arith,
  length-append (encode_utf8 c) (encode_utf8_all cs),
  length-encode c,
  length-encode_utf8_all cs,
)

-- a character takes one to four bytes
pub utf8_len-bounds : (cs : List ℕ) → (length cs ≤ utf8_len cs) × (utf8_len cs ≤ 4 * length cs)
utf8_len-bounds [] = (omega arith, omega arith)
utf8_len-bounds (c ∷ cs) =
    let first = len_utf8_bounds c in
    let rest = utf8_len-bounds cs in
    (omega (arith, first.0, rest.0), omega (arith, first.1, rest.1))
