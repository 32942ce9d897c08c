-- Texts of US-ASCII, whose bytes are their characters.
use Rattle.std.proofs.Common.{◌≡◌, ℕ, zero, suc, ◌<◌, Bool, true, nat_lt, List}
use Rattle.std.proofs.Common.{[], ◌∷◌, ◌++◌, refl, ap, ◌∙◌, arith, append_assoc}
use Rattle.std.specs.Prelude.{encode_utf8_all}
use Rattle.std.specs.List.{list_all}
use Rattle.std.specs.Bool.{Decides, one_answer}
use Rattle.std.specs.Str.{IsAscii, chars, bytes_eq}
use Rattle.std.specs.Cmp.Lexicographic.{bytes_decides}
use Rattle.std.proofs.lemmas.Bool.{and_parts}
use Rattle.std.proofs.lemmas.Bool.Decides.{Decides-ltb}
use Rattle.std.proofs.lemmas.Slice.Eq.{bytes_eq-Decides}
use Rattle.std.proofs.lemmas.Str.{chars-IsAscii, encode_ascii}
use Rattle.wap_base.specs.Texts.{is_same_text}

abbrev pub is_plain : List ℕ → Bool
is_plain text = list_all (λ c. nat_lt c 128) text

below : (c : ℕ) → nat_lt c 128 ≡ true → c < 128
below c so = (Decides-ltb c 128).0 so

ascii : (text : List ℕ) → is_plain text ≡ true → IsAscii text
ascii [] plain i = omega arith
ascii (c ∷ cs) plain zero = below c (and_parts (nat_lt c 128) (is_plain cs) plain).0
ascii (c ∷ cs) plain (suc i) = ascii cs (and_parts (nat_lt c 128) (is_plain cs) plain).1 i

-- such a text's bytes are its characters
pub chars-plain : (text : List ℕ) → is_plain text ≡ true → chars text ≡ text
chars-plain text plain = chars-IsAscii text (ascii text plain)

encodes-plain : (text : List ℕ) → is_plain text ≡ true → encode_utf8_all text ≡ text
encodes-plain [] plain = refl
encodes-plain (c ∷ cs) plain =
    let parts = and_parts (nat_lt c 128) (is_plain cs) plain in
    ap (λ bytes. bytes ++ encode_utf8_all cs) (encode_ascii c (below c parts.0))
    ∙ ap (λ rest. c ∷ rest) (encodes-plain cs parts.1)

-- words that lines are put together of
pub ruleset words = (chars-plain, append_assoc)

-- a text is compared with a plain one by its bytes or by its characters
pub same-plain : (bytes text known : List ℕ) → bytes ≡ encode_utf8_all text → text ≡ chars bytes
    → is_plain known ≡ true → bytes_eq bytes known ≡ is_same_text text known
same-plain bytes text known encoded read plain =
    let by_bytes : Decides (bytes_eq bytes known) (bytes ≡ known) = bytes_eq-Decides bytes known in
    let by_text : Decides (is_same_text text known) (bytes ≡ known) = (
      λ so. encoded ∙ ap encode_utf8_all ((bytes_decides text known).0 so)
          ∙ encodes-plain known plain,
      λ same. (bytes_decides text known).1 (read ∙ ap chars same ∙ chars-plain known plain),
    ) in
    one_answer (bytes_eq bytes known) (is_same_text text known) by_bytes by_text
