-- Texts that are compared with words.
use Rattle.std.proofs.Common.{◌≡◌, ℕ, List, Decides, sym, ap, ◌∙◌}
use Rattle.std.specs.Prelude.{encode_utf8_all}
use Rattle.std.specs.Str.{IsUtf8, chars, bytes_eq}
use Rattle.std.specs.Cmp.Lexicographic.{bytes_decides}
use Rattle.std.proofs.lemmas.Slice.Eq.{bytes_eq-Decides}
use Rattle.std.proofs.lemmas.Str.{encodes-chars}
use Rattle.std.proofs.lemmas.Bool.Decides.{same_from_decides}
use Rattle.wap_base.specs.Texts.{is_same_text}

-- a text is compared with a word by its bytes or by its characters
pub same_word : (bytes text word : List ℕ) → bytes ≡ encode_utf8_all text → chars bytes ≡ text
    → IsUtf8 word → bytes_eq bytes word ≡ is_same_text text (chars word)
same_word bytes text word encoded read utf8 =
    let by_bytes : Decides (bytes_eq bytes word) (bytes ≡ word) = bytes_eq-Decides bytes word in
    let by_text : Decides (is_same_text text (chars word)) (bytes ≡ word) = (
      λ so. encoded ∙ ap encode_utf8_all ((bytes_decides text (chars word)).0 so)
          ∙ encodes-chars word utf8,
      λ same. (bytes_decides text (chars word)).1 (sym read ∙ ap chars same),
    ) in
    same_from_decides (bytes_eq bytes word) (is_same_text text (chars word)) by_bytes by_text

pub word_same : (bytes text word : List ℕ) → bytes ≡ encode_utf8_all text → chars bytes ≡ text
    → IsUtf8 word → bytes_eq bytes word ≡ is_same_text (chars word) text
word_same bytes text word encoded read utf8 =
    let by_bytes : Decides (bytes_eq bytes word) (bytes ≡ word) = bytes_eq-Decides bytes word in
    let by_text : Decides (is_same_text (chars word) text) (bytes ≡ word) = (
      λ so. encoded ∙ ap encode_utf8_all (sym ((bytes_decides (chars word) text).0 so))
          ∙ encodes-chars word utf8,
      λ same. (bytes_decides (chars word) text).1 (ap chars (sym same) ∙ read),
    ) in
    same_from_decides (bytes_eq bytes word) (is_same_text (chars word) text) by_bytes by_text
