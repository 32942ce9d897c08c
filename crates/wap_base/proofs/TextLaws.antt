-- The characters of a text that grows.
use Rattle.std.proofs.Common.{◌≡◌, ℕ, List, [], ◌∷◌, ◌++◌, ap, sym, ◌∙◌}
use Rattle.std.specs.Prelude.{encode_utf8, encode_utf8_all}
use Rattle.std.specs.Char.{IsScalar}
use Rattle.std.specs.Str.{IsUtf8, chars}
use Rattle.std.proofs.lemmas.Str.{chars-append, chars-nil, chars_past_char}
use Rattle.std.proofs.lemmas.Str.{IsUtf8-encode, encodes-chars}
use Rattle.std.proofs.lemmas.List.{append-nil}

-- the characters of one character
pub chars-encode : (c : ℕ) → IsScalar c → chars (encode_utf8 c) ≡ c ∷ []
chars-encode c scalar =
    chars_past_char (encode_utf8 c) [] c (IsUtf8-encode c scalar) (sym (append-nil (encode_utf8 c)))
    ∙ ap (λ cs. c ∷ cs) chars-nil

-- one more character at the end
pub chars-push : (bytes : List ℕ) (c : ℕ) → IsUtf8 bytes → IsScalar c
    → chars (bytes ++ encode_utf8 c) ≡ chars bytes ++ c ∷ []
chars-push bytes c text scalar =
    chars-append bytes (encode_utf8 c) text ∙ ap (λ cs. chars bytes ++ cs) (chars-encode c scalar)

-- a text without characters has no bytes
pub nil-from_chars : (bytes : List ℕ) → IsUtf8 bytes → chars bytes ≡ [] → bytes ≡ []
nil-from_chars bytes text none = sym (encodes-chars bytes text) ∙ ap encode_utf8_all none
