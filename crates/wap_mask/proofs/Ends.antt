-- A text has no character exactly where it has no byte.
use Rattle.std.proofs.Common.{◌≡◌, ℕ, List, [], ◌∷◌, length, false, refl, sym, ap, ◌∙◌, arith}
use Rattle.std.specs.Prelude.{◌==◌}
use Rattle.std.specs.Str.{IsUtf8, chars}
use Rattle.std.proofs.lemmas.Bool.Decides.{nat_tests}
use Rattle.std.proofs.lemmas.Str.{chars-nil}
use Rattle.wap_base.proofs.TextLaws.{nil-from_chars}
use Rattle.wap_base.specs.Texts.{is_empty}

some_length : (b : ℕ) (bytes : List ℕ) → (length (b ∷ bytes) == 0) ≡ false
some_length b bytes = grind (arith, nat_tests)

some_chars : (b : ℕ) (bytes characters : List ℕ) → IsUtf8 (b ∷ bytes)
    → chars (b ∷ bytes) ≡ characters → false ≡ is_empty characters
some_chars b bytes [] text e = let none = nil-from_chars (b ∷ bytes) text e in cc
some_chars b bytes (c ∷ characters) text e = refl

pub is_empty-chars : (bytes : List ℕ) → IsUtf8 bytes → (length bytes == 0) ≡ is_empty (chars bytes)
is_empty-chars [] text = ap is_empty (sym chars-nil)
is_empty-chars (b ∷ bytes) text =
    some_length b bytes ∙ some_chars b bytes (chars (b ∷ bytes)) text refl
