-- The test of UTF-8, both ways, and the text that bytes spell in it.
use Rattle.std.proofs.Common.{◌≡◌, ℕ, ◌<◌, arith, Bool, true, false, cond, List, [], ◌∷◌}
use Rattle.std.proofs.Common.{Some, None, refl, sym, ap, ◌∙◌}
use Rattle.std.specs.List.{list_all}
use Rattle.std.specs.Str.{IsAscii, IsUtf8, is_utf8, chars}
use Rattle.std.proofs.lemmas.Bool.{and_parts}
use Rattle.std.proofs.lemmas.Bool.Decides.{nat_tests}
use Rattle.std.proofs.lemmas.Str.Ascii.{IsAscii-cons, IsAscii-nil}
use Rattle.std.proofs.lemmas.Str.{IsUtf8-from_is_utf8, is_utf8-from_IsUtf8, IsUtf8-from_ascii}
use Rattle.wap_base.specs.declared.charset.Charset.TheVariants.{Utf8}
use Rattle.wap_base.specs.Charsets.{is_ascii, text_in}

below : (byte : ℕ) → is_ascii byte ≡ true → byte < 128
below byte is = grind (arith, nat_tests)

-- bytes that are all below 128, each at its place
all_ascii : (bytes : List ℕ) → list_all is_ascii bytes ≡ true → IsAscii bytes
all_ascii [] all = IsAscii-nil
all_ascii (byte ∷ bytes) all =
    let both = and_parts (is_ascii byte) (list_all is_ascii bytes) all in
    IsAscii-cons byte bytes (below byte both.0) (all_ascii bytes both.1)

-- US-ASCII is UTF-8
pub ascii_is_utf8 : (bytes : List ℕ) → list_all is_ascii bytes ≡ true → IsUtf8 bytes
ascii_is_utf8 bytes all = IsUtf8-from_ascii bytes (all_ascii bytes all)

not_utf8 : (bytes : List ℕ) (b : Bool) → is_utf8 bytes ≡ b → ¬ (IsUtf8 bytes) → b ≡ false
not_utf8 bytes true is none = absurd (none (IsUtf8-from_is_utf8 bytes is))
not_utf8 bytes false is none = refl

pub is_utf8-no : (bytes : List ℕ) → ¬ (IsUtf8 bytes) → is_utf8 bytes ≡ false
is_utf8-no bytes none = not_utf8 bytes (is_utf8 bytes) refl none

pub text_in-utf8 : (bytes text : List ℕ) → IsUtf8 bytes → text ≡ chars bytes
    → Some text ≡ text_in Utf8 bytes
text_in-utf8 bytes text utf8 is =
    ap (λ (t : List ℕ). Some t) is
    ∙ ap (λ (b : Bool). cond b (Some (chars bytes)) None) (sym (is_utf8-from_IsUtf8 bytes utf8))

pub text_in-none : (bytes : List ℕ) → ¬ (IsUtf8 bytes) → None ≡ text_in Utf8 bytes
text_in-none bytes none =
    ap (λ (b : Bool). cond b (Some (chars bytes)) None) (sym (is_utf8-no bytes none))
