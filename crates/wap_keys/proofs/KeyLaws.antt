-- What a line says, by its length and its text.
use Rattle.std.proofs.Common.{◌≡◌, ℕ, ◌<◌, ◌≤◌, Bool, true, false, cond, List}
use Rattle.std.proofs.Common.{length, Result, Err, refl, ap, ◌∙◌}
use Rattle.std.specs.Str.{IsUtf8, is_utf8}
use Rattle.std.proofs.lemmas.Bool.{lt-ltb, le-ltb}
use Rattle.std.proofs.lemmas.Str.{is_utf8-from_IsUtf8, IsUtf8-from_is_utf8}
use Rattle.wap_base.specs.declared.key.Key.{Key}
use Rattle.wap_keys.specs.declared.limits.TheConstants.{LINE_LIMIT}
use Rattle.wap_keys.specs.declared.fault.KeyFault.{KeyFault}
use Rattle.wap_keys.specs.declared.fault.KeyFault.TheVariants.{TooLong, NotText}
use Rattle.wap_keys.specs.Forms.{prefix_of, rest_of, word_named, key_of_word, key_at}

abbrev said : List ℕ → Result Key KeyFault
said line = key_of_word (word_named (prefix_of line)) (rest_of line)

pub long_key : (line : List ℕ) → LINE_LIMIT < length line → key_at line ≡ Err TooLong
unfolding key_at
long_key line long =
    ap (λ (b : Bool). cond b (Err TooLong) (cond (is_utf8 line) (said line) (Err NotText)))
    (lt-ltb LINE_LIMIT (length line) long)

short_key : (line : List ℕ) → length line ≤ LINE_LIMIT
    → key_at line ≡ cond (is_utf8 line) (said line) (Err NotText)
unfolding key_at
short_key line short =
    ap (λ (b : Bool). cond b (Err TooLong) (cond (is_utf8 line) (said line) (Err NotText)))
    (le-ltb LINE_LIMIT (length line) short)

pub no_text : (line : List ℕ) (b : Bool) → is_utf8 line ≡ b → ¬ (IsUtf8 line) → b ≡ false
no_text line true is none = absurd (none (IsUtf8-from_is_utf8 line is))
no_text line false is none = refl

pub bad_text : (line : List ℕ) → length line ≤ LINE_LIMIT → ¬ (IsUtf8 line)
    → key_at line ≡ Err NotText
bad_text line short none =
    short_key line short
    ∙ ap (λ (b : Bool). cond b (said line) (Err NotText)) (no_text line (is_utf8 line) refl none)

pub good_text : (line : List ℕ) → length line ≤ LINE_LIMIT → IsUtf8 line → key_at line ≡ said line
good_text line short text =
    short_key line short
    ∙ ap (λ (b : Bool). cond b (said line) (Err NotText)) (is_utf8-from_IsUtf8 line text)
