-- A line that begins with a word of a form is UTF-8 where what follows the word is.
use Rattle.std.proofs.Common.{◌≡◌, ℕ, ◌<◌, ◌≤◌, Bool, true, false, cond, List, [], ◌∷◌}
use Rattle.std.proofs.Common.{◌++◌, length, Option, Some, None, Result, Err, refl, sym, ap}
use Rattle.std.proofs.Common.{subst, ◌∙◌, append-nil, arith, ltb-true}
use Rattle.std.specs.Prelude.{nat_lt}
use Rattle.std.specs.Str.{IsUtf8, is_utf8}
use Rattle.std.proofs.Math.Utf8.{low_scalar}
use Rattle.std.proofs.lemmas.Bool.{and_parts}
use Rattle.std.proofs.lemmas.Str.{IsUtf8-nil, IsUtf8-append, IsUtf8-encode, IsUtf8-past_char}
use Rattle.std.proofs.lemmas.Str.{encode_ascii, is_utf8-from_IsUtf8, IsUtf8-from_is_utf8}
use Rattle.wap_base.specs.Outcome.{Meets}
use Rattle.wap_base.specs.declared.key.Key.{Key}
use Rattle.wap_keys.specs.declared.limits.TheConstants.{LINE_LIMIT}
use Rattle.wap_keys.specs.declared.fault.KeyFault.{KeyFault}
use Rattle.wap_keys.specs.declared.fault.KeyFault.TheVariants.{NotText, UnknownWord, NoMemory}
use Rattle.wap_keys.specs.declared.word.Word.{Word}
use Rattle.wap_keys.specs.Forms.{form_of, name_of, word_named, prefix_of}
use Rattle.wap_keys.specs.Forms.{rest_of, key_by, key_of_word, key_at}
use Rattle.wap_keys.specs.Spelling.{spaced, HasNoSpace}
use Rattle.wap_keys.specs.inside.Wording.{IsTextOrNone, IsRestText, key_of_rest, unknown_fault}
use Rattle.wap_keys.proofs.KeyLaws.{bad_text, good_text, no_text}
use Rattle.wap_keys.proofs.SpellLaws.{prefix_spaced, name_is, word_reads, names, are_low}
use Rattle.wap_keys.proofs.SpellLaws.{not_utf8}

low_text : (bytes rest : List ℕ) → are_low bytes ≡ true → IsUtf8 rest → IsUtf8 (bytes ++ rest)
low_text [] rest low text = text
low_text (c ∷ cs) rest low text =
    let parts = and_parts (nat_lt c 128) (are_low cs) low in
    let small : c < 128 = ltb-true c 128 parts.0 in
    IsUtf8-append (c ∷ []) (cs ++ rest) (subst IsUtf8 (encode_ascii c small)
    (IsUtf8-encode c (low_scalar c (omega (arith, small))))) (low_text cs rest parts.1 text)

past_low : (bytes rest : List ℕ) → are_low bytes ≡ true → IsUtf8 (bytes ++ rest) → IsUtf8 rest
past_low [] rest low text = text
past_low (c ∷ cs) rest low text =
    let parts = and_parts (nat_lt c 128) (are_low cs) low in
    let small : c < 128 = ltb-true c 128 parts.0 in
    past_low cs rest parts.1 (IsUtf8-past_char (c ∷ (cs ++ rest)) (cs ++ rest) c text
    (ap (λ (l : List ℕ). l ++ (cs ++ rest)) (sym (encode_ascii c small))))

name_text : (w : Word) → IsUtf8 (name_of w)
name_text w =
    subst IsUtf8 (append-nil (name_of w)) (low_text (name_of w) [] (names w).2 IsUtf8-nil)

then_text : (w : Word) (rest : List ℕ) → IsUtf8 rest → IsUtf8 (name_of w ++ 32 ∷ rest)
then_text w rest text =
    low_text (name_of w) (32 ∷ rest) (names w).2 (low_text (32 ∷ []) rest refl text)

rest_text : (w : Word) (rest : List ℕ) → IsUtf8 (name_of w ++ 32 ∷ rest) → IsUtf8 rest
rest_text w rest text =
    past_low (32 ∷ []) rest refl (past_low (name_of w) (32 ∷ rest) (names w).2 text)

rest_key : (line : List ℕ) (w : Word) (rest : List ℕ) (b : Bool) → is_utf8 rest ≡ b
    → length line ≤ LINE_LIMIT
    → line ≡ spaced (name_of w) (Some rest) → key_at line ≡ key_of_rest w (Some rest)
rest_key line w rest true text short is =
    good_text line short (subst IsUtf8 (sym is) (then_text w rest (IsUtf8-from_is_utf8 rest text)))
    ∙ word_reads line w (Some rest) is
    ∙ sym (ap (λ (b : Bool). cond b (key_by (form_of w) (Some rest)) (Err NotText)) text)
rest_key line w rest false none short is =
    bad_text line short (λ text. not_utf8 rest none (rest_text w rest (subst IsUtf8 is text)))
    ∙ sym (ap (λ (b : Bool). cond b (key_by (form_of w) (Some rest)) (Err NotText)) none)

named_key : (line : List ℕ) (w : Word) (rest : Option (List ℕ)) → length line ≤ LINE_LIMIT
    → line ≡ spaced (name_of w) rest → key_at line ≡ key_of_rest w rest
named_key line w None short is =
    good_text line short (subst IsUtf8 (sym is) (name_text w)) ∙ word_reads line w None is
named_key line w (Some rest) short is = rest_key line w rest (is_utf8 rest) refl short is

-- the key of a line that begins with a word of a form
pub word_key : (line prefix : List ℕ) (rest : Option (List ℕ)) (w : Word) → length line ≤ LINE_LIMIT
    → line ≡ spaced prefix rest → word_named prefix ≡ Some w → key_at line ≡ key_of_rest w rest
word_key line prefix rest w short is found =
    named_key line w rest short (is ∙ ap (λ (l : List ℕ). spaced l rest) (name_is prefix w found))

unknown_by : (line : List ℕ) (b : Bool) → is_utf8 line ≡ b → length line ≤ LINE_LIMIT
    → word_named (prefix_of line) ≡ None → key_at line ≡ Err (unknown_fault line)
unknown_by line true text short none =
    good_text line short (IsUtf8-from_is_utf8 line text)
    ∙ ap (λ (w : Option Word). key_of_word w (rest_of line)) none
    ∙ sym (ap (λ (b : Bool). Err (cond b UnknownWord NotText)) text)
unknown_by line false other short none =
    bad_text line short (not_utf8 line other)
    ∙ sym (ap (λ (b : Bool). Err (cond b UnknownWord NotText)) other)

-- and of one that begins with none
pub unknown_key : (line prefix : List ℕ) (rest : Option (List ℕ)) → length line ≤ LINE_LIMIT
    → line ≡ spaced prefix rest → HasNoSpace prefix → word_named prefix ≡ None
    → key_at line ≡ Err (unknown_fault line)
unknown_key line prefix rest short is none found =
    unknown_by line (is_utf8 line) refl short
    (ap word_named (ap prefix_of is ∙ prefix_spaced prefix rest none) ∙ found)

-- ---- what follows a word, and lines without one

pub good_rest : (result : Result Key KeyFault) (w : Word) (rest text : Option (List ℕ))
    → text ≡ rest → IsTextOrNone rest
    → Meets NoMemory (λ (key : Key). key) result (key_by (form_of w) text)
    → Meets NoMemory (λ (key : Key). key) result (key_of_rest w rest)
good_rest result w None text same utf8 meets =
    subst (λ (rest : Option (List ℕ)).
    Meets NoMemory (λ (key : Key). key) result (key_by (form_of w) rest)) same meets
good_rest result w (Some bytes) text same utf8 meets =
    subst (λ (reading : Result Key KeyFault). Meets NoMemory (λ (key : Key). key) result reading)
    (ap (key_by (form_of w)) same ∙ sym (ap (λ (b : Bool).
    cond b (key_by (form_of w) (Some bytes)) (Err NotText)) (is_utf8-from_IsUtf8 bytes utf8)))
    meets

bad_rest : (w : Word) (bytes : List ℕ) → ¬ (IsUtf8 bytes) → key_of_rest w (Some bytes) ≡ Err NotText
bad_rest w bytes none =
    ap (λ (b : Bool). cond b (key_by (form_of w) (Some bytes)) (Err NotText))
    (no_text bytes (is_utf8 bytes) refl none)

pub other_rest : (w : Word) (rest : Option (List ℕ)) (fault : KeyFault)
    → IsRestText rest (Err fault) → key_of_rest w rest ≡ Err fault
other_rest w rest fault (is, lost) =
    let (bytes, some, none) = lost in
    ap (key_of_rest w) some ∙ bad_rest w bytes none ∙ ap Err (sym is)

pub text_fault : (line : List ℕ) → IsUtf8 line → UnknownWord ≡ unknown_fault line
text_fault line utf8 =
    sym (ap (λ (b : Bool). cond b UnknownWord NotText) (is_utf8-from_IsUtf8 line utf8))

pub other_fault : (line : List ℕ) → ¬ (IsUtf8 line) → NotText ≡ unknown_fault line
other_fault line none =
    sym (ap (λ (b : Bool). cond b UnknownWord NotText) (no_text line (is_utf8 line) refl none))
