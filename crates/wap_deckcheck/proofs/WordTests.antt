-- Words are told by their bytes.
use Rattle.std.proofs.Common.{◌≡◌, ℕ, Bool, true, false, ◌||◌, List, [], ◌∷◌, refl, sym, ap, ◌∙◌}
use Rattle.std.specs.Prelude.{encode_utf8_all, ◌↔◌}
use Rattle.wap_base.specs.Names.{is_name}
use Rattle.wap_base.proofs.NameLaws.{name-encode}
use Rattle.std.specs.List.{list_any, list_all}
use Rattle.std.specs.Str.{chars, bytes_eq}
use Rattle.std.proofs.lemmas.Bool.{and_parts}
use Rattle.wap_base.specs.Texts.{is_same_text}
use Rattle.wap_base.proofs.Plain.{same-plain}
use Rattle.wap_deckcheck.specs.inside.Rows.{is_plain_word}

pub words_told : (bytes text : List ℕ) (words : List (List ℕ)) → bytes ≡ encode_utf8_all text
    → chars bytes ≡ text → list_all is_plain_word words ≡ true
    → list_any (bytes_eq bytes) words ≡ list_any (is_same_text text) words
words_told bytes text [] encoded read plain = refl
words_told bytes text (word ∷ words) encoded read plain =
    let parts = and_parts (is_plain_word word) (list_all is_plain_word words) plain in
    ap (λ b. b || list_any (bytes_eq bytes) words)
    (same-plain bytes text word encoded (sym read) parts.0)
    ∙ ap (λ b. is_same_text text word || b) (words_told bytes text words encoded read parts.1)

pub named : (slice bytes text : List ℕ) → slice ≡ bytes → bytes ≡ encode_utf8_all text
    → is_name slice ≡ is_name text
named slice bytes text same encoded = ap is_name (same ∙ encoded) ∙ name-encode text

pub empty_or : (text : List ℕ) (name : Bool) → is_name text ≡ name
    → (is_name text || is_same_text text []) ≡ (name || is_same_text text [])
empty_or text name is = ap (λ b. b || is_same_text text []) is

-- whether a text is empty, as a test
pub empty_told : (text : List ℕ) (empty : Bool) → (empty ≡ true) ↔ (text ≡ [])
    → empty ≡ is_same_text text []
empty_told [] empty told = told.1 refl
empty_told (c ∷ cs) true told = absurd (let is = told.0 refl in cc)
empty_told (c ∷ cs) false told = refl
