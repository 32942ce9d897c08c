-- The words of a text, as far as it was read.
use Rattle.std.proofs.Common.{◌≡◌, ℕ, ◌<◌, ◌+◌, length, drop, get_or, List, []}
use Rattle.std.proofs.Common.{◌∷◌, ◌++◌, Bool, cond, refl, sym, ap, ◌∙◌}
use Rattle.std.proofs.lemmas.List.{at_drop_more, length_push}
use Rattle.std.proofs.Math.Seq.{drop-length}
use Rattle.std.specs.Prelude.{filter, not}
use Rattle.std.specs.List.{onto_first}
use Rattle.wap_base.specs.Texts.{is_empty}
use Rattle.wap_layout.specs.Blanks.{unless_empty}

-- the parts of a text whose first character passes a test or doesn't
abbrev pub parted : Bool → ℕ → List (List ℕ) → List (List ℕ)
parted passes c parts = cond passes ([] ∷ parts) (onto_first c parts)

abbrev pub is_word : List ℕ → Bool
is_word word = not (is_empty word)

pub filter-word : (word : List ℕ) (words : List (List ℕ))
    → filter is_word (word ∷ words) ≡ unless_empty word ++ filter is_word words
filter-word [] words = refl
filter-word (c ∷ word) words = refl

-- the place of a loop over characters, and what is left there
pub drop-turn : (text yielded : List ℕ) (c : ℕ)
    → (length yielded < length text) × (c ≡ get_or text (length yielded) c)
    → drop (length yielded) text ≡ c ∷ drop (length (yielded ++ c ∷ [])) text
drop-turn text yielded c t =
    at_drop_more (λ rest. rest) text (length yielded) c t.0
    ∙ ap (λ x. x ∷ drop (length yielded + 1) text) (sym t.1)
    ∙ ap (λ n. c ∷ drop n text) (sym (length_push yielded c))

pub drop-end : (text yielded : List ℕ) → length text ≡ length yielded
    → drop (length yielded) text ≡ []
drop-end text yielded e = ap (λ n. drop n text) (sym e) ∙ drop-length text
