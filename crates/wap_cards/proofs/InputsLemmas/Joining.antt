-- Texts, as far as they were joined by semicolons.
use Rattle.std.proofs.Common.{◌≡◌, ℕ, zero, suc, ◌+◌, ◌≤◌, ◌<◌, List, [], ◌∷◌, ◌++◌, length, take}
use Rattle.std.proofs.Common.{get_or, refl, sym, ap, ◌∙◌, append_assoc, arith}
use Rattle.std.proofs.lemmas.List.{take_more}
use Rattle.wap_cardrules.specs.Selects.{joined}

-- one more word after others
pub joined-push : (word : List ℕ) (words : List (List ℕ)) (last : List ℕ)
    → joined ((word ∷ words) ++ last ∷ []) ≡ joined (word ∷ words) ++ 59 ∷ last
joined-push word [] last = refl
joined-push word (next ∷ words) last =
    ap (λ line. word ++ 59 ∷ line) (joined-push next words last)
    ∙ sym (append_assoc word (59 ∷ joined (next ∷ words)) (59 ∷ last))

pub joined-more : (words : List (List ℕ)) (last : List ℕ) → 1 ≤ length words
    → joined (words ++ last ∷ []) ≡ joined words ++ 59 ∷ last
joined-more [] last some = absurd (omega arith)
joined-more (word ∷ words) last some = joined-push word words last

-- the step of a loop over the words
pub joined-next : (words : List (List ℕ)) (place : ℕ) (word line before new : List ℕ)
    → place < length words → word ≡ get_or words place word → line ≡ joined (take place words)
    → (0 < place → before ≡ line ++ 59 ∷ []) → (place ≤ 0 → before ≡ line) → new ≡ before ++ word
    → new ≡ joined (take (place + 1) words)
joined-next [] place word line before new within at was behind first added = absurd (omega arith)
joined-next (w ∷ words) zero word line before new within at was behind first added =
    added ∙ ap (λ l. l ++ word) (first (omega arith) ∙ was) ∙ at
joined-next (w ∷ words) (suc place) word line before new within at was behind first added =
    added
    ∙ ap (λ l. l ++ word) (behind (omega arith) ∙ ap (λ l. l ++ 59 ∷ []) was)
    ∙ append_assoc (joined (take (suc place) (w ∷ words))) (59 ∷ []) word
    ∙ sym (joined-more (take (suc place) (w ∷ words)) word (omega arith))
    ∙ ap (λ l. joined (take (suc place) (w ∷ words) ++ l ∷ [])) at
    ∙ ap joined (sym (take_more (w ∷ words) (suc place) word within))
