-- Words on one line, as far as they were joined.
use Rattle.std.proofs.Common.{◌≡◌, ℕ, ◌≤◌, List, [], ◌∷◌, ◌++◌, length, refl}
use Rattle.std.proofs.Common.{sym, ap, ◌∙◌, append_assoc, arith}
use Rattle.wap_layout.specs.Blanks.{joined}

-- one more word after others
pub joined-push : (word : List ℕ) (words : List (List ℕ)) (last : List ℕ)
    → joined ((word ∷ words) ++ last ∷ []) ≡ joined (word ∷ words) ++ 32 ∷ last
joined-push word [] last = refl
joined-push word (next ∷ words) last =
    ap (λ line. word ++ 32 ∷ line) (joined-push next words last)
    ∙ sym (append_assoc word (32 ∷ joined (next ∷ words)) (32 ∷ last))

pub joined-more : (words : List (List ℕ)) (last : List ℕ) → 1 ≤ length words
    → joined (words ++ last ∷ []) ≡ joined words ++ 32 ∷ last
joined-more [] last some = absurd (omega arith)
joined-more (word ∷ words) last some = joined-push word words last
