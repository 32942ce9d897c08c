-- Forms, field by field.
use Rattle.std.proofs.Common.{◌≡◌, ℕ, zero, suc, ◌+◌, ◌≤◌, ◌<◌, List, [], ◌∷◌, ◌++◌, length, take}
use Rattle.std.proofs.Common.{get_or, refl, sym, ap, ◌∙◌, append_assoc, arith}
use Rattle.std.proofs.lemmas.List.{take_more}
use Rattle.wap_base.specs.Ascii.{ampersand}
use Rattle.wap_world.specs.Requests.{field_text, form_text}

abbrev Post : Type 0
Post = List ℕ × List ℕ

-- one more field after others
form-push : (post : Post) (posts : List Post) (last : Post)
    → form_text ((post ∷ posts) ++ last ∷ [])
    ≡ form_text (post ∷ posts) ++ ampersand ∷ field_text last
form-push post [] last = refl
form-push post (next ∷ posts) last =
    ap (λ form. field_text post ++ ampersand ∷ form) (form-push next posts last)
    ∙ sym (append_assoc (field_text post) (ampersand ∷ form_text (next ∷ posts))
    (ampersand ∷ field_text last))

form-more : (posts : List Post) (last : Post) → 1 ≤ length posts
    → form_text (posts ++ last ∷ []) ≡ form_text posts ++ ampersand ∷ field_text last
form-more [] last some = absurd (omega arith)
form-more (post ∷ posts) last some = form-push post posts last

-- the step of a loop over the fields
pub form-next : (posts : List Post) (place : ℕ) (post : Post) (form before new : List ℕ)
    → place < length posts
    → post ≡ get_or posts place post → form ≡ form_text (take place posts)
    → (0 < place → before ≡ form ++ ampersand ∷ [])
    → (place ≤ 0 → before ≡ form) → new ≡ before ++ field_text post
    → new ≡ form_text (take (place + 1) posts)
form-next [] place post form before new within at was behind first added = absurd (omega arith)
form-next (p ∷ posts) zero post form before new within at was behind first added =
    added ∙ ap (λ l. l ++ field_text post) (first (omega arith) ∙ was) ∙ ap field_text at
form-next (p ∷ posts) (suc place) post form before new within at was behind first added =
    let fields = take (suc place) (p ∷ posts) in
    added
    ∙ ap (λ l. l ++ field_text post) (behind (omega arith) ∙ ap (λ l. l ++ ampersand ∷ []) was)
    ∙ append_assoc (form_text fields) (ampersand ∷ []) (field_text post)
    ∙ sym (form-more fields post (omega arith))
    ∙ ap (λ (one : Post). form_text (fields ++ one ∷ [])) at
    ∙ ap form_text (sym (take_more (p ∷ posts) (suc place) post within))
