-- Names that are all known take no more room than the table of all names that are known.
use Rattle.std.proofs.Common.{◌≡◌, ℕ, ◌+◌, ◌≤◌, Bool, true, false, cond, List, []}
use Rattle.std.proofs.Common.{◌∷◌, ◌++◌, refl, sym, ap, ◌∙◌, arith}
use Rattle.std.specs.Prelude.{◌||◌}
use Rattle.std.specs.List.{list_any}
use Rattle.std.specs.Cmp.Lexicographic.{same_text}
use Rattle.std.proofs.lemmas.Cmp.{nat_list_eq_equiv}
use Rattle.std.proofs.lemmas.List.Folds.{list_any-append}
use Rattle.wap_base.specs.Texts.{is_same_text}
use Rattle.wap_base.specs.Utf8.{utf8_len}
use Rattle.wap_tokens.specs.markup.Grammar.{with_name, table_size}

abbrev pub among : List ℕ → List (List ℕ) → Bool
among name names = list_any (is_same_text name) names

-- the room of the known names that aren't among some
unfree : Bool → List ℕ → ℕ
unfree true name = 0
unfree false name = utf8_len name + 1

free : List (List ℕ) → List (List ℕ) → ℕ
free names [] = 0
free names (name ∷ known) = unfree (among name names) name + free names known

pub record Bounded (known names : List (List ℕ)) : Type 0 where
  bound : table_size names + free names known ≤ table_size known

free_none : (known : List (List ℕ)) → free [] known ≡ table_size known
unfolding free unfree table_size
free_none [] = refl
free_none (name ∷ known) = let rest = free_none known in omega arith

pub bounded_none : (known : List (List ℕ)) → Bounded known []
unfolding table_size
bounded_none known = record { bound = (let all = free_none known in omega arith) }

pub bounded_size : (known names : List (List ℕ)) → Bounded known names
    → table_size names ≤ table_size known
bounded_size known names bounded = let bound = bounded.bound in omega arith

size_more : (names : List (List ℕ)) (name : List ℕ)
    → table_size (names ++ name ∷ []) ≡ table_size names + (utf8_len name + 1)
unfolding table_size
size_more [] name = omega arith
size_more (first ∷ names) name = let rest = size_more names name in omega arith

unfree_less : (a b : Bool) (name : List ℕ) → unfree (a || b) name ≤ unfree a name
unfolding unfree
unfree_less true b name = omega arith
unfree_less false true name = omega arith
unfree_less false false name = omega arith

unfree_grown : (names : List (List ℕ)) (more name : List ℕ)
    → unfree (among name (names ++ more ∷ [])) name ≤ unfree (among name names) name
unfree_grown names more name =
    let same =
    ap (λ (b : Bool). unfree b name) (list_any-append (is_same_text name) names (more ∷ [])) in
    let less = unfree_less (among name names) (is_same_text name more || false) name in
    omega arith

free_grown : (names : List (List ℕ)) (more : List ℕ) (known : List (List ℕ))
    → free (names ++ more ∷ []) known ≤ free names known
unfolding free
free_grown names more [] = omega arith
free_grown names more (name ∷ known) =
    let rest = free_grown names more known in
    let here = unfree_grown names more name in
    omega arith

or_last : (a : Bool) → (a || (true || false)) ≡ true
or_last true = refl
or_last false = refl

free_by : (names : List (List ℕ)) (more : List ℕ) (b : Bool) (name : List ℕ) (known : List (List ℕ))
    → is_same_text more name ≡ b
    → among more names ≡ false
    → (among more known ≡ true
    → free (names ++ more ∷ []) known + (utf8_len more + 1) ≤ free names known)
    → (b || among more known) ≡ true
    → free (names ++ more ∷ []) (name ∷ known) + (utf8_len more + 1) ≤ free names (name ∷ known)
unfolding free unfree
free_by names more true name known same new rest is =
    let are : more ≡ name = same_text more name (sym same) in
    let now : among name (names ++ more ∷ []) ≡ true =
    ap (λ (n : List ℕ). among n (names ++ more ∷ [])) (sym are)
    ∙ list_any-append (is_same_text more) names (more ∷ [])
    ∙ ap (λ (b : Bool). among more names || (b || false)) (nat_list_eq_equiv.refl more)
    ∙ or_last (among more names) in
    let before : among name names ≡ false = ap (λ (n : List ℕ). among n names) (sym are) ∙ new in
    let gone : unfree (among name (names ++ more ∷ [])) name ≡ 0 =
    ap (λ (b : Bool). unfree b name) now in
    let was : unfree (among name names) name ≡ utf8_len name + 1 =
    ap (λ (b : Bool). unfree b name) before in
    let long : utf8_len more ≡ utf8_len name = ap utf8_len are in
    let others = free_grown names more known in
    omega arith
free_by names more false name known same new rest is =
    let others = rest is in
    let here = unfree_grown names more name in
    omega arith

free_less : (names : List (List ℕ)) (more : List ℕ) (known : List (List ℕ))
    → among more names ≡ false → among more known ≡ true
    → free (names ++ more ∷ []) known + (utf8_len more + 1) ≤ free names known
free_less names more [] new is = absurd cc
free_less names more (name ∷ known) new is =
    free_by names more (is_same_text more name) name known refl new
    (free_less names more known new) is

bounded_by : (known names : List (List ℕ)) (name : List ℕ) (b : Bool) → among name names ≡ b
    → among name known ≡ true
    → Bounded known names → Bounded known (cond b names (names ++ name ∷ []))
bounded_by known names name true e is bounded = bounded
bounded_by known names name false e is bounded =
    let less = free_less names name known e is in
    let size = size_more names name in
    let bound = bounded.bound in
    record { bound = omega arith }

pub bounded_with : (known names : List (List ℕ)) (name : List ℕ) → among name known ≡ true
    → Bounded known names
    → Bounded known (with_name names name)
bounded_with known names name is bounded =
    bounded_by known names name (among name names) refl is bounded
