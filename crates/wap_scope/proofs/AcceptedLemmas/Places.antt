-- Places of names, and all items of a list by what stands around each.
use Rattle.std.proofs.Common.{◌≡◌, ℕ, ◌<◌, Bool, true, false, ◌||◌, List, [], ◌∷◌, ◌++◌}
use Rattle.std.proofs.Common.{length, map, All, refl, sym, ap, ◌∙◌, arith}
use mathlib.Core.Bool.{or-true}
use Rattle.std.specs.List.{list_any, position_or_len}
use Rattle.std.specs.Prelude.{slice_get}
use Rattle.std.specs.Cmp.Lexicographic.{bytes_decides}
use Rattle.std.proofs.lemmas.List.Elements.{All-nil, All-cons}
use Rattle.std.proofs.lemmas.List.Folds.{find_at, list_any-append}
use Rattle.wap_base.specs.Texts.{is_same_text}
use Rattle.wap_grammar.specs.declared.program.program.Function.{Function}
use Rattle.wap_scope.specs.Names.{function_named}
use Rattle.wap_scope.specs.accepted.Known.{place_of, IsAmong}

-- what holds of each item, by what stands before it and after it, holds of all
pub all_by_places : {X : Type 0} (P : X → Type 0) (xs : List X) →
    ((before : List X) (here : X) (after : List X) → xs ≡ before ++ here ∷ after → P here) →
    All P xs
all_by_places P [] each = All-nil P
all_by_places P (x ∷ xs) each =
    All-cons P x xs (each [] x xs refl) (all_by_places P xs (λ before here after is.
    each (x ∷ before) here after (ap (λ xs. x ∷ xs) is)))

-- where a test passes somewhere, its first place is there
pub first_within : {X : Type 0} (test : X → Bool) (xs : List X) → list_any test xs ≡ true →
    position_or_len test xs < length xs
first_within test [] any = absurd (cc any)
first_within test (x ∷ xs) any = by_first (test x) refl (first_within test xs) where
  by_first : (b : Bool) → test x ≡ b →
      (list_any test xs ≡ true → position_or_len test xs < length xs) →
      position_or_len test (x ∷ xs) < length (x ∷ xs)
  by_first true is later = rw is (omega arith)
  by_first false is later =
      let rest : list_any test xs ≡ true = rw is at any in
      rw is (omega (arith, later rest))

-- a name that is among some is among those and more
pub among_first : (name : List ℕ) (xs ys : List (List ℕ)) →
    list_any (is_same_text name) xs ≡ true → IsAmong name (xs ++ ys)
among_first name xs ys any =
    first_within (is_same_text name) (xs ++ ys)
    (list_any-append (is_same_text name) xs ys
    ∙ ap (λ (b : Bool). b || list_any (is_same_text name) ys) any)

-- a name is among those that it stands in
pub among_itself : (name : List ℕ) (xs ys : List (List ℕ)) → IsAmong name (xs ++ name ∷ ys)
among_itself name xs ys =
    first_within (is_same_text name) (xs ++ name ∷ ys)
    (list_any-append (is_same_text name) xs (name ∷ ys)
    ∙ ap (λ (b : Bool). list_any (is_same_text name) xs || (b || list_any (is_same_text name) ys))
    ((bytes_decides name name).1 refl)
    ∙ or-true (list_any (is_same_text name) xs))

-- the function of a name stands at the name's place
pub function_there : (name : List ℕ) (fs : List Function) →
    slice_get fs (place_of name (map (λ (f : Function). f.name.name) fs))
    ≡ function_named name fs
function_there name fs =
    ap (slice_get fs) (same_place name fs)
    ∙ sym (find_at (λ (f : Function). is_same_text name f.name.name) fs) where
      same_place : (name : List ℕ) (fs : List Function) →
          place_of name (map (λ (f : Function). f.name.name) fs)
          ≡ position_or_len (λ (f : Function). is_same_text name f.name.name) fs
      same_place name [] = refl
      same_place name (f ∷ fs) = rw (same_place name fs) refl
