-- What is found in tables that are lists of pairs.
use Rattle.std.proofs.Common.{◌≡◌, Bool, true, false, cond, List, Option, [], ◌∷◌, Some}
use Rattle.std.proofs.Common.{None, refl, sym, ◌∙◌, ap, subst, inl, inr}
use Rattle.std.specs.List.{list_all}
use Rattle.std.specs.Map.{lookup}
use Rattle.std.proofs.lemmas.Option.{same_Some}
use Rattle.std.proofs.lemmas.Bool.{cases_Bool, and_parts, cond-true, cond-false}

-- what holds of each row holds of the one that is found
pub found_passes : {K V : Type 0} (test : K → Bool) (p : K × V → Bool) (rows : List (K × V)) (v : V)
    → list_all p rows ≡ true → lookup test rows ≡ Some v
    → (k : K) × (test k ≡ true) × (p (k, v) ≡ true)
found_passes test p [] v all found = absurd (cc found)
found_passes test p (row ∷ rows) v all found =
    let parts = and_parts (p row) (list_all p rows) all in
    elim (cases_Bool (test row.0)) [
      | inl is ↦ (
        row.0,
        is,
        subst (λ u. p (row.0, u) ≡ true)
            (same_Some row.1 v (sym (cond-true (test row.0) _ _ is) ∙ found)) parts.0,
      )
      | inr isnt ↦
          found_passes test p rows v parts.1 (sym (cond-false (test row.0) _ _ isnt) ∙ found)
    ]

-- two tests that agree on what is in a table find the same there
pub lookup_alike : {K V : Type 0} (plain : K → Bool) (test other : K → Bool) (rows : List (K × V))
    → ((k : K) → plain k ≡ true → test k ≡ other k) → list_all (λ row. plain row.0) rows ≡ true
    → lookup test rows ≡ lookup other rows
lookup_alike plain test other [] agree all = refl
lookup_alike plain test other (row ∷ rows) agree all =
    let parts = and_parts (plain row.0) (list_all (λ row. plain row.0) rows) all in
    ap (λ b. cond b (Some row.1) (lookup test rows)) (agree row.0 parts.0) ∙ ap (λ found.
    cond (other row.0) (Some row.1) found) (lookup_alike plain test other rows agree parts.1)

-- whether two answers are the same, by a test of what they give
abbrev pub is_same_option : {V : Type 0} → (V → V → Bool) → Option V → Option V → Bool
is_same_option same None None = true
is_same_option same (Some v) (Some w) = same v w
is_same_option same _ _ = false

pub same_option : {V : Type 0} (same : V → V → Bool) → ((v w : V) → same v w ≡ true → v ≡ w)
    → (a b : Option V) → is_same_option same a b ≡ true → a ≡ b
same_option same tells None None so = refl
same_option same tells None (Some w) so = absurd (cc so)
same_option same tells (Some v) None so = absurd (cc so)
same_option same tells (Some v) (Some w) so = ap Some (tells v w so)
