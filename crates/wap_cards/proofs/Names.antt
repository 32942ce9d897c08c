-- What is no name is the name of no variable.
use Rattle.std.proofs.Common.{◌≡◌, ℕ, Bool, true, false, cond, List, []}
use Rattle.std.proofs.Common.{◌∷◌, Some, None, refl, ap, ◌∙◌}
use Rattle.std.specs.List.{All}
use Rattle.std.specs.Map.{keys_of}
use Rattle.std.specs.Cmp.Lexicographic.{bytes_decides}
use Rattle.std.proofs.lemmas.List.Elements.{All-head, All-tail}
use Rattle.wap_base.specs.Names.{is_name}
use Rattle.wap_base.specs.Texts.{is_same_text}
use Rattle.wap_vars.specs.Variables.{Variables, text_of, removed, AreVars}

module _ (name : List ℕ) (no_name : is_name name ≡ false) where
  other : (known : List ℕ) (same : Bool) → is_same_text name known ≡ same
      → is_name known ≡ true → same ≡ false
  other known true is named =
      let one : name ≡ known = (bytes_decides name known).0 is in
      absurd (cc (one, no_name, named))
  other known false is named = refl

  unset_by : (vars : Variables) → All (λ (known : List ℕ). is_name known ≡ true) (keys_of vars)
      → text_of vars name ≡ None
  unset_by [] named = refl
  unset_by (entry ∷ vars) named =
      ap (λ (b : Bool). cond b (Some entry.1) (text_of vars name))
      (other entry.0 (is_same_text name entry.0) refl
      (All-head (λ (known : List ℕ). is_name known ≡ true) entry.0 (keys_of vars) named))
      ∙ unset_by vars
      (All-tail (λ (known : List ℕ). is_name known ≡ true) entry.0 (keys_of vars) named)

  pub unset : (vars : Variables) → AreVars vars → text_of vars name ≡ None
  unset vars are = unset_by vars are.named

  kept_by : (vars : Variables) → All (λ (known : List ℕ). is_name known ≡ true) (keys_of vars)
      → removed vars name ≡ vars
  kept_by [] named = refl
  kept_by (entry ∷ vars) named =
      ap (λ (b : Bool). cond b vars (entry ∷ removed vars name))
      (other entry.0 (is_same_text name entry.0) refl
      (All-head (λ (known : List ℕ). is_name known ≡ true) entry.0 (keys_of vars) named))
      ∙ ap (λ (rest : Variables). entry ∷ rest) (kept_by vars
      (All-tail (λ (known : List ℕ). is_name known ≡ true) entry.0 (keys_of vars) named))

  -- nothing is removed
  pub kept : (vars : Variables) → AreVars vars → removed vars name ≡ vars
  kept vars are = kept_by vars are.named
