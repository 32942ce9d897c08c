-- The text under a name, looked up by the order of names.
use Rattle.std.proofs.Common.{◌≡◌, ◌≢◌, ℕ, Bool, false, cond, List, [], ◌∷◌}
use Rattle.std.proofs.Common.{Option, Some, None, refl, ap, sym, ◌∙◌}
use Rattle.std.specs.Option.{IfSome, option_copied}
use Rattle.std.specs.List.{All}
use Rattle.std.specs.BTreeMap.{is_at}
use Rattle.std.specs.Map.{lookup, remove_entry, values_of}
use Rattle.std.specs.Ordering.{is_eq}
use Rattle.std.specs.declared.cmp.Ordering.{Ordering}
use Rattle.std.specs.declared.cmp.Ordering.TheVariants.{Equal}
use Rattle.std.specs.Cmp.Lexicographic.{texts_ties}
use Rattle.std.proofs.lemmas.Bool.{cond_both}
use Rattle.std.proofs.lemmas.List.Elements.{All-head, All-tail}
use Rattle.std.proofs.lemmas.Map.Lookups.{exact_bytes}
use Rattle.wap_base.specs.Texts.{is_same_text, text_cmp}
use Rattle.wap_vars.specs.Variables.{text_of, removed}
use denote.Ref.{Bor}

-- a name is found by the order as it is by being the same
pub lookup_by_order : (name : List ℕ) (vars : List (List ℕ × List ℕ))
    → lookup (is_at (text_cmp name)) vars ≡ text_of vars name
lookup_by_order name [] = refl
lookup_by_order name (e ∷ es) =
    ap (λ (b : Bool). cond b (Some e.1) (lookup (is_at (text_cmp name)) es))
    (sym (texts_ties name e.0))
    ∙ ap (λ (rest : Option (List ℕ)). cond (is_same_text name e.0) (Some e.1) rest)
    (lookup_by_order name es)

pub removed_by_order : (name : List ℕ) (vars : List (List ℕ × List ℕ))
    → remove_entry (is_at (text_cmp name)) vars ≡ removed vars name
removed_by_order name [] = refl
removed_by_order name (e ∷ es) =
    ap (λ (b : Bool). cond b es (e ∷ remove_entry (is_at (text_cmp name)) es))
    (sym (texts_ties name e.0))
    ∙ ap (λ (rest : List (List ℕ × List ℕ)). cond (is_same_text name e.0) es (e ∷ rest))
    (removed_by_order name es)

not_equal : (order : Ordering) → (order ≡ Equal → ⊥) → is_eq order ≡ false
not_equal Equal apart = absurd (apart refl)
not_equal _ apart = refl

-- another name is not at the name's place
pub other_place : (name other : List ℕ) → other ≢ name → is_at (text_cmp name) other ≡ false
other_place name other apart =
    not_equal (text_cmp name other) (λ same. apart (sym (exact_bytes name other same)))

-- what is true of all texts is true of the one that is found
pub found_text : (P : List ℕ → Type 0) (test : List ℕ → Bool) (vars : List (List ℕ × List ℕ))
    → All P (values_of vars) → IfSome (lookup test vars) P
found_text P test [] all = tt
found_text P test (e ∷ es) all =
    cond_both (test e.0) (Some e.1) (lookup test es) (λ o. IfSome o P)
    (λ _. All-head P e.1 (values_of es) all)
    (λ _. found_text P test es (All-tail P e.1 (values_of es) all))

pub if_copied : (P : List ℕ → Type 0) (found : Option (Bor (List ℕ)))
    → IfSome (option_copied found) P → IfSome found (λ x. P x.now)
if_copied P None p = tt
if_copied P (Some x) p = p
