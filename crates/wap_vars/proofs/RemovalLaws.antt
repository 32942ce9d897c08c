-- What is read after a name is removed, and that the order stays.
use Rattle.std.proofs.Common.{◌≡◌, ◌≢◌, ℕ, Bool, cond, List, Option, None, ap, sym, ◌∙◌}
use Rattle.std.specs.Cmp.{eq_by_cmp_equiv}
use Rattle.std.specs.List.Sorted.{IsStrictlySortedBy}
use Rattle.std.specs.BTreeMap.{is_at}
use Rattle.std.specs.Map.{remove_entry, keys_of}
use Rattle.std.specs.Cmp.Lexicographic.{nat_list_cmp_total}
use Rattle.std.proofs.lemmas.Map.{lookup-remove_entry}
use Rattle.std.proofs.lemmas.Map.Keys.{IsDistinct-from_sorted}
use Rattle.wap_base.specs.Texts.{text_cmp}
use Rattle.wap_vars.specs.Variables.{text_of, removed}
use Rattle.wap_vars.proofs.TextLaws.{lookup_by_order, removed_by_order, other_place}
use Rattle.wap_vars.proofs.UpdateLaws.{at_itself}

after : (vars : List (List ℕ × List ℕ)) (name other : List ℕ)
    → IsStrictlySortedBy text_cmp (keys_of vars)
    → text_of (removed vars name) other
    ≡ cond (is_at (text_cmp name) other) None (text_of vars other)
after vars name other ordered =
    let laws = eq_by_cmp_equiv nat_list_cmp_total in
    ap (λ (left : List (List ℕ × List ℕ)). text_of left other) (sym (removed_by_order name vars))
    ∙ sym (lookup_by_order other (remove_entry (is_at (text_cmp name)) vars))
    ∙ lookup-remove_entry laws (is_at (text_cmp name)) (λ x y. laws.congr name x y) other vars
    (IsDistinct-from_sorted text_cmp (keys_of vars) ordered)
    ∙ ap (λ (found : Option (List ℕ)). cond (is_at (text_cmp name) other) None found)
    (lookup_by_order other vars)

pub removed_here : (vars : List (List ℕ × List ℕ)) (name : List ℕ)
    → IsStrictlySortedBy text_cmp (keys_of vars) → text_of (removed vars name) name ≡ None
removed_here vars name ordered =
    after vars name name ordered
    ∙ ap (λ (b : Bool). cond b None (text_of vars name)) (at_itself name)

pub removed_elsewhere : (vars : List (List ℕ × List ℕ)) (name other : List ℕ)
    → IsStrictlySortedBy text_cmp (keys_of vars) → other ≢ name
    → text_of (removed vars name) other ≡ text_of vars other
removed_elsewhere vars name other ordered apart =
    after vars name other ordered
    ∙ ap (λ (b : Bool). cond b None (text_of vars other)) (other_place name other apart)
