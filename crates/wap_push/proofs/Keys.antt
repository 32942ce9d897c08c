-- Winners under their identifiers.
use Rattle.std.proofs.Common.{◌≡◌, ℕ, Bool, cond, List, [], ◌∷◌, map}
use Rattle.std.proofs.Common.{Option, Some, refl, ap, sym, ◌∙◌}
use Rattle.std.specs.Prelude.{find}
use Rattle.std.specs.List.{AllByRecursion}
use Rattle.std.specs.BTreeMap.{is_at, insert_entry}
use Rattle.std.specs.Map.{lookup, keys_of, values_of}
use Rattle.std.specs.Ordering.{match_ordering}
use Rattle.std.specs.declared.cmp.Ordering.{Ordering}
use Rattle.std.specs.declared.cmp.Ordering.TheVariants.{Less, Equal, Greater}
use Rattle.std.specs.Cmp.Lexicographic.{texts_ties}
use Rattle.std.proofs.lemmas.Map.Lookups.{exact_bytes}
use Rattle.wap_base.specs.Texts.{is_same_text, text_cmp}
use Rattle.wap_push.specs.declared.indication.Indication.{Indication}
use Rattle.wap_push.specs.Inbox.{is_of}
use Rattle.wap_push.specs.inside.Keyed.{Entry, IsUnder}

-- an identifier is looked up as the winners are searched for it
pub found_by_id : (id : List ℕ) (entries : List Entry) → AllByRecursion IsUnder entries
    → lookup (is_at (text_cmp id)) entries ≡ find (is_of id) (values_of entries)
found_by_id id [] keyed = refl
found_by_id id (e ∷ es) keyed =
    ap (λ (b : Bool). cond b (Some e.1) (lookup (is_at (text_cmp id)) es))
    (sym (texts_ties id e.0) ∙ ap (λ (key : List ℕ). is_same_text id key) keyed.0)
    ∙ ap (λ (rest : Option Indication). cond (is_of id e.1) (Some e.1) rest)
    (found_by_id id es keyed.1)

-- the identifiers are the keys
pub ids_are_keys : (entries : List Entry) → AllByRecursion IsUnder entries
    → keys_of entries ≡ map (λ (winner : Indication). winner.id) (values_of entries)
ids_are_keys [] keyed = refl
ids_are_keys (e ∷ es) keyed =
    ap (λ (key : List ℕ). key ∷ keys_of es) keyed.0
    ∙ ap (λ (rest : List (List ℕ)). e.1.id ∷ rest) (ids_are_keys es keyed.1)

module _ (key : List ℕ) (more : Indication) (under : key ≡ more.id) where
  placed_at : (e : Entry) (es : List Entry) (order : Ordering) → text_cmp key e.0 ≡ order
      → AllByRecursion IsUnder (e ∷ es) → AllByRecursion IsUnder (insert_entry text_cmp es key more)
      → AllByRecursion IsUnder (match_ordering order ((key, more) ∷ e ∷ es) ((e.0, more) ∷ es)
      (e ∷ insert_entry text_cmp es key more))
  placed_at e es Less place keyed rest = (under, keyed)
  placed_at e es Equal place keyed rest = (sym (exact_bytes key e.0 place) ∙ under, keyed.1)
  placed_at e es Greater place keyed rest = (keyed.0, rest)

  -- one more under its identifier
  pub keyed_with : (entries : List Entry) → AllByRecursion IsUnder entries
      → AllByRecursion IsUnder (insert_entry text_cmp entries key more)
  keyed_with [] keyed = (under, tt)
  keyed_with (e ∷ es) keyed =
      placed_at e es (text_cmp key e.0) refl keyed (keyed_with es keyed.1)
