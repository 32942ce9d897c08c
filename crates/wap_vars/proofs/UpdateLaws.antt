-- What is read after an update, and that updates keep the order.
use Rattle.std.proofs.Common.{◌≡◌, ◌≢◌, ℕ, Bool, true, false, cond, List, [], ◌∷◌}
use Rattle.std.proofs.Common.{Option, Some, None, refl, ap, sym, ◌∙◌}
use Rattle.std.specs.List.{AllByRecursion}
use Rattle.std.specs.List.Sorted.{IsStrictlySortedBy}
use Rattle.std.specs.BTreeMap.{is_at, insert_entry}
use Rattle.std.specs.Map.{lookup, keys_of, set_value}
use Rattle.std.specs.Ordering.{is_eq, match_ordering, ordering_reverse}
use Rattle.std.specs.declared.cmp.Ordering.{Ordering}
use Rattle.std.specs.declared.cmp.Ordering.TheVariants.{Less, Equal, Greater}
use Rattle.std.specs.Cmp.Lexicographic.{nat_list_cmp_total}
use Rattle.std.proofs.lemmas.Cmp.{tied_itself}
use Rattle.std.proofs.lemmas.Map.Lookups.{exact_bytes}
use Rattle.wap_base.specs.Texts.{text_cmp}
use Rattle.wap_vars.specs.Variables.{text_of, updated}
use Rattle.wap_vars.proofs.TextLaws.{lookup_by_order, other_place}

pub at_itself : (name : List ℕ) → is_at (text_cmp name) name ≡ true
at_itself name = ap is_eq (tied_itself nat_list_cmp_total name)

module _ (name text : List ℕ) where
  placed : List ℕ × List ℕ → List (List ℕ × List ℕ) → Ordering → List (List ℕ × List ℕ)
  placed e es order =
      match_ordering order ((name, text) ∷ e ∷ es) ((e.0, text) ∷ es)
      (e ∷ insert_entry text_cmp es name text)

  here_at : (e : List ℕ × List ℕ) (es : List (List ℕ × List ℕ)) (order : Ordering)
      → text_cmp name e.0 ≡ order
      → lookup (is_at (text_cmp name)) (insert_entry text_cmp es name text) ≡ Some text
      → lookup (is_at (text_cmp name)) (placed e es order) ≡ Some text
  unfolding placed
  here_at e es Less place rest =
      ap (λ (b : Bool). cond b (Some text) (lookup (is_at (text_cmp name)) (e ∷ es)))
      (at_itself name)
  here_at e es Equal place rest =
      ap (λ (b : Bool). cond b (Some text) (lookup (is_at (text_cmp name)) es)) (ap is_eq place)
  here_at e es Greater place rest =
      ap (λ (b : Bool).
      cond b (Some e.1) (lookup (is_at (text_cmp name)) (insert_entry text_cmp es name text)))
      (ap is_eq place)
      ∙ rest

  here : (vars : List (List ℕ × List ℕ))
      → lookup (is_at (text_cmp name)) (insert_entry text_cmp vars name text) ≡ Some text
  unfolding placed
  here [] = ap (λ (b : Bool). cond b (Some text) None) (at_itself name)
  here (e ∷ es) = here_at e es (text_cmp name e.0) refl (here es)

  module _ (other : List ℕ) (apart : other ≢ name) where
    found : List (List ℕ × List ℕ) → Option (List ℕ)
    found vars = lookup (is_at (text_cmp other)) vars

    passed : is_at (text_cmp other) name ≡ false
    passed = other_place other name (λ same. apart (sym same))

    elsewhere_at : (e : List ℕ × List ℕ) (es : List (List ℕ × List ℕ)) (order : Ordering)
        → text_cmp name e.0 ≡ order → found (insert_entry text_cmp es name text) ≡ found es
        → found (placed e es order) ≡ found (e ∷ es)
    unfolding placed found
    elsewhere_at e es Less place rest =
        ap (λ (b : Bool). cond b (Some text) (lookup (is_at (text_cmp other)) (e ∷ es))) passed
    elsewhere_at e es Equal place rest =
        let there : is_at (text_cmp other) e.0 ≡ false =
        ap (λ (key : List ℕ). is_at (text_cmp other) key) (sym (exact_bytes name e.0 place))
        ∙ passed in
        ap (λ (b : Bool). cond b (Some text) (lookup (is_at (text_cmp other)) es)) there
        ∙ sym (ap (λ (b : Bool). cond b (Some e.1) (lookup (is_at (text_cmp other)) es)) there)
    elsewhere_at e es Greater place rest =
        ap (λ (more : Option (List ℕ)). cond (is_at (text_cmp other) e.0) (Some e.1) more) rest

    elsewhere : (vars : List (List ℕ × List ℕ))
        → lookup (is_at (text_cmp other)) (insert_entry text_cmp vars name text)
        ≡ lookup (is_at (text_cmp other)) vars
    unfolding placed found
    elsewhere [] = ap (λ (b : Bool). cond b (Some text) None) passed
    elsewhere (e ∷ es) = elsewhere_at e es (text_cmp name e.0) refl (elsewhere es)

  below_at : (low : List ℕ) (e : List ℕ × List ℕ) (es : List (List ℕ × List ℕ)) (order : Ordering)
      → text_cmp low name ≡ Less
      → AllByRecursion (λ key. text_cmp low key ≡ Less) (keys_of (e ∷ es))
      → AllByRecursion (λ key. text_cmp low key ≡ Less)
      (keys_of (insert_entry text_cmp es name text))
      → AllByRecursion (λ key. text_cmp low key ≡ Less) (keys_of (placed e es order))
  unfolding placed
  below_at low e es Less below all rest = (below, all)
  below_at low e es Equal below all rest = all
  below_at low e es Greater below all rest = (all.0, rest)

  below : (low : List ℕ) (vars : List (List ℕ × List ℕ)) → text_cmp low name ≡ Less
      → AllByRecursion (λ key. text_cmp low key ≡ Less) (keys_of vars) → AllByRecursion
      (λ key. text_cmp low key ≡ Less) (keys_of (insert_entry text_cmp vars name text))
  unfolding placed
  below low [] less all = (less, tt)
  below low (e ∷ es) less all =
      below_at low e es (text_cmp name e.0) less all (below low es less all.1)

  above : (low mid : List ℕ) (keys : List (List ℕ)) → text_cmp low mid ≡ Less
      → AllByRecursion (λ key. text_cmp mid key ≡ Less) keys
      → AllByRecursion (λ key. text_cmp low key ≡ Less) keys
  above low mid [] less all = tt
  above low mid (key ∷ keys) less all =
      (nat_list_cmp_total.trans low mid key less all.0, above low mid keys less all.1)

  ordered_at : (e : List ℕ × List ℕ) (es : List (List ℕ × List ℕ)) (order : Ordering)
      → text_cmp name e.0 ≡ order → IsStrictlySortedBy text_cmp (keys_of (e ∷ es))
      → IsStrictlySortedBy text_cmp (keys_of (insert_entry text_cmp es name text))
      → IsStrictlySortedBy text_cmp (keys_of (placed e es order))
  unfolding placed IsStrictlySortedBy
  ordered_at e es Less place ordered rest =
      ((place, above name e.0 (keys_of es) place ordered.0), ordered)
  ordered_at e es Equal place ordered rest = ordered
  ordered_at e es Greater place ordered rest = (
    below e.0 es (nat_list_cmp_total.antisymm e.0 name ∙ ap ordering_reverse place) ordered.0,
    rest,
  )

  ordered_updated : (vars : List (List ℕ × List ℕ)) → IsStrictlySortedBy text_cmp (keys_of vars)
      → IsStrictlySortedBy text_cmp (keys_of (insert_entry text_cmp vars name text))
  unfolding placed IsStrictlySortedBy
  ordered_updated [] ordered = (tt, tt)
  ordered_updated (e ∷ es) ordered =
      ordered_at e es (text_cmp name e.0) refl ordered (ordered_updated es ordered.1)

  none_above : (es : List (List ℕ × List ℕ))
      → AllByRecursion (λ key. text_cmp name key ≡ Less) (keys_of es)
      → lookup (is_at (text_cmp name)) es ≡ None
  none_above [] all = refl
  none_above (e ∷ es) all =
      ap (λ (b : Bool). cond b (Some e.1) (lookup (is_at (text_cmp name)) es)) (ap is_eq all.0)
      ∙ none_above es all.1

  replaced_at : (e : List ℕ × List ℕ) (es : List (List ℕ × List ℕ)) (kept : List ℕ)
      (order : Ordering) → text_cmp name e.0 ≡ order
      → IsStrictlySortedBy text_cmp (keys_of (e ∷ es))
      → lookup (is_at (text_cmp name)) (e ∷ es) ≡ Some kept
      → (lookup (is_at (text_cmp name)) es ≡ Some kept
      → set_value (is_at (text_cmp name)) es text ≡ insert_entry text_cmp es name text)
      → set_value (is_at (text_cmp name)) (e ∷ es) text ≡ placed e es order
  unfolding placed IsStrictlySortedBy
  replaced_at e es kept Less place ordered there rest =
      let none : lookup (is_at (text_cmp name)) (e ∷ es) ≡ None =
      none_above (e ∷ es) (place, above name e.0 (keys_of es) place ordered.0) in
      absurd (cc (none, there))
  replaced_at e es kept Equal place ordered there rest =
      ap (λ (b : Bool). cond b ((e.0, text) ∷ es) (e ∷ set_value (is_at (text_cmp name)) es text))
      (ap is_eq place)
  replaced_at e es kept Greater place ordered there rest =
      ap (λ (b : Bool). cond b ((e.0, text) ∷ es) (e ∷ set_value (is_at (text_cmp name)) es text))
      (ap is_eq place)
      ∙ ap (λ (more : List (List ℕ × List ℕ)). e ∷ more) (rest (sym (ap (λ (b : Bool).
      cond b (Some e.1) (lookup (is_at (text_cmp name)) es)) (ap is_eq place)) ∙ there))

  replaced : (vars : List (List ℕ × List ℕ)) (kept : List ℕ)
      → IsStrictlySortedBy text_cmp (keys_of vars) → lookup (is_at (text_cmp name)) vars ≡ Some kept
      → set_value (is_at (text_cmp name)) vars text ≡ insert_entry text_cmp vars name text
  unfolding placed IsStrictlySortedBy
  replaced [] kept ordered there = absurd (cc there)
  replaced (e ∷ es) kept ordered there =
      replaced_at e es kept (text_cmp name e.0) refl ordered there (replaced es kept ordered.1)

-- a text that is put in the place of a kept one updates it
pub replaced_updated : (vars : List (List ℕ × List ℕ)) (name text kept : List ℕ)
    → IsStrictlySortedBy text_cmp (keys_of vars) → lookup (is_at (text_cmp name)) vars ≡ Some kept
    → set_value (is_at (text_cmp name)) vars text ≡ updated vars name text
replaced_updated vars name text kept ordered there = replaced name text vars kept ordered there

pub updated_here : (vars : List (List ℕ × List ℕ)) (name text : List ℕ)
    → text_of (updated vars name text) name ≡ Some text
updated_here vars name text =
    sym (lookup_by_order name (updated vars name text)) ∙ here name text vars

pub updated_elsewhere : (vars : List (List ℕ × List ℕ)) (name text other : List ℕ) → other ≢ name
    → text_of (updated vars name text) other ≡ text_of vars other
updated_elsewhere vars name text other apart =
    sym (lookup_by_order other (updated vars name text)) ∙ elsewhere name text other apart vars
    ∙ lookup_by_order other vars

pub updated_in_order : (vars : List (List ℕ × List ℕ)) (name text : List ℕ)
    → IsStrictlySortedBy text_cmp (keys_of vars)
    → IsStrictlySortedBy text_cmp (keys_of (updated vars name text))
updated_in_order vars name text ordered = ordered_updated name text vars ordered
