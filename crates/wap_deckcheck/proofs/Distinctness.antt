-- Texts that stay distinct.
use Rattle.std.proofs.Common.{◌≡◌, ℕ, false, ◌||◌, List, [], ◌∷◌, ◌++◌}
use Rattle.std.proofs.Common.{Option, Some, None, refl, sym, ap, subst, ◌∙◌}
use Rattle.std.specs.List.{list_any, AllByRecursion, IsDistinct}
use Rattle.std.specs.Option.{option_to_list}
use Rattle.std.specs.Cmp.Lexicographic.{nat_list_eq_equiv}
use Rattle.std.proofs.lemmas.List.{append-nil}
use Rattle.std.proofs.lemmas.Bool.{or_parts}
use Rattle.wap_base.specs.Texts.{is_same_text, AreDistinct}
use Rattle.wap_deckcheck.specs.Faults.{is_taken}

each_last : (P : List ℕ → Type 0) (texts : List (List ℕ)) (last : List ℕ) → AllByRecursion P texts
    → P last → AllByRecursion P (texts ++ last ∷ [])
each_last P [] last each is = (is, tt)
each_last P (text ∷ texts) last each is = (each.0, each_last P texts last each.1 is)

last_apart : (texts : List (List ℕ)) (last : List ℕ) → list_any (is_same_text last) texts ≡ false
    → AreDistinct texts → AreDistinct (texts ++ last ∷ [])
unfolding IsDistinct
last_apart [] last none distinct = (tt, tt)
last_apart (text ∷ texts) last none distinct =
    let both = or_parts (is_same_text last text) (list_any (is_same_text last) texts) none in (
      each_last (λ other. is_same_text text other ≡ false) texts last distinct.0
          (nat_list_eq_equiv.symm text last ∙ both.0),
      last_apart texts last both.1 distinct.1,
    )

pub taken_last : (texts : List (List ℕ)) (last : Option (List ℕ)) → is_taken texts last ≡ false
    → AreDistinct texts → AreDistinct (texts ++ option_to_list last)
taken_last texts None none distinct = subst AreDistinct (sym (append-nil texts)) distinct
taken_last texts (Some last) none distinct = last_apart texts last none distinct

-- ---- and those that are distinct

each_first : (P : List ℕ → Type 0) (texts more : List (List ℕ)) → AllByRecursion P (texts ++ more)
    → AllByRecursion P texts
each_first P [] more each = tt
each_first P (text ∷ texts) more each = (each.0, each_first P texts more each.1)

pub distinct_before : (texts more : List (List ℕ)) → AreDistinct (texts ++ more) → AreDistinct texts
unfolding IsDistinct
distinct_before [] more distinct = tt
distinct_before (text ∷ texts) more distinct = (
  each_first (λ other. is_same_text text other ≡ false) texts more distinct.0,
  distinct_before texts more distinct.1,
)

each_end : (P : List ℕ → Type 0) (texts : List (List ℕ)) (last : List ℕ)
    → AllByRecursion P (texts ++ last ∷ []) → P last
each_end P [] last each = each.0
each_end P (text ∷ texts) last each = each_end P texts last each.1

last_free : (texts : List (List ℕ)) (last : List ℕ) → AreDistinct (texts ++ last ∷ [])
    → list_any (is_same_text last) texts ≡ false
unfolding IsDistinct
last_free [] last distinct = refl
last_free (text ∷ texts) last distinct =
    ap (λ b. b || list_any (is_same_text last) texts)
    (nat_list_eq_equiv.symm last text
    ∙ each_end (λ other. is_same_text text other ≡ false) texts last distinct.0)
    ∙ last_free texts last distinct.1

pub taken_no_more : (texts : List (List ℕ)) (last : Option (List ℕ))
    → AreDistinct (texts ++ option_to_list last) → is_taken texts last ≡ false
taken_no_more texts None distinct = refl
taken_no_more texts (Some last) distinct = last_free texts last distinct
