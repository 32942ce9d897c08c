-- Texts that ascend, and texts of which none stands twice.
use Rattle.std.proofs.Common.{◌≡◌, ℕ, ◌+◌, ◌-◌, ◌<◌, ◌≤◌, Bool, false, List, []}
use Rattle.std.proofs.Common.{length, get_or, sym, ap, ◌∙◌, subst₂, arith}
use Rattle.std.specs.Prelude.{encode_utf8_all, IsTrue, ◌↔◌}
use Rattle.std.specs.List.{IsDistinct}
use Rattle.std.specs.List.Sorted.{IsPermutation, IsSorted}
use Rattle.std.specs.Cmp.{on_total}
use Rattle.std.specs.Cmp.Lexicographic.{nat_list_cmp_total, nat_list_eq_equiv, texts_ties}
use Rattle.std.specs.Ordering.{is_lt, is_eq, eq_by_cmp, ordering_reverse}
use Rattle.std.specs.declared.cmp.Ordering.{Ordering}
use Rattle.std.specs.declared.cmp.Ordering.TheVariants.{Less, Equal, Greater}
use Rattle.std.proofs.lemmas.List.{get_or_default}
use Rattle.std.proofs.lemmas.List.Sorted.{IsPermutation-sym}
use Rattle.std.proofs.lemmas.Map.Keys.{sorted_from_all_adjacent, Less-from_sorted}
use Rattle.std.proofs.lemmas.Map.Keys.{apart_from_distinct, IsDistinct-IsPermutation}
use Rattle.std.proofs.lemmas.Map.Keys.{IsDistinct-from_sorted, IsDistinct-from_apart}
use Rattle.wap_base.specs.Texts.{is_same_text, text_cmp, byte_cmp, AreAscending, AreDistinct}
use Rattle.wap_base.proofs.Utf8Order.{cmp-encode_utf8_all}

-- what is not after another, and is not it, is before it
pub less_from : (ab ba : Ordering) → ab ≡ ordering_reverse ba → is_lt ba ≡ false
    → is_eq ab ≡ false → ab ≡ Less
less_from ab Less flips not_after not_it = absurd cc
less_from ab Equal flips not_after not_it = absurd (cc (ap is_eq flips))
less_from ab Greater flips not_after not_it = flips

-- texts of which each comes before the next
pub ascending_from_adjacent : (texts : List (List ℕ))
    → ((k : ℕ) → k + 1 < length texts
    → text_cmp (get_or texts k []) (get_or texts (k + 1) []) ≡ Less) → AreAscending texts
ascending_from_adjacent texts rising =
    sorted_from_all_adjacent (on_total encode_utf8_all nat_list_cmp_total) texts [] (λ k within.
    cmp-encode_utf8_all (get_or texts k []) (get_or texts (k + 1) []) ∙ rising k within)

pub adjacent_from_ascending : (texts : List (List ℕ)) → AreAscending texts
    → (k : ℕ) → k + 1 < length texts → text_cmp (get_or texts k []) (get_or texts (k + 1) []) ≡ Less
adjacent_from_ascending texts rising k within =
    sym (cmp-encode_utf8_all (get_or texts k []) (get_or texts (k + 1) []))
    ∙ Less-from_sorted byte_cmp texts k (k + 1) [] rising (omega arith) within

-- a text that doesn't come before the next
pub not_ascending_at : (texts : List (List ℕ)) (i : ℕ) (a b : List ℕ) → 1 ≤ i → i < length texts
    → a ≡ get_or texts (i - 1) a → b ≡ get_or texts i b → is_lt (text_cmp a b) ≡ false
    → AreAscending texts → ⊥
not_ascending_at texts i a b low within a_is b_is not_before rising =
    let after : i - 1 + 1 ≡ i = omega arith in
    let a_there : get_or texts (i - 1) [] ≡ a =
    sym (a_is ∙ get_or_default texts (i - 1) a [] (omega arith)) in
    let b_there : get_or texts (i - 1 + 1) [] ≡ b =
    ap (λ (n : ℕ). get_or texts n []) after ∙ sym (b_is ∙ get_or_default texts i b [] within) in
    let before : text_cmp a b ≡ Less =
    subst₂ (λ (x y : List ℕ). text_cmp x y ≡ Less) a_there b_there
    (adjacent_from_ascending texts rising (i - 1) (omega arith)) in
    absurd (cc (ap is_lt before, not_before))

-- sorted texts of which none stands twice ascend
pub ascending_from_distinct : (texts sorted : List (List ℕ)) → AreDistinct texts
    → IsPermutation texts sorted → IsSorted text_cmp sorted → AreAscending sorted
ascending_from_distinct texts sorted apart moved rising =
    let still_apart : AreDistinct sorted =
    IsDistinct-IsPermutation is_same_text nat_list_eq_equiv.symm texts sorted moved apart in
    ascending_from_adjacent sorted (λ k within.
    let a = get_or sorted k [] in
    let b = get_or sorted (k + 1) [] in
    let differ : is_eq (text_cmp a b) ≡ false =
    sym (texts_ties a b)
    ∙ apart_from_distinct is_same_text sorted k (k + 1) [] still_apart (omega arith) within in
    less_from (text_cmp a b) (text_cmp b a) (nat_list_cmp_total.antisymm a b)
    (rising k [] (omega arith) within) differ)

-- of texts that ascend none stands twice
pub distinct_from_ascending : (texts : List (List ℕ)) → AreAscending texts → AreDistinct texts
distinct_from_ascending texts rising =
    let by_order : IsDistinct (eq_by_cmp byte_cmp) texts =
    IsDistinct-from_sorted byte_cmp texts rising in
    IsDistinct-from_apart is_same_text texts (λ i j d before within.
    texts_ties (get_or texts i d) (get_or texts j d)
    ∙ ap is_eq (sym (cmp-encode_utf8_all (get_or texts i d) (get_or texts j d)))
    ∙ apart_from_distinct (eq_by_cmp byte_cmp) texts i j d by_order before within)

-- so sorted texts ascend just where none of them stood twice, in whatever order they came
pub distinct_by_sorting : (texts sorted : List (List ℕ)) (ascend : Bool)
    → IsPermutation texts sorted → IsSorted text_cmp sorted → (IsTrue ascend ↔ AreAscending sorted)
    → IsTrue ascend ↔ AreDistinct texts
distinct_by_sorting texts sorted ascend moved rising known = (
  λ yes. IsDistinct-IsPermutation is_same_text nat_list_eq_equiv.symm sorted texts
      (IsPermutation-sym texts sorted moved) (distinct_from_ascending sorted (known.0 yes)),
  λ apart. known.1 (ascending_from_distinct texts sorted apart moved rising),
)
