-- The winners of a list of pushes are one list.
use Rattle.std.proofs.Common.{◌≡◌, ℕ, Bool, true, false, List, [], ◌∷◌, map, Option, Some}
use Rattle.std.proofs.Common.{refl, ap, sym, subst, ◌∙◌, unwrap_or}
use Rattle.std.specs.Prelude.{find}
use Rattle.std.specs.List.{AllByRecursion}
use Rattle.std.specs.List.Sorted.{IsStrictlySortedBy}
use Rattle.std.specs.BTreeMap.{is_at}
use Rattle.std.specs.Map.{lookup, keys_of, values_of}
use Rattle.std.specs.Cmp.{eq_by_cmp_equiv}
use Rattle.std.specs.Ordering.{is_eq, ordering_reverse}
use Rattle.std.specs.declared.cmp.Ordering.{Ordering}
use Rattle.std.specs.declared.cmp.Ordering.TheVariants.{Less, Equal, Greater}
use Rattle.std.specs.Cmp.Lexicographic.{nat_list_cmp_total}
use Rattle.std.proofs.lemmas.Cmp.{tied_itself}
use Rattle.std.proofs.lemmas.Map.{lookup-none}
use Rattle.std.proofs.lemmas.Map.Keys.{sorted_tail, IsDistinct-from_sorted}
use Rattle.std.proofs.lemmas.Map.Entries.{lookup_head, lookup_tail, none_past_head, none_below_head}
use Rattle.std.proofs.lemmas.Map.Lookups.{exact_bytes}
use Rattle.wap_base.specs.Texts.{text_cmp}
use Rattle.wap_push.specs.declared.indication.Indication.{Indication}
use Rattle.wap_push.specs.Inbox.{is_of, winner_of, HaveWinners}
use Rattle.wap_push.specs.inside.Keyed.{Entry, IsUnder}
use Rattle.wap_push.proofs.Keys.{found_by_id, ids_are_keys}

-- ---- entries in order: equal look-ups give equal entries

abbrev under : List ℕ → List Entry → Option Indication
under id entries = lookup (is_at (text_cmp id)) entries

-- the first entry is found under its key
at_head : (x : Entry) (xs : List Entry) → under x.0 (x ∷ xs) ≡ Some x.1
at_head x xs = lookup_head (is_at (text_cmp x.0)) x xs
    (ap is_eq (tied_itself nat_list_cmp_total x.0))

module _ (x y : Entry) (xs ys : List Entry) (s : IsStrictlySortedBy text_cmp (keys_of (x ∷ xs)))
    (t : IsStrictlySortedBy text_cmp (keys_of (y ∷ ys)))
    (h : (id : List ℕ) → under id (x ∷ xs) ≡ under id (y ∷ ys)) where
  -- neither first key is below the other's
  by_heads : (r : Ordering) → text_cmp x.0 y.0 ≡ r → text_cmp x.0 y.0 ≡ Equal
  by_heads Less p =
      absurd (cc (
        at_head x xs,
        h x.0,
        lookup-none (is_at (text_cmp x.0)) (y ∷ ys)
            (none_below_head nat_list_cmp_total x.0 y ys t p),
      ))
  by_heads Equal p = p
  by_heads Greater p =
      absurd (cc (
        at_head y ys,
        h y.0,
        lookup-none (is_at (text_cmp y.0)) (x ∷ xs) (none_below_head nat_list_cmp_total y.0 x xs s
            (nat_list_cmp_total.antisymm y.0 x.0 ∙ ap ordering_reverse p)),
      ))

  -- so they are one
  heads : x.0 ≡ y.0
  heads = exact_bytes x.0 y.0 (by_heads (text_cmp x.0 y.0) refl)

  -- and so are the winners under them
  firsts : x.1 ≡ y.1
  firsts =
      let there : under x.0 (y ∷ ys) ≡ Some y.1 =
      ap (λ (id : List ℕ). under id (y ∷ ys)) heads ∙ at_head y ys in
      ap (λ (found : Option Indication). unwrap_or found x.1) (sym (at_head x xs) ∙ h x.0 ∙ there)

  -- what is found under another key is found among the rest
  tail_at : (id : List ℕ) (b : Bool) → is_at (text_cmp id) x.0 ≡ b → under id xs ≡ under id ys
  tail_at id true is =
      lookup-none (is_at (text_cmp id)) xs (none_past_head (eq_by_cmp_equiv nat_list_cmp_total) id x
      xs (IsDistinct-from_sorted text_cmp (keys_of (x ∷ xs)) s) is)
      ∙ sym (lookup-none (is_at (text_cmp id)) ys (none_past_head
      (eq_by_cmp_equiv nat_list_cmp_total) id y ys
      (IsDistinct-from_sorted text_cmp (keys_of (y ∷ ys)) t)
      (ap (λ (key : List ℕ). is_at (text_cmp id) key) (sym heads) ∙ is)))
  tail_at id false is =
      sym (lookup_tail (is_at (text_cmp id)) x xs is) ∙ h id
      ∙ lookup_tail (is_at (text_cmp id)) y ys
      (ap (λ (key : List ℕ). is_at (text_cmp id) key) (sym heads) ∙ is)

  -- so the rests have equal look-ups
  tails : (id : List ℕ) → under id xs ≡ under id ys
  tails id = tail_at id (is_at (text_cmp id) x.0) refl

-- entries with equal look-ups have the same winners
same : (es fs : List Entry) → IsStrictlySortedBy text_cmp (keys_of es)
    → IsStrictlySortedBy text_cmp (keys_of fs) → ((id : List ℕ) → under id es ≡ under id fs)
    → values_of es ≡ values_of fs
same [] [] s t h = refl
same [] (y ∷ ys) s t h = absurd (cc (h y.0, at_head y ys))
same (x ∷ xs) [] s t h = absurd (cc (h x.0, at_head x xs))
same (x ∷ xs) (y ∷ ys) s t h =
    let first : x.1 ≡ y.1 = firsts x y xs ys s t h in
    let rest : values_of xs ≡ values_of ys =
    same xs ys (sorted_tail text_cmp x.0 (keys_of xs) s) (sorted_tail text_cmp y.0 (keys_of ys) t)
    (tails x y xs ys s t h) in
    ap (λ (w : Indication). w ∷ values_of xs) first
    ∙ ap (λ (ws : List Indication). y.1 ∷ ws) rest

-- ---- winners under their identifiers

by_id : List Indication → List Entry
by_id winners = map (λ (winner : Indication). (winner.id, winner)) winners

-- winners stand under their identifiers
keyed : (winners : List Indication) → AllByRecursion IsUnder (by_id winners)
unfolding by_id
keyed [] = tt
keyed (w ∷ ws) = (refl, keyed ws)

-- and are what stands there
values : (winners : List Indication) → values_of (by_id winners) ≡ winners
unfolding by_id
values [] = refl
values (w ∷ ws) = ap (λ (rest : List Indication). w ∷ rest) (values ws)

-- the winners of pushes are in order
ordered : (pushes winners : List Indication) → HaveWinners pushes winners
    → IsStrictlySortedBy text_cmp (keys_of (by_id winners))
ordered pushes winners have =
    subst (IsStrictlySortedBy text_cmp)
    (sym (ids_are_keys (by_id winners) (keyed winners)
    ∙ ap (λ (all : List Indication). map (λ (winner : Indication). winner.id) all)
    (values winners)))
    have.ordered

-- and are found under their identifiers
got : (pushes winners : List Indication) → HaveWinners pushes winners → (id : List ℕ)
    → under id (by_id winners) ≡ winner_of pushes id
got pushes winners have id =
    found_by_id id (by_id winners) (keyed winners)
    ∙ ap (λ (all : List Indication). find (is_of id) all) (values winners)
    ∙ have.each id

-- two lists of winners are one
pub one : (pushes winners others : List Indication) → HaveWinners pushes winners
    → HaveWinners pushes others → winners ≡ others
one pushes winners others have other =
    sym (values winners)
    ∙ same (by_id winners) (by_id others) (ordered pushes winners have)
    (ordered pushes others other)
    (λ id. got pushes winners have id ∙ sym (got pushes others other id))
    ∙ values others
