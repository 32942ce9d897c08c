-- The winners that are calculated are the winners.
use Rattle.std.proofs.Common.{◌≡◌, ℕ, Bool, true, false, cond, List, [], ◌∷◌, map, Option, Some}
use Rattle.std.proofs.Common.{None, refl, ap, sym, subst, ◌∙◌}
use Rattle.std.specs.Prelude.{find, ◌↔◌}
use Rattle.std.specs.List.{AllByRecursion, filter_map, cons_option}
use Rattle.std.specs.List.Sorted.{IsStrictlySortedBy}
use Rattle.std.specs.BTreeSet.{insert_key}
use Rattle.std.specs.Ordering.{match_ordering, ordering_reverse}
use Rattle.std.specs.declared.cmp.Ordering.{Ordering}
use Rattle.std.specs.declared.cmp.Ordering.TheVariants.{Less, Equal, Greater}
use Rattle.std.specs.Cmp.Lexicographic.{bytes_decides, nat_list_cmp_total}
use Rattle.std.proofs.lemmas.Map.Lookups.{exact_bytes}
use Rattle.wap_base.specs.Texts.{is_same_text, text_cmp}
use Rattle.wap_push.specs.declared.indication.Indication.{Indication}
use Rattle.wap_push.specs.Inbox.{is_of, later, winner_of, HaveWinners}
use Rattle.wap_push.proofs.Winner.{own_first, other_first, winner_found}
use Rattle.wap_push.proofs.One.{one}
use Rattle.wap_world.specs.inboxes.Winners.{ids_of, winners_of}

-- ---- identifiers in ascending order

-- what is so of all keys and of one more, is so of all with it
all_with : (P : List ℕ → Type 0) (k : List ℕ) (xs : List (List ℕ)) → AllByRecursion P xs → P k
    → AllByRecursion P (insert_key text_cmp xs k)
all_with P k [] all p = (p, tt)
all_with P k (x ∷ xs) all p = by (text_cmp k x) (all_with P k xs all.1 p) where
  by : (r : Ordering) → AllByRecursion P (insert_key text_cmp xs k)
      → AllByRecursion P (match_ordering r (k ∷ x ∷ xs) (x ∷ xs) (x ∷ insert_key text_cmp xs k))
  by Less rest = (p, all)
  by Equal rest = all
  by Greater rest = (all.0, rest)

-- what stands after the second of two keys stands after the first
all_after : (k x : List ℕ) (xs : List (List ℕ)) → text_cmp k x ≡ Less
    → AllByRecursion (λ y. text_cmp x y ≡ Less) xs → AllByRecursion (λ y. text_cmp k y ≡ Less) xs
all_after k x [] below all = tt
all_after k x (y ∷ ys) below all =
    (nat_list_cmp_total.trans k x y below all.0, all_after k x ys below all.1)

-- one key more goes to its place
sorted_with : (k : List ℕ) (xs : List (List ℕ)) → IsStrictlySortedBy text_cmp xs
    → IsStrictlySortedBy text_cmp (insert_key text_cmp xs k)
unfolding IsStrictlySortedBy
sorted_with k [] sorted = (tt, tt)
sorted_with k (x ∷ xs) sorted = by (text_cmp k x) refl (sorted_with k xs sorted.1) where
  by : (r : Ordering) → text_cmp k x ≡ r → IsStrictlySortedBy text_cmp (insert_key text_cmp xs k)
      → IsStrictlySortedBy text_cmp
      (match_ordering r (k ∷ x ∷ xs) (x ∷ xs) (x ∷ insert_key text_cmp xs k))
  by Less is rest = ((is, all_after k x xs is sorted.0), sorted)
  by Equal is rest = sorted
  by Greater is rest = (
    all_with (λ y. text_cmp x y ≡ Less) k xs sorted.0
        (nat_list_cmp_total.antisymm x k ∙ ap ordering_reverse is),
    rest,
  )

-- the identifiers ascend
ids_sorted : (pushes : List Indication) → IsStrictlySortedBy text_cmp (ids_of pushes)
unfolding IsStrictlySortedBy
ids_sorted [] = tt
ids_sorted (p ∷ ps) = sorted_with p.id (ids_of ps) (ids_sorted ps)

-- ---- which identifiers there are

abbrev is_in : List ℕ → List (List ℕ) → Bool
is_in id [] = false
is_in id (x ∷ xs) = cond (is_same_text id x) true (is_in id xs)

-- both orders of two tests
either : (a b c : Bool) → cond a true (cond b true c) ≡ cond b true (cond a true c)
either true true c = refl
either true false c = refl
either false b c = refl

-- an equal one is there already
there_already : (a b c : Bool) → a ≡ b → cond b true c ≡ cond a true (cond b true c)
there_already true b c same = ap (λ (x : Bool). cond x true c) (sym same)
there_already false b c same = refl

in_with : (id k : List ℕ) (xs : List (List ℕ))
    → is_in id (insert_key text_cmp xs k) ≡ cond (is_same_text id k) true (is_in id xs)
in_with id k [] = refl
in_with id k (x ∷ xs) = by (text_cmp k x) refl (in_with id k xs) where
  by : (r : Ordering) → text_cmp k x ≡ r
      → is_in id (insert_key text_cmp xs k) ≡ cond (is_same_text id k) true (is_in id xs)
      → is_in id (match_ordering r (k ∷ x ∷ xs) (x ∷ xs) (x ∷ insert_key text_cmp xs k))
      ≡ cond (is_same_text id k) true (is_in id (x ∷ xs))
  by Less is rest = refl
  by Equal is rest =
      there_already (is_same_text id k) (is_same_text id x) (is_in id xs)
      (ap (λ (key : List ℕ). is_same_text id key) (exact_bytes k x is))
  by Greater is rest =
      ap (λ (b : Bool). cond (is_same_text id x) true b) rest
      ∙ either (is_same_text id x) (is_same_text id k) (is_in id xs)

-- ---- identifiers have winners, and only they

-- no winner of an identifier that isn't there
no_winner : (id : List ℕ) (pushes : List Indication) → is_in id (ids_of pushes) ≡ false
    → winner_of pushes id ≡ None
no_winner id [] absent = refl
no_winner id (p ∷ ps) absent =
    by (is_of id p) refl (sym (in_with id p.id (ids_of ps)) ∙ absent) (no_winner id ps) where
      by : (b : Bool) → is_of id p ≡ b → cond (is_of id p) true (is_in id (ids_of ps)) ≡ false
          → (is_in id (ids_of ps) ≡ false → winner_of ps id ≡ None)
          → winner_of (p ∷ ps) id ≡ None
      by true is gone others =
          absurd (cc (ap (λ (b : Bool). cond b true (is_in id (ids_of ps))) is, gone))
      by false is gone others =
          other_first id p ps is
          ∙ others (sym (ap (λ (b : Bool). cond b true (is_in id (ids_of ps))) is) ∙ gone)

abbrev HasWinner : List Indication → List ℕ → Type 0
HasWinner pushes id = (w : Indication) × (winner_of pushes id ≡ Some w)

-- a winner of each that is
some_winner : (id : List ℕ) (pushes : List Indication) → is_in id (ids_of pushes) ≡ true
    → HasWinner pushes id
some_winner id [] there = absurd (cc there)
some_winner id (p ∷ ps) there =
    by (is_of id p) refl (sym (in_with id p.id (ids_of ps)) ∙ there) (some_winner id ps) where
      by : (b : Bool) → is_of id p ≡ b → cond (is_of id p) true (is_in id (ids_of ps)) ≡ true
          → (is_in id (ids_of ps) ≡ true → HasWinner ps id)
          → HasWinner (p ∷ ps) id
      by true is given others = (later p (winner_of ps id), own_first id p ps is)
      by false is given others =
          let rest =
          others (sym (ap (λ (b : Bool). cond b true (is_in id (ids_of ps))) is) ∙ given) in
          (rest.0, other_first id p ps is ∙ rest.1)

-- a winner has its identifier
winner_id : (pushes : List Indication) (id : List ℕ) (w : Indication)
    → winner_of pushes id ≡ Some w → id ≡ w.id
winner_id pushes id w is = (bytes_decides id w.id).0 (winner_found pushes id w is).own

-- ---- the winners of some identifiers

module _ (pushes : List Indication) where
  abbrev AllHave : List (List ℕ) → Type 0
  AllHave ids = AllByRecursion (HasWinner pushes) ids

  -- the winner of the first, and those of the rest
  next_winner : (x : List ℕ) (xs : List (List ℕ)) (w : Indication) → winner_of pushes x ≡ Some w
      → filter_map (winner_of pushes) (x ∷ xs) ≡ w ∷ filter_map (winner_of pushes) xs
  next_winner x xs w is =
      ap (λ (found : Option Indication). cons_option found (filter_map (winner_of pushes) xs)) is

  -- their identifiers are these
  ids_are : (ids : List (List ℕ)) → AllHave ids
      → map (λ (w : Indication). w.id) (filter_map (winner_of pushes) ids) ≡ ids
  ids_are [] have = refl
  ids_are (x ∷ xs) have =
      let (w, is) = have.0 in
      ap (map (λ (w : Indication). w.id)) (next_winner x xs w is)
      ∙ ap (λ (id : List ℕ). id ∷ map (λ (w : Indication). w.id)
      (filter_map (winner_of pushes) xs)) (sym (winner_id pushes x w is))
      ∙ ap (λ (rest : List (List ℕ)). x ∷ rest) (ids_are xs have.1)

  -- an identifier is looked for among them
  found_at : (id x : List ℕ) (xs : List (List ℕ)) (w : Indication) (b : Bool)
      → is_same_text id x ≡ b → winner_of pushes x ≡ Some w
      → find (is_of id) (filter_map (winner_of pushes) xs)
      ≡ cond (is_in id xs) (winner_of pushes id) None
      → cond b (Some w) (find (is_of id) (filter_map (winner_of pushes) xs))
      ≡ cond (cond b true (is_in id xs)) (winner_of pushes id) None
  found_at id x xs w true same is rest =
      sym is ∙ ap (winner_of pushes) (sym ((bytes_decides id x).0 same))
  found_at id x xs w false same is rest = rest

  found_among : (id : List ℕ) (ids : List (List ℕ)) → AllHave ids
      → find (is_of id) (filter_map (winner_of pushes) ids)
      ≡ cond (is_in id ids) (winner_of pushes id) None
  found_among id [] have = refl
  found_among id (x ∷ xs) have =
      let (w, is) = have.0 in
      let same : is_of id w ≡ is_same_text id x =
      ap (λ (key : List ℕ). is_same_text id key) (sym (winner_id pushes x w is)) in
      ap (find (is_of id)) (next_winner x xs w is)
      ∙ ap (λ (b : Bool). cond b (Some w) (find (is_of id) (filter_map (winner_of pushes) xs))) same
      ∙ found_at id x xs w (is_same_text id x) refl is (found_among id xs have.1)
      ∙ refl

  -- each identifier that is among them has a winner
  all_have : (ids : List (List ℕ)) → ((id : List ℕ) → is_in id ids ≡ true → HasWinner pushes id)
      → AllHave ids
  all_have [] each = tt
  all_have (x ∷ xs) each = (
    each x (ap (λ (b : Bool). cond b true (is_in x xs)) ((bytes_decides x x).1 refl)),
    all_have xs (λ id there. each id (later_one (is_same_text id x) (is_in id xs) there)),
  )
    where
      later_one : (a b : Bool) → b ≡ true → cond a true b ≡ true
      later_one true b is = refl
      later_one false b is = is

  have : AllHave (ids_of pushes)
  have = all_have (ids_of pushes) (λ id there. some_winner id pushes there)

  at_last : (id : List ℕ) (b : Bool) → is_in id (ids_of pushes) ≡ b
      → cond b (winner_of pushes id) None ≡ winner_of pushes id
  at_last id true there = refl
  at_last id false absent = sym (no_winner id pushes absent)

  -- the winners that are calculated are the winners
  pub calculated : HaveWinners pushes (winners_of pushes)
  calculated = record {
    ordered =
        subst (IsStrictlySortedBy text_cmp) (sym (ids_are (ids_of pushes) have))
        (ids_sorted pushes);
    each = λ id. found_among id (ids_of pushes) have
        ∙ at_last id (is_in id (ids_of pushes)) refl;
  }

  -- and no others are
  pub exactly : (winners : List Indication)
      → HaveWinners pushes winners ↔ (winners ≡ winners_of pushes)
  exactly winners = (
    λ have. one pushes winners (winners_of pushes) have calculated,
    λ is. subst (HaveWinners pushes) (sym is) calculated,
  )
