-- The paths of faults ascend.
use Rattle.std.proofs.Common.{◌≡◌, ℕ, zero, suc, ◌<◌, ◌≤◌, Bool, true, false, not, List, []}
use Rattle.std.proofs.Common.{◌∷◌, ◌++◌, length, Option, Some, None, refl, sym, ap, subst}
use Rattle.std.proofs.Common.{◌∙◌, append_assoc, length-append, arith, inl, inr}
use Rattle.std.specs.List.{filter_map, flat_map, cons_option}
use Rattle.std.proofs.lemmas.List.Elements.{filter_map-append}
use Rattle.wap_tokens.specs.declared.markup.document.TheConstants.{LEVEL_LIMIT}
use Rattle.wap_tokens.specs.declared.markup.deck.Deck.{Deck}
use Rattle.wap_tokens.specs.declared.markup.deck.Node.{Node}
use Rattle.wap_tokens.specs.declared.markup.deck.Item.{Item}
use Rattle.wap_tokens.specs.declared.markup.name.Tag.TheVariants as tags
use Rattle.wap_tokens.specs.markup.Tables.{is_same_tag}
use Rattle.wap_tokens.specs.markup.Trees.{node_of}
use Rattle.wap_tokens.specs.markup.Cards.{cards_of}
use Rattle.wap_tokens.specs.markup.Good.{Rule, rule_of, has_needs, names_of, holds_dos}
use Rattle.wap_deckcheck.specs.declared.fault.DeckFault.{DeckFault}
use Rattle.wap_deckcheck.specs.declared.fault.DeckFault.TheVariants as fault
use Rattle.wap_deckcheck.specs.Places.{Place, Level, inner_places, path_behind, items_places}
use Rattle.wap_deckcheck.specs.Places.{names_level, node_places, ids_level, places}
use Rattle.wap_deckcheck.specs.Faults.{is_misplaced, has_twice, fault_if, own_faults}
use Rattle.wap_deckcheck.specs.Faults.{node_faults, faults_at, lacks_card}
use Rattle.wap_deckcheck.specs.Order.{IsUpTo, IsUpToAll, Ascend, path_of, FaultsAscend}

-- ---- two paths

up-same : (p : List ℕ) → IsUpTo p p
up-same [] = tt
up-same (a ∷ p) = inr (refl, up-same p)

up-inner : (p t : List ℕ) → IsUpTo p (p ++ t)
up-inner [] t = tt
up-inner (a ∷ p) t = inr (refl, up-inner p t)

up-later : (p : List ℕ) (a b : ℕ) (s t : List ℕ) → a < b → IsUpTo (p ++ a ∷ s) (p ++ b ∷ t)
up-later [] a b s t less = inl less
up-later (c ∷ p) a b s t less = inr (refl, up-later p a b s t less)

-- ---- paths one after the other

abbrev AreUpTo : List (List ℕ) → List (List ℕ) → Type 0
AreUpTo [] ys = Unit {0}
AreUpTo (x ∷ xs) ys = IsUpToAll x ys × AreUpTo xs ys

all-append : (p : List ℕ) (xs ys : List (List ℕ)) → IsUpToAll p xs → IsUpToAll p ys
    → IsUpToAll p (xs ++ ys)
all-append p [] ys first next = next
all-append p (x ∷ xs) ys first next = (first.0, all-append p xs ys first.1 next)

ascend-append : (xs ys : List (List ℕ)) → Ascend xs → Ascend ys → AreUpTo xs ys → Ascend (xs ++ ys)
ascend-append [] ys first next up = next
ascend-append (x ∷ xs) ys first next up =
    (all-append x xs ys first.0 up.0, ascend-append xs ys first.1 next up.1)

-- ---- paths below a path

-- below the child of this number
pub record IsAt (path : List ℕ) (k : ℕ) (x : List ℕ) : Type 0 where
  pub rest : List ℕ
  pub is : x ≡ path ++ k ∷ rest

-- below the children from this number on
pub record IsBelow (path : List ℕ) (k : ℕ) (x : List ℕ) : Type 0 where
  pub number : ℕ
  pub rest : List ℕ
  pub from : k ≤ number
  pub is : x ≡ path ++ number ∷ rest

abbrev AreAt : List ℕ → ℕ → List (List ℕ) → Type 0
AreAt path k [] = Unit {0}
AreAt path k (x ∷ xs) = IsAt path k x × AreAt path k xs

abbrev AreBelow : List ℕ → ℕ → List (List ℕ) → Type 0
AreBelow path k [] = Unit {0}
AreBelow path k (x ∷ xs) = IsBelow path k x × AreBelow path k xs

below-at : (path : List ℕ) (k : ℕ) (xs ys : List (List ℕ)) → AreAt path k xs
    → AreBelow path (suc k) ys → AreBelow path k (xs ++ ys)
below-at path k [] [] at below = tt
below-at path k [] (y ∷ ys) at below = (
  record {
    number = below.0.number;
    rest = below.0.rest;
    from = lower below.0.number below.0.from;
    is = below.0.is;
  },
  below-at path k [] ys tt below.1,
) where
  lower : (n : ℕ) → suc k ≤ n → k ≤ n
  lower n high = omega arith
below-at path k (x ∷ xs) ys at below = (
  record { number = k; rest = at.0.rest; from = here; is = at.0.is },
  below-at path k xs ys at.1 below,
) where
  here : k ≤ k
  here = omega arith

at-inner : (path : List ℕ) (k : ℕ) (xs : List (List ℕ)) → AreBelow (path ++ k ∷ []) 0 xs
    → AreAt path k xs
at-inner path k [] below = tt
at-inner path k (x ∷ xs) below = (
  record {
    rest = below.0.number ∷ below.0.rest;
    is = below.0.is ∙ append_assoc path (k ∷ []) (below.0.number ∷ below.0.rest);
  },
  at-inner path k xs below.1,
)

all-later : (path : List ℕ) (k : ℕ) (x : List ℕ) (ys : List (List ℕ)) → IsAt path k x
    → AreBelow path (suc k) ys → IsUpToAll x ys
all-later path k x [] at below = tt
all-later path k x (y ∷ ys) at below = (
  subst (λ x. IsUpTo x y) (sym at.is) (subst (λ y. IsUpTo (path ++ k ∷ at.rest) y) (sym below.0.is)
      (up-later path k below.0.number at.rest below.0.rest (less below.0.number below.0.from))),
  all-later path k x ys at below.1,
) where
  less : (n : ℕ) → suc k ≤ n → k < n
  less n high = omega arith

are-later : (path : List ℕ) (k : ℕ) (xs ys : List (List ℕ)) → AreAt path k xs
    → AreBelow path (suc k) ys → AreUpTo xs ys
are-later path k [] ys at below = tt
are-later path k (x ∷ xs) ys at below =
    (all-later path k x ys at.0 below, are-later path k xs ys at.1 below)

all-inner : (p : List ℕ) (xs : List (List ℕ)) → AreBelow p 0 xs → IsUpToAll p xs
all-inner p [] below = tt
all-inner p (x ∷ xs) below = (
  subst (λ x. IsUpTo p x) (sym below.0.is) (up-inner p (below.0.number ∷ below.0.rest)),
  all-inner p xs below.1,
)

-- ---- places

abbrev place_paths : List Place → List (List ℕ)
place_paths [] = []
place_paths (place ∷ some) = place.path ∷ place_paths some

place_paths-append : (some others : List Place)
    → place_paths (some ++ others) ≡ place_paths some ++ place_paths others
place_paths-append [] others = refl
place_paths-append (place ∷ some) others =
    ap (λ paths. place.path ∷ paths) (place_paths-append some others)

-- paths that ascend, below a path, from the child of a number on
abbrev Ordered : List ℕ → ℕ → List (List ℕ) → Type 0
Ordered path k xs = Ascend xs × AreBelow path k xs

turn : (path : List ℕ) (k : ℕ) (xs ys : List (List ℕ)) → Ordered (path ++ k ∷ []) 0 xs
    → Ordered path (suc k) ys → Ordered path k (((path ++ k ∷ []) ∷ xs) ++ ys)
turn path k xs ys inner later =
    let at : AreAt path k ((path ++ k ∷ []) ∷ xs) =
    (record { rest = []; is = refl }, at-inner path k xs inner.1) in (
      ascend-append ((path ++ k ∷ []) ∷ xs) ys (all-inner (path ++ k ∷ []) xs inner.1, inner.0)
          later.0 (are-later path k ((path ++ k ∷ []) ∷ xs) ys at later.1),
      below-at path k ((path ++ k ∷ []) ∷ xs) ys at later.1,
    )

abbrev InnerOrdered : Level → Type 0
InnerOrdered level =
    (names : List (List ℕ)) (path : List ℕ) (node : Node)
    → Ordered path 0 (place_paths (level.inner names path node))

any-ordered : (level : Level) → InnerOrdered level → (others : List (List ℕ)) (path : List ℕ)
    (found : Option Node) → Ordered path 0 (place_paths (inner_places level others path found))
any-ordered level inner others path None = (tt, tt)
any-ordered level inner others path (Some node) = inner _ path node

items-ordered : (level : Level) → InnerOrdered level
    → (path : List ℕ) (rule : Rule) (earlier items : List Item)
    → Ordered path (length earlier) (place_paths (items_places level path rule earlier items))
items-ordered level inner path rule earlier [] = (tt, tt)
items-ordered level inner path rule earlier (item ∷ items) =
    let behind = path_behind path earlier in
    let within = inner_places level (level.others earlier) behind (node_of item) in
    let others = items_places level path rule (earlier ++ item ∷ []) items in
    let one_more : length (earlier ++ item ∷ []) ≡ suc (length earlier) =
    omega (arith, length-append earlier (item ∷ [])) in
    let later : Ordered path (suc (length earlier)) (place_paths others) =
    subst (λ (k : ℕ). Ordered path k (place_paths others)) one_more
    (items-ordered level inner path rule (earlier ++ item ∷ []) items) in
    subst (λ (xs : List (List ℕ)). Ordered path (length earlier) (behind ∷ xs))
    (sym (place_paths-append within others))
    (turn path (length earlier) (place_paths within) (place_paths others)
    (any-ordered level inner (level.others earlier) behind (node_of item)) later)

node-ordered : (levels : ℕ) (apart : Bool) (names : List (List ℕ)) (path : List ℕ) (node : Node)
    → Ordered path 0 (place_paths (node_places levels apart names path node))
unfolding node_places
node-ordered zero apart names path node = (tt, tt)
node-ordered (suc levels) apart names path node =
    items-ordered (names_level (node_places levels apart) apart (suc levels) names)
    (λ some inner one. node-ordered levels apart some inner one) path
    (rule_of node.tag) [] node.kids

places-ascend : (deck : Deck) → Ascend (place_paths (places deck))
places-ascend deck =
    (items-ordered ids_level (λ ids path node. node-ordered LEVEL_LIMIT
    (holds_dos node.tag) [] path node) [] (rule_of deck.root.tag) [] deck.root.kids).0

-- ---- faults

abbrev paths : List DeckFault → List (List ℕ)
paths = filter_map path_of

abbrev AreAll : List ℕ → List (List ℕ) → Type 0
AreAll p [] = Unit {0}
AreAll p (x ∷ xs) = (x ≡ p) × AreAll p xs

join : (p : List ℕ) (xs ys : List (List ℕ)) → AreAll p xs → AreAll p ys → AreAll p (xs ++ ys)
join p [] ys first next = next
join p (x ∷ xs) ys first next = (first.0, join p xs ys first.1 next)

both : (p : List ℕ) (some others : List DeckFault) → AreAll p (paths some) → AreAll p (paths others)
    → AreAll p (paths (some ++ others))
both p some others first next =
    subst (AreAll p) (sym (filter_map-append path_of some others))
    (join p (paths some) (paths others) first next)

fault_all : (p : List ℕ) (b : Bool) (one : DeckFault) → path_of one ≡ Some p
    → AreAll p (paths (fault_if b one))
fault_all p true one is =
    subst (λ (found : Option (List ℕ)). AreAll p (cons_option found [])) (sym is) (refl, tt)
fault_all p false one is = tt

own_all : (p : List ℕ) (node : Node) → AreAll p (paths (own_faults p node))
own_all p node =
    both p (fault_if (has_twice (names_of node)) (fault.Attr p)) _
    (fault_all p _ (fault.Attr p) refl)
    (both p (fault_if (not (has_needs (rule_of node.tag) node)) (fault.Missing p)) _
    (fault_all p _ (fault.Missing p) refl) (fault_all p _ (fault.Value p) refl))

node_all : (p : List ℕ) (others : List (List ℕ)) (own : Option (List ℕ)) (found : Option Node)
    → AreAll p (paths (node_faults p others own found))
node_all p others own None = tt
node_all p others own (Some node) =
    both p (own_faults p node) _ (own_all p node) (fault_all p _ (fault.DuplicateId p) refl)

place_all : (place : Place) → AreAll place.path (paths (faults_at place))
place_all place =
    both place.path (fault_if (is_misplaced place.rule place.earlier place.item)
    (fault.Child place.path)) _ (fault_all place.path _ (fault.Child place.path) refl)
    (node_all place.path place.others place.own (node_of place.item))

all-all : (q p : List ℕ) (xs : List (List ℕ)) → IsUpTo q p → AreAll p xs → IsUpToAll q xs
all-all q p [] up are = tt
all-all q p (x ∷ xs) up are = (subst (λ x. IsUpTo q x) (sym are.0) up, all-all q p xs up are.1)

ascend-all : (p : List ℕ) (xs : List (List ℕ)) → AreAll p xs → Ascend xs
ascend-all p [] are = tt
ascend-all p (x ∷ xs) are = (
  subst (λ x. IsUpToAll x xs) (sym are.0) (all-all p p xs (up-same p) are.1),
  ascend-all p xs are.1,
)

are-all : (p : List ℕ) (xs ys : List (List ℕ)) → AreAll p xs → IsUpToAll p ys → AreUpTo xs ys
are-all p [] ys are up = tt
are-all p (x ∷ xs) ys are up =
    (subst (λ x. IsUpToAll x ys) (sym are.0) up, are-all p xs ys are.1 up)

-- faults at one path, before faults that ascend and don't come before it
behind : (p : List ℕ) (some others : List DeckFault) → AreAll p (paths some)
    → IsUpToAll p (paths others) → Ascend (paths others) → Ascend (paths (some ++ others))
behind p some others are up next =
    subst Ascend (sym (filter_map-append path_of some others))
    (ascend-append (paths some) (paths others) (ascend-all p (paths some) are) next
    (are-all p (paths some) (paths others) are up))

judged-up : (q : List ℕ) (some : List Place) → IsUpToAll q (place_paths some)
    → IsUpToAll q (paths (flat_map faults_at some))
judged-up q [] up = tt
judged-up q (place ∷ some) up =
    subst (IsUpToAll q)
    (sym (filter_map-append path_of (faults_at place) (flat_map faults_at some)))
    (all-append q (paths (faults_at place)) (paths (flat_map faults_at some))
    (all-all q place.path (paths (faults_at place)) up.0 (place_all place)) (judged-up q some up.1))

judged-ascend : (some : List Place) → Ascend (place_paths some)
    → Ascend (paths (flat_map faults_at some))
judged-ascend [] ascend = tt
judged-ascend (place ∷ some) ascend =
    behind place.path (faults_at place) (flat_map faults_at some) (place_all place)
    (judged-up place.path some ascend.0) (judged-ascend some ascend.1)

from_root : (xs : List (List ℕ)) → IsUpToAll [] xs
from_root [] = tt
from_root (x ∷ xs) = (tt, from_root xs)

with_none : (b : Bool) (some : List DeckFault) → Ascend (paths some)
    → Ascend (paths (some ++ fault_if b fault.NoCard))
with_none b some ascend =
    subst Ascend (sym (filter_map-append path_of some (fault_if b fault.NoCard)))
    (ascend-append (paths some) (paths (fault_if b fault.NoCard)) ascend (none_ascend b)
    (up_none b (paths some))) where
      none_ascend : (b : Bool) → Ascend (paths (fault_if b fault.NoCard))
      none_ascend true = tt
      none_ascend false = tt

      all_none : (b : Bool) (p : List ℕ) → IsUpToAll p (paths (fault_if b fault.NoCard))
      all_none true p = tt
      all_none false p = tt

      up_none : (b : Bool) (xs : List (List ℕ)) → AreUpTo xs (paths (fault_if b fault.NoCard))
      up_none b [] = tt
      up_none b (x ∷ xs) = (all_none b x, up_none b xs)

pub faults_ascend : (deck : Deck) → FaultsAscend deck
faults_ascend deck =
    let last =
    with_none (lacks_card (cards_of deck)) (flat_map faults_at (places deck))
    (judged-ascend (places deck) (places-ascend deck)) in
    behind [] (fault_if (not (is_same_tag deck.root.tag tags.Wml)) (fault.Child [])) _
    (fault_all [] _ (fault.Child []) refl) (from_root _)
    (behind [] (own_faults [] deck.root) _ (own_all [] deck.root) (from_root _) last)
