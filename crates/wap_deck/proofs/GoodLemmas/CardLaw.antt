-- Cards, found by the places where they begin.
use Rattle.std.proofs.Common.{◌≡◌, ℕ, zero, suc, ◌+◌, ◌-◌, ◌<◌, ◌≤◌, Bool, true, false, cond, List}
use Rattle.std.proofs.Common.{[], ◌∷◌, ◌++◌, length, drop, Option, Some, None, Result, Ok, Err}
use Rattle.std.proofs.Common.{refl, sym, ap, subst, ◌∙◌, append_assoc, arith}
use Rattle.std.specs.Prelude.{if◌then◌else◌, is_some, slice_get, find, IfOk}
use Rattle.std.specs.List.{filter_map, cons_option, position_from}
use Rattle.std.specs.Option.{option_and_then}
use Rattle.std.proofs.lemmas.Iterator.Adapters.{position_from-zero}
use Rattle.wap_base.proofs.Choices.{some_same}
use Rattle.wap_base.specs.declared.name.Part.{Part}
use Rattle.wap_tokens.specs.declared.markup.document.TheConstants.{LEVEL_LIMIT}
use Rattle.wap_tokens.specs.declared.markup.deck.Deck.{Deck}
use Rattle.wap_tokens.specs.declared.markup.deck.Node.{Node}
use Rattle.wap_tokens.specs.declared.markup.deck.Item.{Item}
use Rattle.wap_tokens.specs.declared.markup.deck.Item.TheVariants as item
use Rattle.wap_tokens.specs.declared.markup.name.Tag.{Tag}
use Rattle.wap_tokens.specs.markup.Trees.{node_from, if_tagged, node_with, is_text}
use Rattle.wap_tokens.specs.markup.Tables.{is_same_tag}
use Rattle.wap_tokens.specs.markup.Cards.{cards_of, id_of, card_numbered}
use Rattle.wap_deck.specs.good.Readers.{◌>>=◌, all_of, Ends, IsBehind}
use Rattle.wap_deck.specs.good.Texts.{part_at, value_at, behind_value}
use Rattle.wap_deck.specs.good.inside.Nodes.{item_by, node_at, item_at, front_node, IsRead}
use Rattle.wap_deck.specs.good.inside.Nodes.{IsContent}
use Rattle.wap_deck.specs.declared.good.cards.Place.{Place}
use Rattle.wap_deck.specs.good.inside.KeptBytes.{deck_in, IsHeld, StandsAt, StandAt, tagged}
use Rattle.wap_base.specs.declared.fault.NoMemory.{NoMemory}
use Rattle.wap_deck.proofs.GoodLemmas.Runs.{fewer}
use Rattle.wap_deck.proofs.GoodLemmas.Taking.{item_takes}
use Rattle.wap_deck.proofs.GoodLemmas.Seen.{kids_seen, kids_end}
use Rattle.wap_deck.proofs.GoodLemmas.Layers.{out_node, out_text}
use Rattle.wap_deck.proofs.GoodLemmas.Opening.{seen}
use Rattle.wap_deck.proofs.GoodLemmas.Ending.{behind_place}
use Rattle.wap_deck.proofs.GoodLemmas.ChildLaw.{child_on, child_end}

-- ---- a child as a card

pub tagged_node : (tag : Tag) (node : Node)
    → node_with tag (item.Node node) ≡ (if is_same_tag node.tag tag then Some node else None)
tagged_node tag node = ap (λ level. if_tagged tag (node_from level)) (out_node node)

pub tagged_text : (tag : Tag) (parts : List Part) → node_with tag (item.Text parts) ≡ None
tagged_text tag parts = ap (λ level. if_tagged tag (node_from level)) (out_text parts)

-- a child that is a card is read as that node
tagged_is : (b : Bool) (node card : Node) → (if b then Some node else None) ≡ Some card
    → node ≡ card
tagged_is true node card e = some_same node card e
tagged_is false node card e = absurd cc

abbrev as_child : Node × List ℕ → Option (Item × List ℕ)
as_child x = Some (item.Node x.0, x.1)

module _ (tag : Tag) (table : List ℕ) (levels : ℕ) (bytes : List ℕ) (card : Node)
    (rest : List ℕ) where
  as_text : (one : Item) → one ≡ item.Text (value_at [] bytes) → node_with tag one ≡ Some card → ⊥
  as_text one is e =
      let none = sym (ap (node_with tag) is ∙ tagged_text tag (value_at [] bytes)) ∙ e in
      cc

  as_node : (o : Option (Node × List ℕ)) (one : Item) → (o >>= as_child) ≡ Some (one, rest)
      → node_with tag one ≡ Some card → o ≡ Some (card, rest)
  as_node (Some x) one e is =
      let same = some_same (item.Node x.0, x.1) (one, rest) e in
      let first : item.Node x.0 ≡ one = ap (λ (y : Item × List ℕ). y.0) same in
      let tagged = sym (tagged_node tag x.0) ∙ ap (node_with tag) first ∙ is in
      let here : x.0 ≡ card = tagged_is (is_same_tag x.0.tag tag) x.0 card tagged in
      ap (λ (n : Node). Some (n, x.1)) here
      ∙ ap (λ (l : List ℕ). Some (card, l)) (ap (λ (y : Item × List ℕ). y.1) same)
  as_node None one e is = absurd cc

  pub card_read : (one : Item) → item_at table levels bytes ≡ Some (one, rest)
      → node_with tag one ≡ Some card → node_at table levels bytes ≡ Some (card, rest)
  unfolding item_by
  card_read one e is = either (is_some (part_at bytes)) e
    where
      either : (b : Bool)
          → ◌≡◌ {A = Option (Item × List ℕ)}
          (if b then Some (item.Text (value_at [] bytes), behind_value bytes) else
          (node_at table levels bytes >>= as_child)) (Some (one, rest))
          → node_at table levels bytes ≡ Some (card, rest)
      either true text =
          absurd (as_text one (ap (λ (y : Item × List ℕ). y.0) (sym
          (some_same (item.Text (value_at [] bytes), behind_value bytes) (one, rest) text))) is)
      either false node = as_node (node_at table levels bytes) one node is

-- ---- places of the nodes of a tag among the children that are left

abbrev pub tagged_in : Tag → List Item → List Node
tagged_in tag = filter_map (node_with tag)

abbrev pub levels_below : ℕ
levels_below = LEVEL_LIMIT - 1

-- these places are those of such nodes among all children, if other places are those of the nodes
-- that are left
abbrev pub Placed : Tag → List ℕ → List ℕ → List Place → List Node → List ℕ → Type 0
Placed tag table bytes places all left =
    (others : List Place)
    → StandAt table bytes others (tagged_in tag (all_of (item_at table levels_below) left).0)
    → StandAt table bytes (places ++ others) all

module _ (tag : Tag) (table bytes : List ℕ) (places : List Place) (all : List Node)
    (left behind : List ℕ) (one : Item) (e : item_at table levels_below left ≡ Some (one, behind))
    (so : Placed tag table bytes places all left) where
  tagged_on : tagged_in tag (all_of (item_at table levels_below) left).0 ≡ cons_option
      (node_with tag one) (tagged_in tag (all_of (item_at table levels_below) behind).0)
  tagged_on = ap (tagged_in tag) (child_on table levels_below left one behind e)

  pub other_placed : node_with tag one ≡ None → Placed tag table bytes places all behind
  other_placed none = λ others stand.
      let same =
      tagged_on ∙ ap (λ found.
      cons_option found (tagged_in tag (all_of (item_at table levels_below) behind).0)) none in
      so others (subst (StandAt table bytes others) (sym same) stand)

  pub node_placed : (node : Node) (place : Place) → node_with tag one ≡ Some node
      → IsBehind left bytes → place.begin ≡ length bytes - length left
      → Placed tag table bytes (places ++ place ∷ []) all behind
  node_placed node place is ends at = λ others stand.
      let same =
      tagged_on ∙ ap (λ found.
      cons_option found (tagged_in tag (all_of (item_at table levels_below) behind).0)) is in
      let there : drop place.begin bytes ≡ left =
      ap (λ (n : ℕ). drop n bytes) at ∙ behind_place left bytes ends in
      let read =
      ap (node_at table levels_below) there
      ∙ card_read tag table levels_below left node behind one e is in
      let here : StandsAt table bytes place.begin node =
      record { within = omega arith; rest = behind; read = read } in
      subst (λ (l : List Place). StandAt table bytes l all)
      (sym (append_assoc places (place ∷ []) others))
      (so (place ∷ others) (subst (StandAt table bytes (place ∷ others)) (sym same) (here, stand)))

pub all_placed : (tag : Tag) (table bytes : List ℕ) (places : List Place) (all : List Node)
    (left : List ℕ) → item_at table levels_below left ≡ None
    → Placed tag table bytes places all left → StandAt table bytes (places ++ []) all
all_placed tag table bytes places all left e so =
    so [] (subst (StandAt table bytes [])
    (sym (ap (tagged_in tag) (child_end table levels_below left e))) tt)

-- ---- whether a child is a card

pub some_card : (found : Option Node) → is_some found ≡ true → (card : Node) × (found ≡ Some card)
some_card (Some card) is = (card, refl)
some_card None is = absurd cc

pub no_card : (found : Option Node) → is_some found ≡ false → found ≡ None
no_card (Some card) isnt = absurd cc
no_card None isnt = refl

pub child_shorter : (table bytes : List ℕ) (one : Item) (rest : List ℕ)
    → item_at table levels_below bytes ≡ Some (one, rest) → length rest < length bytes
child_shorter table bytes one rest e =
    fewer (item_at table levels_below) (item_takes table levels_below) bytes one rest e

-- ---- the nodes of a tag in a deck that is held

module _ (table : List ℕ) (root : ℕ) (bytes : List ℕ) (held : IsHeld table root bytes)
    (content : List ℕ) (there : IsContent (drop root bytes) content) where
  tagged_are : (tag : Tag)
      → tagged_in tag (all_of (item_at table levels_below) content).0
      ≡ tagged tag (deck_in table root bytes)
  unfolding deck_in
  tagged_are tag =
      ap (tagged_in tag)
      (kids_seen table LEVEL_LIMIT (drop root bytes) held.read
      (front_node table LEVEL_LIMIT (drop root bytes)) refl content there)

  pub content_ends : Ends (item_at table levels_below) content
  content_ends =
      kids_end table LEVEL_LIMIT (drop root bytes) held.read content there

  pub stand_in : (tag : Tag) (result : Result (List Place) NoMemory) → IfOk result (λ places.
      StandAt table bytes places
      (tagged_in tag (all_of (item_at table levels_below) content).0))
      → IfOk result (λ places.
      StandAt table bytes places (tagged tag (deck_in table root bytes)))
  stand_in tag (Ok places) stand =
      subst (StandAt table bytes places) (tagged_are tag) stand
  stand_in tag (Err want) stand = tt

-- ---- cards by their numbers

pub length-places : (table bytes : List ℕ) (places : List Place) (cards : List Node)
    → StandAt table bytes places cards → length places ≡ length cards
length-places table bytes [] [] stand = refl
length-places table bytes [] (card ∷ cards) stand = absurd stand
length-places table bytes (place ∷ places) [] stand = absurd stand
length-places table bytes (place ∷ places) (card ∷ cards) stand =
    ap suc (length-places table bytes places cards stand.1)

pub card_at : (table bytes : List ℕ) (places : List Place) (cards : List Node)
    → StandAt table bytes places cards → (number : ℕ) (place : Place)
    → slice_get places number ≡ Some place
    → (card : Node) × (slice_get cards number ≡ Some card) × StandsAt table bytes place.begin card
card_at table bytes [] cards stand number place e = absurd cc
card_at table bytes (first ∷ places) [] stand number place e = absurd stand
card_at table bytes (first ∷ places) (card ∷ cards) stand zero place e = (
  card,
  refl,
  subst (λ (p : Place). StandsAt table bytes p.begin card) (some_same first place e) stand.0,
)
card_at table bytes (first ∷ places) (card ∷ cards) stand (suc number) place e =
    card_at table bytes places cards stand.1 number place e

pub no_card_at : (table bytes : List ℕ) (places : List Place) (cards : List Node)
    → StandAt table bytes places cards → (number : ℕ) → slice_get places number ≡ None
    → slice_get cards number ≡ None
no_card_at table bytes [] [] stand number e = refl
no_card_at table bytes [] (card ∷ cards) stand number e = absurd stand
no_card_at table bytes (first ∷ places) [] stand number e = refl
no_card_at table bytes (first ∷ places) (card ∷ cards) stand zero e = absurd cc
no_card_at table bytes (first ∷ places) (card ∷ cards) stand (suc number) e =
    no_card_at table bytes places cards stand.1 number e

-- a place is where the node of its number is read
module _ (table bytes : List ℕ) (places : List Place) (nodes : List Node)
    (stand : StandAt table bytes places nodes) (number : ℕ) (place : Place)
    (e : slice_get places number ≡ Some place) where
  abbrev there : (node : Node) × (slice_get nodes number ≡ Some node)
      × StandsAt table bytes place.begin node
  there = card_at table bytes places nodes stand number place e

  pub place_within : place.begin ≤ length bytes
  place_within = there.2.within

  pub place_read : IsRead table levels_below (drop place.begin bytes)
  place_read = record { node = there.0; rest = there.2.rest; read = there.2.read }

  pub place_seen : Some (front_node table levels_below (drop place.begin bytes))
      ≡ slice_get nodes number
  place_seen =
      ap (λ (node : Node). Some node)
      (seen table levels_below (drop place.begin bytes) there.0 there.2.rest there.2.read)
      ∙ sym there.1

pub first_node : (nodes : List Node) → slice_get nodes 0 ≡ find (λ node. true) nodes
first_node [] = refl
first_node (node ∷ nodes) = refl

-- ---- cards by their ids

drop_get : {A : Type 0} (xs : List A) (number : ℕ) (x : A) → slice_get xs number ≡ Some x
    → drop number xs ≡ x ∷ drop (suc number) xs
drop_get [] number x e = absurd cc
drop_get (first ∷ xs) zero x e = ap (λ one. one ∷ xs) (some_same first x e)
drop_get (first ∷ xs) (suc number) x e = drop_get xs number x e

drop_past : {A : Type 0} (xs : List A) (number : ℕ) → length xs ≤ number → drop number xs ≡ []
drop_past [] zero past = refl
drop_past [] (suc number) past = refl
drop_past (first ∷ xs) zero past = absurd (omega arith)
drop_past (first ∷ xs) (suc number) past = drop_past xs number (omega arith)

past_none : {A : Type 0} (xs : List A) (number : ℕ) → slice_get xs number ≡ None
    → length xs ≤ number
past_none [] number e = omega arith
past_none (first ∷ xs) zero e = absurd cc
past_none (first ∷ xs) (suc number) e = let past = past_none xs number e in omega arith

module _ (deck : Deck) (id : List ℕ) where
  abbrev has_id : Node → Bool
  has_id card = is_text id (id_of card)

  -- no card before this number has the id
  abbrev pub Left : ℕ → Type 0
  Left number =
      position_from has_id 0 (cards_of deck)
      ≡ position_from has_id number (drop number (cards_of deck))

  numbered : card_numbered id deck ≡ position_from has_id 0 (cards_of deck)
  numbered = position_from-zero has_id (cards_of deck)

  module _ (number : ℕ) (card : Node) (so : Left number)
      (is : Some card ≡ slice_get (cards_of deck) number) where
    here : position_from has_id 0 (cards_of deck) ≡ cond (has_id card) (Some number)
        (position_from has_id (number + 1) (drop (number + 1) (cards_of deck)))
    here =
        let next : suc number ≡ number + 1 = omega arith in
        so ∙ ap (position_from has_id number) (drop_get (cards_of deck) number card (sym is)
        ∙ ap (λ (n : ℕ). card ∷ drop n (cards_of deck)) next)

    found_here : has_id card ≡ true → Some number ≡ card_numbered id deck
    found_here same =
        sym (numbered ∙ here ∙ ap (λ b. cond b (Some number)
        (position_from has_id (number + 1) (drop (number + 1) (cards_of deck)))) same)

    found_behind : has_id card ≡ false → Left (number + 1)
    found_behind other =
        here ∙ ap (λ b. cond b (Some number)
        (position_from has_id (number + 1) (drop (number + 1) (cards_of deck)))) other

  -- there is no card of this number
  no_card_behind : (number : ℕ) → Left number → None ≡ slice_get (cards_of deck) number
      → Left (number + 1)
  no_card_behind number so none =
      let past = past_none (cards_of deck) number (sym none) in
      let here : drop number (cards_of deck) ≡ [] = drop_past (cards_of deck) number past in
      let after : drop (number + 1) (cards_of deck) ≡ [] =
      drop_past (cards_of deck) (number + 1) (omega arith) in
      so ∙ ap (position_from has_id number) here
      ∙ sym (ap (position_from has_id (number + 1)) after)

  -- what is seen of the id at a number
  pub found_by : (number : ℕ) → Left number → (seen : Option Node)
      → seen ≡ slice_get (cards_of deck) number → is_text id (option_and_then id_of seen) ≡ true
      → Some number ≡ card_numbered id deck
  found_by number so None is same = absurd cc
  found_by number so (Some card) is same = found_here number card so is same

  pub passed_by : (number : ℕ) → Left number → (seen : Option Node)
      → seen ≡ slice_get (cards_of deck) number → is_text id (option_and_then id_of seen) ≡ false
      → Left (number + 1)
  passed_by number so None is other = no_card_behind number so is
  passed_by number so (Some card) is other = found_behind number card so is other

  pub found_nowhere : (number : ℕ) → Left number → length (cards_of deck) ≤ number
      → None ≡ card_numbered id deck
  found_nowhere number so past =
      sym (numbered ∙ so ∙ ap (position_from has_id number) (drop_past (cards_of deck) number past))
