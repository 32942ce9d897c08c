-- The last entry of a history, and the cards of a deck by their numbers.
use Rattle.std.proofs.Common.{◌≡◌, ◌<◌, ℕ, Bool, true, List, [], ◌∷◌, ◌++◌, length, slice_get}
use Rattle.std.proofs.Common.{Option, Some, None, refl, ap, arith}
use Rattle.std.specs.Prelude.{is_some, position, unwrap_or, nat_lt, false, if◌then◌else◌}
use Rattle.std.specs.List.{last_or}
use Rattle.std.specs.Option.{option_map, option_and_then}
use Rattle.std.proofs.lemmas.Option.{slice_get-get_or}
use Rattle.std.proofs.lemmas.List.Quantifiers.{position-Some}
use Rattle.wap_tokens.specs.declared.markup.deck.Deck.{Deck}
use Rattle.wap_tokens.specs.markup.Trees.{is_text}
use Rattle.wap_tokens.specs.markup.Cards.{cards_of, id_of, card_numbered}
use Rattle.wap_world.specs.declared.history.Entry.{Entry}

-- ---- the last item of a list

-- one that is pushed after others is the last
pub last_pushed : {X : Type 0} (o : Option X) (xs : List X) (x : X)
    → last_or o (xs ++ x ∷ []) ≡ Some x
last_pushed o [] x = refl
last_pushed o (y ∷ ys) x = last_pushed (Some y) ys x

-- a list with an item more is not empty
pub pushed_some : {X : Type 0} (xs : List X) (x : X) → xs ++ x ∷ [] ≡ [] → ⊥
pushed_some [] x is = absurd (cc)
pushed_some (y ∷ ys) x is = absurd (cc)

last_some : {X : Type 0} (x : X) (xs : List X) → last_or (Some x) xs ≡ None → ⊥
last_some x [] is = absurd (cc)
last_some x (y ∷ ys) is = last_some y ys is

-- only an empty list has no last item
pub last_none : {X : Type 0} (xs : List X) → last_or None xs ≡ None → xs ≡ []
last_none [] is = refl
last_none (x ∷ xs) is = absurd (last_some x xs is)

-- ---- items by their numbers

pub item_some : {X Y : Type 0} (f : X → Y) (xs : List X) (n : ℕ) → n < length xs
    → is_some (option_map f (slice_get xs n)) ≡ true
item_some f [] n below = absurd (omega (below, arith))
item_some f (x ∷ xs) n below =
    ap (λ o. is_some (option_map f o)) (slice_get-get_or (x ∷ xs) n x below)

-- what is found in a list has a place in it
position_below : {X : Type 0} (p : X → Bool) (xs : List X) (n : ℕ) → position p xs ≡ Some n
    → n < length xs
position_below p [] n is = absurd (cc)
position_below p (x ∷ xs) n is = (position-Some p (x ∷ xs) n x is).0

-- a card that an id finds is one of the deck
pub numbered_below : (id : List ℕ) (deck : Deck) (n : ℕ) → card_numbered id deck ≡ Some n
    → n < length (cards_of deck)
numbered_below id deck n is =
    position_below (λ card. is_text id (id_of card)) (cards_of deck) n is

-- the card that a fragment names, else the first, is one of a deck that has a card
pub fragment_below : (deck : Deck) (fragment : Option (List ℕ)) (found : Option ℕ)
    → option_and_then (λ id. card_numbered id deck) fragment ≡ found → 0 < length (cards_of deck)
    → unwrap_or found 0 < length (cards_of deck)
fragment_below deck fragment None is some = some
fragment_below deck None (Some n) is some = absurd (cc)
fragment_below deck (Some id) (Some n) is some = numbered_below id deck n is

-- so is an earlier entry's card, else the first
pub earlier_below : (deck : Deck) (entry : Entry) (b : Bool)
    → nat_lt entry.card (length (cards_of deck)) ≡ b → 0 < length (cards_of deck)
    → (if b then entry else record entry { card = 0 }).card < length (cards_of deck)
earlier_below deck entry true is some = grind (is, arith)
earlier_below deck entry false is some = some

pub earlier_url : (b : Bool) (entry : Entry)
    → (if b then entry else record entry { card = 0 }).url ≡ entry.url
earlier_url true entry = refl
earlier_url false entry = refl
