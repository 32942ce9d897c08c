-- What was saved leads back to the world in which it was saved.
use Rattle.std.proofs.Common.{◌≡◌, ℕ, ◌<◌, Bool, true, false, List, [], ◌∷◌, ◌++◌, length, take}
use Rattle.std.proofs.Common.{◌-◌}
use Rattle.std.proofs.Common.{Option, Some, None, refl, sym, ap, ◌∙◌, arith, slice_get}
use Rattle.std.proofs.lemmas.Option.{slice_get_within}
use Rattle.std.specs.Prelude.{is_some, nat_lt, if◌then◌else◌, map}
use Rattle.std.specs.List.{last_or}
use Rattle.std.specs.Option.{option_and_then, option_map_or, option_to_list}
use Rattle.wap_tokens.specs.declared.markup.deck.Deck.{Deck}
use Rattle.wap_tokens.specs.declared.markup.deck.Node.{Node}
use Rattle.wap_tokens.specs.markup.Cards.{cards_of}
use Rattle.wap_image.specs.declared.context_parts.parts.ContextParts.{ContextParts}
use Rattle.wap_world.specs.declared.history.Entry.{Entry}
use Rattle.wap_world.specs.Shelves.{Shelf}
use Rattle.wap_world.specs.World.{World, Place, place_in, place_of, last_entry, deck_at}
use Rattle.wap_world.specs.History.{all_but_last, in_deck}
use Rattle.wap_world.specs.session_laws.Standing.{StandsOnCard}
use Rattle.wap_state.specs.Saved.{saved_world}
use Rattle.wap_context.specs.Saved.{with_last_in}
use Rattle.wap_cli.specs.resume.Resuming.{world_with, world_over}

-- ---- the current card

-- a list whose last is this is all but the last, and this
last_splits : (x : Entry) (xs : List Entry) (last : Entry) → last_or (Some x) xs ≡ Some last
    → take (length xs) (x ∷ xs) ++ last ∷ [] ≡ x ∷ xs
last_splits x [] last is = ap (λ (e : Entry). e ∷ []) (sym (same x last is))
  where
    same : (one other : Entry) → ◌≡◌ {A = Option Entry} (Some one) (Some other) → one ≡ other
    same one other is = cc
last_splits x (y ∷ ys) last is =
    ap (λ (rest : List Entry). x ∷ rest) (last_splits y ys last is)

all_and_last : (history : List Entry) (last : Entry) → last_or None history ≡ Some last
    → all_but_last history ++ last ∷ [] ≡ history
all_and_last [] last is = absurd cc
all_and_last (x ∷ xs) last is =
    let fewer : length (x ∷ xs) - 1 ≡ length xs = omega arith in
    ap (λ (n : ℕ). take n (x ∷ xs) ++ last ∷ []) fewer ∙ last_splits x xs last is

-- a card that is there is one of its deck
is_below : (card : Option Node) (cards : List Node) (n : ℕ) → slice_get cards n ≡ card
    → is_some card ≡ true → n < length cards
is_below (Some node) cards n is some = slice_get_within cards n node is
is_below None cards n is some = absurd cc

-- so its number stays
stays_in : (b : Bool) (entry : Entry) (deck : Deck)
    → nat_lt entry.card (length (cards_of deck)) ≡ b → entry.card < length (cards_of deck)
    → (if b then entry else record entry { card = 0 }) ≡ entry
stays_in true entry deck is below = refl
stays_in false entry deck is below = absurd (grind (is, below, arith))

place_card : (entry : Entry) (deck : Deck) (card : Option Node)
    → slice_get (cards_of deck) entry.card ≡ card → is_some (place_in entry deck) ≡ true
    → is_some card ≡ true
place_card entry deck (Some node) is some = refl
place_card entry deck None is some =
    sym (ap (λ (o : Option Node). is_some (option_map_place entry deck o)) is) ∙ some
  where
    option_map_place : Entry → Deck → Option Node → Option Place
    option_map_place e d None = None
    option_map_place e d (Some node) = Some (record { url = e.url; deck = d; card = node })

-- a world with its current card in this deck
in_same : (world : World) (entry : Entry) (deck : Deck) → last_entry world ≡ Some entry
    → is_some (place_in entry deck) ≡ true → with_last_in deck world ≡ world
in_same world entry deck last some =
    let found = slice_get (cards_of deck) entry.card in
    let below = is_below found (cards_of deck) entry.card refl
    (place_card entry deck found refl some)
    in
    let kept : in_deck deck entry ≡ entry =
    stays_in (nat_lt entry.card (length (cards_of deck))) entry deck refl below in
    ap (λ (o : Option Entry). record world {
      history = all_but_last world.history ++ map (in_deck deck) (option_to_list o);
    }) last
    ∙ ap (λ (e : Entry). record world { history = all_but_last world.history ++ e ∷ [] }) kept
    ∙ ap (λ (history : List Entry). record world { history = history })
    (all_and_last world.history entry last)

-- over a shelf on which a world stands on a card, it is the same
pub over_same : (shelf : Shelf) (world : World) → StandsOnCard shelf world
    → world_over shelf world ≡ world
over_same shelf world stands = by (last_entry world) refl stands.card
  where
    there : (entry : Entry) (deck : Option Deck) → last_entry world ≡ Some entry
        → is_some (option_and_then (place_in entry) deck) ≡ true
        → option_map_or (λ d. with_last_in d world) deck world ≡ world
    there entry None last some = refl
    there entry (Some deck) last some = in_same world entry deck last some

    by : (last : Option Entry) → last_entry world ≡ last
        → is_some (option_and_then (place_of shelf) last) ≡ is_some last
        → option_map_or (λ deck. with_last_in deck world)
        (option_and_then (λ entry. deck_at shelf entry.url) last) world ≡ world
    by None last some = refl
    by (Some entry) last some = there entry (deck_at shelf entry.url) last some

-- ---- all of it

-- where all of the world was saved but for the turns of a key, which are these
pub made_again : (parts : ContextParts) (turns : ℕ) (world : World)
    → saved_world parts ≡ record world { budget = 0; turns = 0 } → world.budget ≡ turns
    → world_with parts turns ≡ record world { turns = turns }
made_again parts turns world whole budget =
    ap (λ (w : World). record w { budget = turns; turns = turns }) whole
    ∙ ap (λ (n : ℕ). record world { budget = n; turns = turns }) (sym budget)
