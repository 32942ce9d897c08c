-- Every key leaves a world that stands on a card.
use Rattle.std.proofs.Common.{◌≡◌, ◌<◌, true, List, [], ◌∷◌, ◌++◌, length, drop, Some, None, refl}
use Rattle.std.proofs.Common.{sym, ap, ◌∙◌}
use Rattle.std.specs.Prelude.{is_some, nat_lt, if◌then◌else◌}
use Rattle.std.specs.Option.{option_and_then}
use Rattle.std.specs.List.{last_or}
use Rattle.wap_url.specs.declared.url.Url.{Url}
use Rattle.wap_base.specs.declared.key.Key.{Key}
use Rattle.wap_tokens.specs.declared.markup.deck.Deck.{Deck}
use Rattle.wap_tokens.specs.markup.Cards.{cards_of, card_numbered}
use Rattle.wap_world.specs.declared.history.Entry.{Entry}
use Rattle.wap_world.specs.declared.timer.Timer.{Timer}
use Rattle.wap_world.specs.declared.timer.Timer.TheVariants.{NotStarted}
use Rattle.wap_world.specs.Shelves.{Shelf}
use Rattle.wap_world.specs.Sites.{Site}
use Rattle.wap_world.specs.Timers.{settled_timer}
use Rattle.wap_world.specs.World.{World, Place, place_in, place_of, deck_at, place_now, last_entry}
use Rattle.wap_world.specs.History.{pushed, entry_of, in_deck, back_at, all_but_last}
use Rattle.wap_world.specs.Tasks.{card_for}
use Rattle.wap_world.specs.Keys.{react}
use Rattle.wap_world.proofs.Entries.{last_pushed, pushed_some, item_some, fragment_below}
use Rattle.wap_world.proofs.Entries.{earlier_below, earlier_url}
use Rattle.wap_world.proofs.Alike.{Fact}
use Rattle.wap_world.proofs.Invariants.{Keeps, react_keeps}
use Rattle.wap_world.specs.session_laws.Standing.{HaveCards, StandsOnCard}
use Rattle.wap_world.specs.session_laws.Scripts.{ScriptsKeep}

-- ---- the last entry

-- an entry whose card is one of the deck under its URL
place_some : (shelf : Shelf) (entry : Entry) (deck : Deck) → deck_at shelf entry.url ≡ Some deck
    → entry.card < length (cards_of deck) → is_some (place_of shelf entry) ≡ true
place_some shelf entry deck has below =
    ap (λ o. is_some (option_and_then (place_in entry) o)) has
    ∙ item_some {Y = Place} (λ card. record { url = entry.url; deck = deck; card = card })
    (cards_of deck) entry.card below

-- a world whose last entry is such a one stands on a card
stands_at : (shelf : Shelf) (world : World) (others : List Entry) (entry : Entry) (deck : Deck)
    → world.history ≡ others ++ entry ∷ [] → deck_at shelf entry.url ≡ Some deck
    → entry.card < length (cards_of deck) → StandsOnCard shelf world
stands_at shelf world others entry deck is has below =
    let last : last_entry world ≡ Some entry =
    ap (last_or None) is ∙ last_pushed None others entry in
    record {
      card = ap (λ o. is_some (option_and_then (place_of shelf) o)) last
          ∙ place_some shelf entry deck has below ∙ sym (ap is_some last);
      timer = λ none. absurd (pushed_some others entry (sym is ∙ none));
    }

-- ---- each change of a world

abbrev pub Stands : Shelf → Fact
Stands shelf keys w = StandsOnCard shelf w

keeps_push : (shelf : Shelf) → HaveCards shelf → (world : World) (url : Url) (deck : Deck)
    → deck_at shelf url ≡ Some deck
    → StandsOnCard shelf (pushed world (entry_of url (card_for deck url)))
keeps_push shelf cards world url deck has =
    let others =
    if nat_lt (length world.history) world.limits.history then world.history
    else drop 1 world.history in
    let entry = entry_of url (card_for deck url) in
    stands_at shelf (pushed world entry) others entry deck refl has
    (fragment_below deck url.fragment
    (option_and_then (λ id. card_numbered id deck) url.fragment) refl (cards url deck has))

keeps_pop : (shelf : Shelf) → HaveCards shelf → (world : World) (earlier : Entry) (deck : Deck)
    → deck_at shelf earlier.url ≡ Some deck
    → StandsOnCard shelf (back_at world (in_deck deck earlier))
keeps_pop shelf cards world earlier deck has =
    let entry = in_deck deck earlier in
    let is_card = nat_lt earlier.card (length (cards_of deck)) in
    stands_at shelf (back_at world entry) (all_but_last (all_but_last world.history)) entry deck
    refl (ap (deck_at shelf) (earlier_url is_card earlier) ∙ has)
    (earlier_below deck earlier is_card refl (cards earlier.url deck has))

-- where there is a place, there is an entry
nowhere : (shelf : Shelf) (world : World) (place : Place) → world.history ≡ []
    → place_now shelf world ≡ Some place → ⊥
nowhere shelf world place none here =
    let is_none : place_now shelf world ≡ None =
    ap (λ (history : List Entry). option_and_then (place_of shelf) (last_or None history)) none in
    absurd (cc)

-- a timer that is settled is not started where it was not
settled_off : (timer : Timer) → timer ≡ NotStarted → settled_timer timer ≡ NotStarted
settled_off timer is = ap settled_timer is

pub standing_kept : (site : Site) → HaveCards site.shelf → Keeps (Stands site.shelf) site
standing_kept site cards = record {
  vars = λ k w v s. record { card = s.card; timer = s.timer };
  reset = λ k w s. record { card = s.card; timer = λ none. refl };
  timer = λ k w t place e here s. record {
    card = s.card;
    timer = λ none. absurd (nowhere site.shelf w place none here);
  };
  turn = λ k w n e s. record { card = s.card; timer = s.timer };
  clear = λ k w s. record { card = refl; timer = λ none. refl };
  push = λ k w url deck fine has s. keeps_push site.shelf cards w url deck has;
  pop = λ k w e deck fine has s. keeps_pop site.shelf cards w e deck has;
  begins = λ k w s. record { card = s.card; timer = s.timer };
  ends = λ k w s. record {
    card = s.card;
    timer = λ none. settled_off w.timer (s.timer none);
  };
}

pub keeps_standing : (site : Site) (one : Key) (keys : List Key) (world : World)
    → ScriptsKeep (StandsOnCard site.shelf) site → HaveCards site.shelf
    → StandsOnCard site.shelf world → StandsOnCard site.shelf (react site one keys world).world
keeps_standing site one keys world runs cards stands =
    react_keeps (Stands site.shelf) site (standing_kept site cards) runs one keys world
    (record { card = stands.card; timer = stands.timer })
