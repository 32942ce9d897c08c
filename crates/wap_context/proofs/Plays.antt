-- Scenes, one after another, and where a card is at hand.
use Rattle.std.proofs.Common.{◌≡◌, ◌∙◌, ℕ, List, [], ◌∷◌, ◌++◌, Option, Some, None, Ok, Err, true}
use Rattle.std.proofs.Common.{refl, sym, ap, ap₂, subst, append_assoc}
pub use Rattle.std.proofs.lemmas.Result.{on_ok_weaker as on_ok}
use Rattle.std.specs.List.{last_or}
use Rattle.std.specs.Prelude.{Result, OnOk, IfOk, is_some}
use Rattle.std.specs.Option.{option_map, option_and_then}
use Rattle.std.proofs.lemmas.Bool.{false≢true}
use Rattle.wap_url.specs.declared.url.Url.{Url}
use Rattle.wap_tokens.specs.declared.markup.deck.Deck.{Deck}
use Rattle.wap_cardrules.specs.declared.event.Event.{Event}
use Rattle.wap_cardrules.specs.Events.{binding}
use Rattle.wap_cardrules.specs.Values.{Pairs}
use Rattle.wap_world.specs.Shelves.{Shelf}
use Rattle.wap_world.specs.declared.history.Entry.{Entry}
use Rattle.wap_world.specs.World.{World, Place, place_in, deck_at, last_entry}
use Rattle.wap_world.specs.Steps.{Scene, behind, and_then}
use Rattle.wap_world.specs.Screens.{at_place, restart_place}
use Rattle.wap_world.specs.Entering.{event_task}
use Rattle.wap_world.specs.Tasks.{leave_and_set, refresh}
use Rattle.wap_context.specs.Browsers.{Browser, IsOver, place_held, Shows}
use Rattle.wap_state.specs.CardAtHand.{Held, held_in, placed}
use Rattle.wap_state.specs.Scenes.{Line, Plays}
use Rattle.wap_context.specs.inside.AtHand.{held}
use Rattle.wap_state.proofs.Scenes.{plays_still, plays_then}
use Rattle.wap_context.proofs.Places.{is_at, is_nowhere}

-- ---- at the place

pub history_kept : (scene : Scene) (old new : World) (before after : List Line)
    → Plays scene old new before after → new.history ≡ old.history
history_kept scene old new before after one = ap (λ (w : World). w.history) one.kept

pub turns_kept : (scene : Scene) (old new : World) (before after : List Line)
    → Plays scene old new before after → new.turns ≡ old.turns
turns_kept scene old new before after one = ap (λ (w : World). w.turns) one.kept

pub place_kept : (old new : Browser) → new.deck ≡ old.deck → new.world.history ≡ old.world.history
    → place_held new ≡ place_held old
place_kept old new deck history = ap₂
    (λ (d : Option Deck) (h : List Entry).
    option_and_then (λ (e : Entry). option_and_then (place_in e) d) (last_or None h)) deck history

pub over_kept : (shelf : Shelf) (old new : Browser) → new.deck ≡ old.deck
    → new.world.history ≡ old.world.history → IsOver shelf old → IsOver shelf new
over_kept shelf old new deck history over =
    ap (λ (h : List Entry).
    option_and_then (λ (e : Entry). deck_at shelf e.url) (last_or None h)) history
    ∙ over ∙ sym deck

-- a scene of the card leaves the browser over the same shelves
pub over_shown : (rule : Option Place → World → Scene) (old new : Browser)
    (before after : List Line) → Shows rule old new before after
    → (shelf : Shelf) → IsOver shelf old → IsOver shelf new
over_shown rule old new before after one shelf =
    over_kept shelf old new one.deck
    (history_kept (rule (place_held old) old.world) old.world new.world before after one.plays)

pub plays_at_then : (first next : Option Place → World → Scene) (a b c : Browser)
    (before mid after : List Line)
    → Shows first a b before mid → Shows next b c mid after
    → Shows (λ place world. and_then (first place world) (next place)) a c before after
plays_at_then first next a b c before mid after one two =
    let place =
    place_kept a b one.deck
    (history_kept (first (place_held a) a.world) a.world b.world before mid one.plays) in
    record {
      plays =
          plays_then (first (place_held a) a.world)
          (next (place_held a)) a.world b.world c.world before mid after one.plays
          (subst (λ (p : Option Place). Plays (next p b.world) b.world c.world mid after)
          place two.plays);
      deck = two.deck ∙ one.deck;
    }

pub plays_at_card : (rule : Place → World → Scene) (old new : Browser) (one : Held)
    (before after : List Line) → held old ≡ Some one
    → ((url : Url) → Plays (rule (placed url one) old.world) old.world new.world before after)
    → new.deck ≡ old.deck → Shows (at_place rule) old new before after
plays_at_card rule old new one before after at plays deck =
    let here = is_at old one at in
    record {
      plays = subst (λ (p : Option Place).
          Plays (at_place rule p old.world) old.world new.world before after) (sym here.place)
          (plays here.entry.url);
      deck = deck;
    }

pub plays_nowhere : (rule : Place → World → Scene) (old : Browser) (lines : List Line)
    → held old ≡ None
    → Shows (at_place rule) old old lines lines
plays_nowhere rule old lines at = record {
  plays = subst (λ (s : Scene). Plays s old.world old.world lines lines)
      (sym (ap (λ (p : Option Place). at_place rule p old.world) (is_nowhere old at)))
      (plays_still old.world lines);
  deck = refl;
}

-- ---- where a call gives scenes of the card at hand

-- what is so of a result for all values of a variable
on_ok_all : {X E A : Type 0} (P : A → Type 0) (result : Result X E)
    → ((x : A) → OnOk result (P x)) → OnOk result ((x : A) → P x)
on_ok_all P (Ok x) so = so
on_ok_all P (Err e) so = tt

pub plays_here : {X E : Type 0} (rule : Place → World → Scene) (state : World) (deck : Option Deck)
    (now : Browser) → record { world = state; deck = deck } ≡ now
    → (number : Option ℕ) → number ≡ option_map (λ (e : Entry). e.card) (last_entry state)
    → (found : Option Held) → found ≡ held_in deck number → (one : Held) → found ≡ Some one
    → (after : World) (before shown : List Line) (result : Result X E)
    → ((url : Url) → OnOk result (Plays (rule (placed url one) state) state after before shown))
    → OnOk result (Shows (at_place rule) now (record { world = after; deck = deck }) before shown)
plays_here rule state deck now view number is found here one there after before shown result
    plays =
    let old : Browser = record { world = state; deck = deck } in
    let at : held old ≡ Some one = sym (here ∙ ap (held_in deck) is) ∙ there in
    let new : Browser = record { world = after; deck = deck } in
    on_ok result
    (λ all. subst (λ (b : Browser). Shows (at_place rule) b new before shown) view
    (plays_at_card rule old new one before shown at all refl))
    (on_ok_all (λ (url : Url). Plays (rule (placed url one) state) state after before shown) result
    plays)

pub plays_none : (rule : Place → World → Scene) (state : World) (deck : Option Deck) (now : Browser)
    → record { world = state; deck = deck } ≡ now
    → (number : Option ℕ) → number ≡ option_map (λ (e : Entry). e.card) (last_entry state)
    → (found : Option Held) → found ≡ held_in deck number → found ≡ None
    → (lines : List Line) → Shows (at_place rule) now now lines lines
plays_none rule state deck now view number is found here there lines =
    let old : Browser = record { world = state; deck = deck } in
    subst (λ (b : Browser). Shows (at_place rule) b b lines lines) view
    (plays_nowhere rule old lines (sym (here ∙ ap (held_in deck) is) ∙ there))

pub plays_at_set : {X E : Type 0} (scene : World → Scene) (state : World)
    (deck : Option Deck) (now : Browser)
    → record { world = state; deck = deck } ≡ now
    → (after : World) (before shown : List Line) (result : Result X E)
    → OnOk result (Plays (scene state) state after before shown)
    → OnOk result
    (Shows (λ place. scene) now (record { world = after; deck = deck }) before shown)
plays_at_set scene state deck now view after before shown result plays =
    on_ok result
    (λ one.
    subst (λ (b : Browser).
    Shows (λ place. scene) b (record { world = after; deck = deck }) before shown) view
    (record { plays = one; deck = refl }))
    plays

-- a line, and then a scene
pub plays_behind : (line : Line) (rule : Option Place → World → Scene) (old new : Browser)
    (before mid after : List Line)
    → mid ≡ before ++ line ∷ [] → Shows rule old new mid after
    → Shows (λ place world. behind (line ∷ []) (rule place world)) old new before after
plays_behind line rule old new before mid after is one = record {
  plays = record {
    world = one.plays.world;
    lines = one.plays.lines ∙ ap (λ l. l ++ (rule (place_held old) old.world).lines) is
        ∙ append_assoc before (line ∷ []) (rule (place_held old) old.world).lines;
    kept = one.plays.kept;
  };
  deck = one.deck;
}

pub if_ok : {X E : Type 0} {P Q : X → Type 0} (result : Result X E) → ((x : X) → P x → Q x)
    → IfOk result P → IfOk result Q
if_ok (Ok x) f so = f x so
if_ok (Err e) f so = tt

-- ---- what is seen of the card at hand

pub some_held : (found : Option Held) → is_some found ≡ true → (one : Held) × (found ≡ Some one)
some_held None so = absurd (false≢true so)
some_held (Some one) so = (one, refl)

pub plays_seen : {X E : Type 0} (rule : Place → World → Scene) (state : World) (deck : Option Deck)
    (now : Browser) → record { world = state; deck = deck } ≡ now
    → (one : Held) → held now ≡ Some one → (before shown : List Line) (result : Result X E)
    → ((url : Url) → OnOk result (Plays (rule (placed url one) state) state state before shown))
    → OnOk result (Shows (at_place rule) now now before shown)
plays_seen rule state deck now view one at before shown result plays =
    on_ok result
    (λ all. plays_at_card rule now now one before shown at (λ url.
    subst (λ (b : Browser). Plays (rule (placed url one) b.world) b.world b.world before shown) view
    (all url)) refl)
    (on_ok_all (λ (url : Url). Plays (rule (placed url one) state) state state before shown) result
    plays)

pub url_here : (now : Browser) (one : Held) → held now ≡ Some one
    → option_map (λ (e : Entry). e.url) (last_entry now.world)
    ≡ option_map (λ (p : Place). p.url) (place_held now)
url_here now one at =
    let here = is_at now one at in
    ap (option_map (λ (e : Entry). e.url)) here.last
    ∙ sym (ap (option_map (λ (p : Place). p.url)) here.place)

pub event_here : (event : Event) (now : Browser) (one : Held) → held now ≡ Some one
    → binding now.world.vars one.deck one.card event ≡ event_task (place_held now) event now.world
event_here event now one at =
    sym (ap (λ (p : Option Place). event_task p event now.world) (is_at now one at).place)

pub card_here : (now : Browser) (one : Held) → held now ≡ Some one
    → Some one.card ≡ option_map (λ (p : Place). p.card) (place_held now)
card_here now one at = sym (ap (option_map (λ (p : Place). p.card)) (is_at now one at).place)

pub refresh_joined : (sets : Pairs) (old new : Browser) (before after : List Line) (one : Held)
    → held old ≡ Some one
    → Shows (λ place w. and_then (leave_and_set place sets w) (at_place restart_place place))
    old new before after
    → Shows (λ place. refresh place sets) old new before after
refresh_joined sets old new before after one at joined =
    let place = (is_at old one at).place in
    record {
      plays = subst (λ (s : Scene). Plays s old.world new.world before after)
          (ap (λ (p : Option Place).
          and_then (leave_and_set p sets old.world) (at_place restart_place p)) place
          ∙ sym (ap (λ (p : Option Place). refresh p sets old.world) place))
          joined.plays;
      deck = joined.deck;
    }
