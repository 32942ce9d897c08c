-- The code's host and the definition's come to the same, where the deck at hand is the current one.
use Rattle.std.proofs.Common.{◌≡◌, inl, List, [], ◌∷◌, ◌++◌, Option, refl, sym, ap, ◌∙◌, subst, inr}
use Rattle.std.specs.Option.{option_map, option_and_then}
use Rattle.wap_base.specs.declared.limits.Limits.{Limits}
use Rattle.wap_tokens.specs.declared.markup.deck.Deck.{Deck}
use Rattle.wap_execution.specs.laws.Simulation.{Both, AreAlike, RunAlike}
use Rattle.wap_execution.proofs.LawsLemmas.SimLaws as sim_laws
use Rattle.wap_world.specs.site.Misses.{Asked}
use Rattle.wap_world.specs.declared.history.Entry.{Entry}
use Rattle.wap_world.specs.World.{World, Place, place_in, place_of, place_now, last_entry}
use Rattle.wap_world.specs.Steps.{Step, still, quiet}
use Rattle.wap_world.specs.scripting.UnitSites.{Pages, shelf_of, host_of}
use Rattle.wap_world.specs.scripting.Views.{Counted, counted_once, counted_all, View, place_with}
use Rattle.wap_world.specs.scripting.Views.{added, viewing, view_of, Shows, IsAtHand, NoStep}
use Rattle.wap_world.specs.scripting.Views.{NoView, ViewsRunAlike}
use Rattle.wap_world.proofs.Joining.{joined_nothing}
use Rattle.wap_world.proofs.Hosts.Kin.{Kinship, Kin, behind, goes_behind, last_changed}
use Rattle.wap_world.proofs.Hosts.Calls.{Pair, itself, host_with, external_alike, library_alike}
use Rattle.wap_world.proofs.Hosts.Runs.{parts_of, never_stays}

-- ---- counts

-- pages one after the other
counted_then : (some more : List Asked) (first : Option Counted)
    → counted_all (some ++ more) first ≡ counted_all more (counted_all some first)
counted_then [] more first = refl
counted_then (one ∷ some) more first = counted_then some more (option_map (counted_once one) first)

module _ (pages : Pages) (deck : Option Deck) (first : Option Counted) (entry : Option Entry)
    (over : IsAtHand pages deck entry) where
  -- the deck at hand has the current card
  here : (s : Step) → last_entry s.world ≡ entry
      → place_now (shelf_of pages) s.world ≡ place_with deck s.world
  here s last =
      ap (option_and_then (place_of (shelf_of pages))) last ∙ over
      ∙ sym (ap (option_and_then (λ e. option_and_then (place_in e) deck)) last)

  -- the current card of the deck at hand
  abbrev held : World → Option Place
  held = place_with deck

  -- a step that is put behind another, before the same keys, with that entry as its last
  abbrev put_behind : Step → Kinship
  put_behind s = record {
    moved = behind s (λ keys. s.keys);
    So = λ u. last_entry u.world ≡ entry;
    moves = goes_behind s (λ keys. s.keys);
    holds = record {
      more = λ lines asked tests u last. last;
      changes = λ change u last. last_changed change u.world ∙ last;
    };
  }

  -- what nobody sees, nobody loses, where one host has the deck at hand, and the other its shelf
  abbrev sides : (s : Step) → Pair (put_behind s).So
  sides s = let alone = itself (put_behind s).So (parts_of pages) in record alone {
    one = record (parts_of pages) { now = held };
    now = λ u last. sym (here u last);
  }

  -- a call that adds to a step what it adds to a fresh one shows the same
  call_shows : {A : Type 0} (f g : Step → A × Step) (s : Step) → last_entry s.world ≡ entry
      → ((t u : Step) → Kin (put_behind s) t u
      → Both (Kin (put_behind s)) NoStep NoStep (g t) (f u))
      → Both (Shows pages deck first entry) NoStep NoView (f s)
      (added (view_of pages deck first s) (g (quiet [] (still s.world))))
  call_shows f g s last alike = by (alike q moved (record { is = refl; so = last }))
    where
      q : Step
      q = quiet [] (still s.world)

      moved : Step
      moved = behind s (λ keys. s.keys) q

      by : Both (Kin (put_behind s)) NoStep NoStep (g q) (f moved)
          → Both (Shows pages deck first entry) NoStep NoView (f s)
          (added (view_of pages deck first s) (g q))
      by (inr lost) = absurd lost.0
      by (inl given) =
          let same : s ≡ moved = sym (joined_nothing s s.keys) in
          let is : (f s).1 ≡ behind s (λ keys. s.keys) (g q).1 =
          ap (λ (u : Step). (f u).1) same ∙ given.1.is in
          inl (
            ap (λ (u : Step). (f u).0) same ∙ sym given.0,
            record {
              is = ap (λ (c : Option Counted).
                  record (added (view_of pages deck first s) (g q)).1 { counted = c })
                  (sym (counted_then s.asked (g q).1.asked first))
                  ∙ sym (ap (view_of pages deck first) is);
              last = ap (λ (u : Step). last_entry u.world) is ∙ given.1.so;
            },
          )

  -- both hosts show the same
  views_alike : AreAlike (Shows pages deck first entry) NoStep NoView (host_of pages) viewing
  views_alike = record {
    external = λ s v caller url name count working shows.
        let f = λ (u : Step). (host_of pages).external u caller url name count working in
        let g = λ (u : Step). (host_with (sides s).one).external u caller url name count working in
        subst (λ (p : View). Both (Shows pages deck first entry) NoStep NoView (f s)
        (viewing.external p caller url name count working)) (sym shows.is)
        (call_shows f g s shows.last
        (external_alike (put_behind s) (sides s) caller name count working url));
    library = λ s v base referer number index arguments shows.
        let f = λ (u : Step). (host_of pages).library u base referer number index arguments in
        let g = λ (u : Step).
        (host_with (sides s).one).library u base referer number index arguments in
        subst (λ (p : View). Both (Shows pages deck first entry) NoStep NoView (f s)
        (viewing.library p base referer number index arguments)) (sym shows.is)
        (call_shows f g s shows.last
        (λ t u kin. library_alike (put_behind s) (sides s) t u kin base referer number index
        arguments));
    stays = never_stays (host_of pages);
    stays' = never_stays viewing;
  }

  -- what the machine is proved against tells what the definition says: outcome and turns, world and
  -- lines, and the cache and the count after what was asked for
  pub runs_alike : (limits : Limits)
      → RunAlike (Shows pages deck first entry) NoStep NoView limits (host_of pages) viewing
  runs_alike limits =
      sim_laws.agrees (Shows pages deck first entry) NoStep NoView limits (host_of pages) viewing
      views_alike

-- over all pages
pub views_run_alike : ViewsRunAlike
views_run_alike pages deck first entry over limits =
    runs_alike pages deck first entry over limits
