-- What is seen of a browser that stands on a card: its world, and the deck that it has at hand.
-- This project's own.
use Rattle.std.specs.Prelude.{◌≡◌, ℕ, List, Option}
use Rattle.std.specs.Option.{option_and_then, option_map_or}
use Rattle.wap_vars.specs.Variables.{Variables}
use Rattle.wap_cardrules.specs.declared.answers.Entered.TheVariants as entered
use Rattle.wap_cardrules.specs.Entering.{TextEntered, enter_text, OptionChosen, none_chosen, choose}
use Rattle.wap_tokens.specs.declared.markup.deck.Deck.{Deck}
use Rattle.wap_world.specs.Shelves.{Shelf}
use Rattle.wap_world.specs.World.{World, Place, deck_at, last_entry}
use Rattle.wap_world.specs.Steps.{Scene}
use Rattle.wap_world.specs.scripting.Views.{place_with}
use Rattle.wap_state.specs.Scenes.{Line, Plays}

-- what a browser keeps between two calls
pub record Browser : Type 0 where
  pub world : World
  -- the deck of the current card, once one was entered
  pub deck : Option Deck

-- the current card, once one was entered
abbrev pub place_held : Browser → Option Place
place_held browser = place_with browser.deck browser.world

-- this shelf has the deck under the URL of the current card
abbrev pub IsOver : Shelf → Browser → Type 0
IsOver shelf browser =
    option_and_then (λ entry. deck_at shelf entry.url) (last_entry browser.world) ≡ browser.deck

-- a scene of the current card, and the lines so far: only variables and the timer are others
pub record Shows (rule : Option Place → World → Scene) (old new : Browser)
    (before after : List Line) : Type 0 where
  pub plays : Plays (rule (place_held old) old.world) old.world new.world before after
  pub deck : new.deck ≡ old.deck

-- only the variables and the timer are others
abbrev pub ChangesVarsAndTimer : Browser → Browser → Type 0
ChangesVarsAndTimer old new = new ≡ record old {
  world = record old.world { vars = new.world.vars; timer = new.world.timer };
}

-- ---- variables

-- a browser with other variables
abbrev pub with_vars : Variables → Browser → Browser
with_vars vars browser = record browser { world = record browser.world { vars = vars } }

-- a text that is entered, or an option that is chosen; without a card there is no field
abbrev pub typed_in : Browser → ℕ → List ℕ → TextEntered
typed_in browser n text =
    option_map_or (λ place. enter_text browser.world.vars place.card n text) (place_held browser)
    (record { vars = browser.world.vars; answer = entered.NoInput })

abbrev pub chosen_in : Browser → ℕ → ℕ → OptionChosen
chosen_in browser n m =
    option_map_or (λ place. choose browser.world.vars place.card n m) (place_held browser)
    (none_chosen browser.world.vars)
