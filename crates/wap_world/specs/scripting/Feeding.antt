-- What one key does in a session that is fed key by key: what is done without further keys, and the
-- dialog that these have to answer. This project's own.
use Rattle.std.specs.Prelude.{◌≡◌, ⊤, ℕ, List, [], ◌∷◌, Option, Some, None, Result}
use Rattle.wap_base.specs.declared.key.Key.{Key}
use Rattle.wap_push.specs.declared.indication.Indication.{Indication}
use Rattle.wap_push.specs.declared.fault.PushFault.{PushFault}
use Rattle.wap_world.specs.Steps.{Step, still, quiet, then_step}
use Rattle.wap_world.specs.Sites.{Call}
use Rattle.wap_world.specs.inboxes.Inboxes.{Phone, Stepped, taking_none, react_with}
use Rattle.wap_world.specs.Sessions.{before_all}
use Rattle.wap_world.specs.scripting.UnitSites.{Pages, units_site}
use Rattle.wap_world.specs.scripting.Waiting.{Waits, State, left_over, resumed_step, played_from}

-- what was done, and what waits
pub record Fed : Type 0 where
  pub step : Step
  pub waiting : Option Waits

-- the same, and the pushes that were taken by then
pub record Taken : Type 0 where
  pub fed : Fed
  pub pushes : List Indication

module _ (call : List ℕ → Option Call) (pages : Pages) where
  -- what was done, and then what is left to further keys
  abbrev pub meaning : Fed → List Key → Step
  meaning one keys = then_step one.step (left_over call pages one.waiting keys one.step.world)

  -- a rule for a key and those after it: this was done without these
  abbrev pub Means : Fed → (List Key → Step) → Type 0
  Means one rule = (keys : List Key) → rule keys ≡ meaning one keys

-- ---- one key

-- the state after a key
abbrev pub after_fed : Taken → State
after_fed one = record {
  phone = record { world = one.fed.step.world; pushes = one.pushes };
  waiting = one.fed.waiting;
}

-- what is pushed is read like this
module _ (read : List ℕ → Result Indication PushFault) (call : List ℕ → Option Call)
    (pages : Pages) where
  -- a key, with keys after it; in a dialog it is no key of an inbox
  abbrev pub turned : Option Waits → Phone → Key → List Key → Stepped
  turned None phone key keys = react_with read (units_site call pages) key keys phone
  turned (Some one) phone key keys =
      taking_none phone (resumed_step call pages one (key ∷ keys) phone.world)

  -- a key does this without further keys, and leaves the rest to these
  abbrev pub Turns : State → Key → Taken → Type 0
  Turns state key one = (keys : List Key) → turned state.waiting state.phone key keys
      ≡ record { step = meaning call pages one.fed keys; pushes = one.pushes }

  -- the lines of a key, and then what any further keys show from the state after it, are what the
  -- key and these show from the state before
  abbrev pub Feeds : State → Key → Taken → Type 0
  Feeds state key one = (keys : List Key) → played_from read call pages state (key ∷ keys)
      ≡ before_all one.fed.step (played_from read call pages (after_fed one) keys)

-- ---- keys

-- the state after keys
abbrev pub last_fed : State → List Taken → State
last_fed state [] = state
last_fed state (one ∷ more) = last_fed (after_fed one) more

-- what keys did, one after the other
abbrev pub all_fed : State → List Taken → Step
all_fed state [] = quiet [] (still state.phone.world)
all_fed state (one ∷ more) = then_step one.fed.step (all_fed (after_fed one) more)

module _ (read : List ℕ → Result Indication PushFault) (call : List ℕ → Option Call)
    (pages : Pages) where
  -- each of these keys did this without those after it, and left the rest to them
  abbrev pub AreFed : State → List Key → List Taken → Type 0
  AreFed state [] [] = ⊤
  AreFed state [] (one ∷ more) = ⊥
  AreFed state (key ∷ keys) [] = ⊥
  AreFed state (key ∷ keys) (one ∷ more) =
      Turns read call pages state key one × AreFed (after_fed one) keys more
