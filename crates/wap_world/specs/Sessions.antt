-- Sessions: keys that are played one after the other, with an inbox. This project's own.
use Rattle.std.specs.Prelude.{◌≡◌, ℕ, zero, suc, List, [], ◌∷◌, length, map, Result}
use Rattle.wap_base.specs.Controls.{shown_text}
use Rattle.wap_base.specs.declared.limits.Limits.{Limits}
use Rattle.wap_base.specs.declared.key.Key.{Key}
use Rattle.wap_base.specs.declared.key.Key.TheVariants.{Open}
use Rattle.wap_push.specs.declared.indication.Indication.{Indication}
use Rattle.wap_push.specs.declared.fault.PushFault.{PushFault}
use Rattle.wap_world.specs.Sites.{Site}
use Rattle.wap_world.specs.World.{World, first_world}
use Rattle.wap_world.specs.Steps.{Step, still, quiet, then_step}
use Rattle.wap_world.specs.inboxes.Winners.{Alike}
use Rattle.wap_world.specs.inboxes.Inboxes.{Phone, Stepped, taking_none, react_with}

-- the lines that a step shows
abbrev pub shown_by : Step → List (List ℕ)
shown_by step = map shown_text step.lines

-- ---- one step after the other

-- a step before what else is done
abbrev pub before_all : Step → Stepped → Stepped
before_all first others =
    record { step = then_step first others.step; pushes = others.pushes }

-- one step, and then what follows from what it leaves
abbrev pub followed_with : Stepped → (List Key → Phone → Stepped) → Stepped
followed_with one next = before_all one.step
    (next one.step.keys (record { world = one.step.world; pushes = one.pushes }))

-- the same step, and then pushes that have the same winners
pub record StepAlike (one other : Stepped) : Type 0 where
  pub step : one.step ≡ other.step
  pub pushes : Alike one.pushes other.pushes

-- ---- sessions

-- what a session is begun with
pub record Begun : Type 0 where
  pub url : List ℕ
  pub seed : ℕ
  pub budget : ℕ
  pub limits : Limits

-- the world in which it begins
abbrev pub world_of : Begun → World
world_of begun = first_world begun.seed begun.budget begun.limits

-- a world without pushes
abbrev pub unpushed : World → Phone
unpushed world = record { world = world; pushes = [] }

-- what is pushed is read like this
module _ (read : List ℕ → Result Indication PushFault) where
  -- so many keys at most
  abbrev pub played_in : ℕ → Site → List Key → Phone → Stepped
  played_in count site [] phone = taking_none phone (quiet [] (still phone.world))
  played_in zero site (key ∷ keys) phone =
      taking_none phone (quiet (key ∷ keys) (still phone.world))
  played_in (suc count) site (key ∷ keys) phone =
      followed_with (react_with read site key keys phone) (played_in count site)

  -- what keys come to: the first is played, and then those that it left
  unfoldable pub played : Site → List Key → Phone → Stepped
  played site keys phone = played_in (length keys) site keys phone

  -- a session begins without pushes; it opens its URL, and then plays its keys
  abbrev pub session : Site → Begun → List Key → Stepped
  session site begun keys = played site (Open begun.url ∷ keys) (unpushed (world_of begun))
