-- A browser with an inbox: what each key comes to outside a dialog (WAP-167, section 6). That the
-- keys are these is this project's own.
use Rattle.std.specs.Prelude.{ℕ, List, [], ◌∷◌, ◌++◌, Bool, true, false, Option, Some, None}
use Rattle.std.specs.Prelude.{Result, Ok, Err}
use Rattle.std.specs.Option.{option_and_then}
use Rattle.wap_base.specs.declared.key.Key.{Key}
use Rattle.wap_base.specs.declared.key.Key.TheVariants as key
use Rattle.wap_push.specs.declared.indication.Indication.{Indication}
use Rattle.wap_push.specs.declared.fault.PushFault.{PushFault}
use Rattle.wap_push.specs.Inbox.{entry_at}
use Rattle.wap_world.specs.Sites.{Site}
use Rattle.wap_world.specs.World.{World, Place, place_now}
use Rattle.wap_world.specs.Steps.{Step, quiet}
use Rattle.wap_world.specs.declared.refusal.Refusal.TheVariants.{Ignored}
use Rattle.wap_world.specs.Lines.{refusal_line}
use Rattle.wap_world.specs.Keys.{renewed, apply}
use Rattle.wap_world.specs.inboxes.Winners.{entries_of}
use Rattle.wap_world.specs.inboxes.Notices.{no_push_line, notice_lines, entry_lines}

-- a world, and the pushes that were taken, in order
pub record Phone : Type 0 where
  pub world : World
  pub pushes : List Indication

-- what a step comes to, and the pushes that were taken by its end
pub record Stepped : Type 0 where
  pub step : Step
  pub pushes : List Indication

-- a step that takes no push
abbrev pub taking_none : Phone → Step → Stepped
taking_none phone step = record { step = step; pushes = phone.pushes }

-- only lines are shown
abbrev pub telling : List Key → World → List (List ℕ) → Step
telling keys world lines = quiet keys (record { world = world; lines = lines })

-- ---- the keys of an inbox

-- whether a key is one of an inbox
abbrev pub is_of_inbox : Key → Bool
is_of_inbox (key.Push bytes) = true
is_of_inbox key.Inbox = true
is_of_inbox (key.Follow n) = true
is_of_inbox one = false

-- the lines of what was pushed after these pushes: an indication, or none
abbrev pub push_lines : List Indication → Result Indication PushFault → List (List ℕ)
push_lines pushes (Ok pushed) = notice_lines pushes pushed
push_lines pushes (Err why) = no_push_line why ∷ []

-- the pushes then
abbrev pub pushes_with : List Indication → Result Indication PushFault → List Indication
pushes_with pushes (Ok pushed) = pushes ++ pushed ∷ []
pushes_with pushes (Err why) = pushes

-- the URL of the entry of a number, if there is such an entry and it has one
abbrev pub url_at : List Indication → ℕ → Option (List ℕ)
url_at pushes number = option_and_then (λ entry. entry.href) (entry_at (entries_of pushes) number)

-- ---- each key

-- a key where there is an inbox: it shows lines alone, or is played as a key is without one
pub data Pressed : Type 0 where
  shows : List (List ℕ) → Pressed
  plays : Key → Pressed

-- a URL is opened, if there is one; else the key is ignored
abbrev pub opening : Option (List ℕ) → Pressed
opening None = shows (refusal_line Ignored ∷ [])
opening (Some url) = plays (key.Open url)

-- what that comes to at a place
abbrev pub play_pressed : Site → Option Place → List Key → World → Pressed → Step
play_pressed site place keys world (shows lines) = telling keys world lines
play_pressed site place keys world (plays one) = apply site place keys world one

-- what is pushed is read like this
module _ (read : List ℕ → Result Indication PushFault) where
  -- what each key is after these pushes: those of the inbox want no card
  abbrev pub pressed : List Indication → Key → Pressed
  pressed pushes (key.Push bytes) = shows (push_lines pushes (read bytes))
  pressed pushes key.Inbox = shows (entry_lines 1 (entries_of pushes))
  pressed pushes (key.Follow n) = opening (url_at pushes n)
  pressed pushes one = plays one

  -- the pushes that were taken by then
  abbrev pub pushes_after : List Indication → Key → List Indication
  pushes_after pushes (key.Push bytes) = pushes_with pushes (read bytes)
  pushes_after pushes one = pushes

  -- a key, before keys that are left; each has its turns
  abbrev pub react_with : Site → Key → List Key → Phone → Stepped
  react_with site one keys phone = record {
    step = play_pressed site (place_now site.shelf phone.world) keys (renewed phone.world)
        (pressed phone.pushes one);
    pushes = pushes_after phone.pushes one;
  }
