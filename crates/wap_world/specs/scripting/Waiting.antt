-- Sessions between two keys, over units: at rest, or with a script that waits in a dialog. This
-- project's own.
use Rattle.std.specs.Prelude.{ℕ, List, Option, Some, None, Result}
use Rattle.wap_base.specs.declared.limits.Limits.{Limits}
use Rattle.wap_base.specs.declared.key.Key.{Key}
use Rattle.wap_url.specs.declared.url.Url.{Url}
use Rattle.wap_push.specs.declared.indication.Indication.{Indication}
use Rattle.wap_push.specs.declared.fault.PushFault.{PushFault}
use Rattle.wap_execution.specs.declared.dialog.Dialog.{Dialog}
use Rattle.wap_execution.specs.Frames.{Frame}
use Rattle.wap_execution.specs.laws.Settings.{uncounted}
use Rattle.wap_execution.specs.laws.Keyed.{gone_on}
use Rattle.wap_world.specs.World.{World}
use Rattle.wap_world.specs.Steps.{Step, Once, still, quiet}
use Rattle.wap_world.specs.Sites.{Call, Ran}
use Rattle.wap_world.specs.Starting.{ended_script}
use Rattle.wap_world.specs.Tasks.{onward, act}
use Rattle.wap_world.specs.inboxes.Inboxes.{Phone, Stepped, taking_none}
use Rattle.wap_world.specs.Sessions.{followed_with, played}
use Rattle.wap_world.specs.scripting.Dialogs.{answered_by}
use Rattle.wap_world.specs.scripting.UnitSites.{Pages, shelf_of, keyed_host, ran_of, units_site}

-- a dialog, the frames that go on with its answer within these limits, and the URL of the script
-- that was started
pub record Waits : Type 0 where
  pub dialog : Dialog
  -- those of the world, which no script changes
  pub limits : Limits
  pub frames : List Frame
  pub base : Url

-- a session between two keys
pub record State : Type 0 where
  -- with the turns that are left to the key at hand
  pub phone : Phone
  pub waiting : Option Waits

-- while scripts run turns are counted apart
abbrev pub inside : World → World
inside world = record world { turns = 0 }

-- what the script comes to whose dialog is answered by these keys, or stays open
abbrev pub resumed_run : Pages → Waits → List Key → World → Ran
resumed_run pages one keys world =
    let got = answered_by (shelf_of pages) one.dialog keys (quiet keys (still (inside world))) in
    ran_of (gone_on (uncounted one.limits (keyed_host pages)) (λ end. end) one.frames
    got.0 world.turns got.1)

-- the dialog is answered by keys, and the script goes on to its end
abbrev pub resumed_once : Pages → Waits → List Key → World → Once
resumed_once pages one keys world =
    ended_script (shelf_of pages) one.base (resumed_run pages one keys world)

module _ (call : List ℕ → Option Call) (pages : Pages) where
  -- and then all that this leads to
  unfoldable pub resumed_step : Waits → List Key → World → Step
  resumed_step one keys world =
      onward (act (units_site call pages)) (resumed_once pages one keys world)

  -- what is left of a key that was handled as far as it goes without further ones
  abbrev pub left_over : Option Waits → List Key → World → Step
  left_over None keys world = quiet keys (still world)
  left_over (Some one) keys world = resumed_step one keys world

-- what is pushed is read like this
module _ (read : List ℕ → Result Indication PushFault) (call : List ℕ → Option Call)
    (pages : Pages) where
  -- what keys come to from a state on; in a dialog no push is taken
  abbrev pub played_from : State → List Key → Stepped
  played_from state keys = followed_with
      (taking_none state.phone (left_over call pages state.waiting keys state.phone.world))
      (played read (units_site call pages))
