-- Laws of sessions.
use Rattle.std.proofs.Common.{◌≡◌, ℕ, List, [], ◌∷◌, true, Option, Some, refl, ap, ◌∙◌}
use Rattle.wap_base.specs.declared.key.Key.{Key}
use Rattle.wap_base.specs.declared.key.Key.TheVariants as key
use Rattle.wap_push.specs.Pushes.{push_at}
use Rattle.wap_execution.specs.declared.dialog.Dialog.{Dialog}
use Rattle.wap_execution.specs.declared.dialog.Dialog.TheVariants.{Prompt, Confirm, Alert}
use Rattle.wap_world.specs.World.{World, Place, place_now}
use Rattle.wap_world.specs.Keys.{ignored}
use Rattle.wap_world.specs.Steps.{Scene, quiet}
use Rattle.wap_world.specs.inboxes.Inboxes.{Phone, taking_none, is_of_inbox}
use Rattle.wap_world.specs.Sessions.{Begun, before_all, session}
use Rattle.wap_world.specs.scripting.Dialogs.{reply_to, passes, meanwhile}
use Rattle.wap_world.specs.scripting.UnitSites.{Pages, shelf_of}
use Rattle.wap_world.specs.scripting.Waiting.{Waits, inside, played_from}
use Rattle.wap_world.specs.scripting.Feeding.{meaning}
use Rattle.wap_world.proofs.ScriptingLawsLemmas.Feeding.{feeds}
use Rattle.wap_world.proofs.ScriptingLawsLemmas.Replying.{stay_means}
use Rattle.wap_context.specs.Sites.{fragment_call, site_of}
use Rattle.wap_session.specs.Feeding.{State, beginning, stepped_of}
use Rattle.wap_session.proofs.Alone.{none_played}

pub begins : (pages : Pages) (begun : Begun) (keys : List Key)
    → stepped_of pages (key.Open begun.url ∷ keys) (beginning begun)
    ≡ session push_at (site_of pages) begun keys
begins pages begun keys = refl

-- a key of an inbox is no answer
push_passes : (dialog : Dialog) (bytes : List ℕ) → reply_to dialog (key.Push bytes) ≡ passes
push_passes (Prompt message first) bytes = refl
push_passes (Confirm message first second) bytes = refl
push_passes (Alert message) bytes = refl

inbox_passes : (dialog : Dialog) → reply_to dialog key.Inbox ≡ passes
inbox_passes (Prompt message first) = refl
inbox_passes (Confirm message first second) = refl
inbox_passes (Alert message) = refl

follow_passes : (dialog : Dialog) (n : ℕ) → reply_to dialog (key.Follow n) ≡ passes
follow_passes (Prompt message first) n = refl
follow_passes (Confirm message first second) n = refl
follow_passes (Alert message) n = refl

-- in a dialog it is ignored
module _ (pages : Pages) (phone : Phone) (waits : Waits) where
  abbrev Passed : Option Waits → Key → Type 0
  Passed o one =
      played_from push_at fragment_call pages (record { phone = phone; waiting = o }) (one ∷ [])
      ≡ taking_none phone (record (quiet [] (ignored phone.world)) { is_open = true })

  -- where it passes, and only this is shown
  passed_by : (one : Key) → reply_to waits.dialog one ≡ passes
      → ((place : Option Place) (w : World) → meanwhile place one w ≡ ignored w)
      → Passed (Some waits) one
  passed_by one is shows =
      feeds push_at fragment_call pages (record { phone = phone; waiting = Some waits }) one
      (record {
        fed = record { step = quiet [] (ignored phone.world); waiting = Some waits };
        pushes = phone.pushes;
      })
      (λ keys. ap (taking_none phone)
      (stay_means fragment_call pages waits phone.world one is keys
      ∙ ap (λ (scene : Scene). meaning fragment_call pages (record {
        step = quiet []
            (record scene { world = record scene.world { turns = phone.world.turns } });
        waiting = Some waits;
      }) keys) (shows (place_now (shelf_of pages) phone.world) (inside phone.world)))) []
      ∙ ap (before_all (quiet [] (ignored phone.world))) (none_played pages (Some waits) phone)

  passed : (one : Key) → is_of_inbox one ≡ true → Passed (Some waits) one
  passed (key.Push bytes) is =
      passed_by (key.Push bytes) (push_passes waits.dialog bytes) (λ shelf w. refl)
  passed key.Inbox is = passed_by key.Inbox (inbox_passes waits.dialog) (λ shelf w. refl)
  passed (key.Follow n) is =
      passed_by (key.Follow n) (follow_passes waits.dialog n) (λ shelf w. refl)
  passed one is = absurd cc

pub in_dialogs : (pages : Pages) (state : State) (waits : Waits) (one : Key)
    → state.waiting ≡ Some waits → is_of_inbox one ≡ true
    → stepped_of pages (one ∷ []) state
    ≡ record {
      step = record (quiet [] (ignored state.browser.world)) { is_open = true };
      pushes = state.winners;
    }
in_dialogs pages state waits one is of =
    let phone : Phone = record { world = state.browser.world; pushes = state.winners } in
    ap (λ (o : Option Waits). played_from push_at fragment_call pages
    (record { phone = phone; waiting = o }) (one ∷ [])) is
    ∙ passed pages phone waits one of
