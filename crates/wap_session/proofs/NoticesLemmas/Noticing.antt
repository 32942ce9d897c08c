-- The line of an indication that is taken is shown where its inbox says so.
use Rattle.std.proofs.Common.{◌≡◌, ℕ, Bool, true, false, cond, List, [], ◌∷◌, ◌++◌, refl, ◌&&◌}
use Rattle.std.specs.Prelude.{IsTrue, ◌↔◌}
use Rattle.wap_push.specs.declared.indication.Indication.{Indication}
use Rattle.wap_push.specs.Inbox.{alerts, IsAlert}
use Rattle.wap_world.specs.inboxes.Notices.{is_latest, notice_line, notice_lines}
use Rattle.wap_world.proofs.InboxesLemmas.Alerts.{alert_is}

module _ (pushes : List Indication) (pushed : Indication) where
  abbrev line : List (List ℕ)
  line = notice_line pushed ∷ []

  abbrev Alert : Type 0
  Alert = IsAlert (pushes ++ pushed ∷ []) pushed

  -- by whether it is to be shown, and whether the inbox says so
  notice_by : (test alert : Bool) → (alerts pushed.action && is_latest pushes pushed) ≡ test
      → IsTrue alert ↔ Alert → cond test line [] ≡ cond alert line []
  notice_by true true is so = refl
  notice_by false false is so = refl
  notice_by true false is so = absurd (cc (so.1 ((alert_is pushes pushed).0 is)))
  notice_by false true is so = absurd (cc (is, (alert_is pushes pushed).1 (so.0 refl)))

  pub notice_if : (alert : Bool) → IsTrue alert ↔ Alert
      → notice_lines pushes pushed ≡ cond alert line []
  notice_if alert so =
      notice_by (alerts pushed.action && is_latest pushes pushed) alert refl so
