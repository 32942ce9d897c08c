-- A key within a session. This project's own.
use Rattle.std.specs.Prelude.{List, ◌∷◌, ◌++◌, ◌≡◌, Bool, true, false, ℕ, Option, Some, None}
use Rattle.wap_base.specs.declared.fault.RunErr.{RunErr}
use Rattle.wap_base.specs.declared.fault.RunErr.TheVariants as run
use Rattle.wap_base.specs.declared.key.Key.{Key}
use Rattle.wap_push.specs.declared.indication.Indication.{Indication}
use Rattle.wap_push.specs.Pushes.{push_at}
use Rattle.wap_world.specs.World.{World}
use Rattle.wap_world.specs.Steps.{Step}
use Rattle.wap_world.specs.inboxes.Inboxes.{pushes_after}
use Rattle.wap_world.specs.scripting.Dialogs.{Reply as Meant, answers, ends_it, passes}
use Rattle.wap_world.specs.scripting.UnitSites.{Pages}
use Rattle.wap_world.specs.scripting.Waiting.{Waits, resumed_step}
use Rattle.wap_world.specs.scripting.Feeding.{turned}
use Rattle.wap_context.specs.declared.waiting.Step.{Step as Did}
use Rattle.wap_context.specs.Acting.{lines_in, waiting_in}
use Rattle.wap_context.specs.Browsers.{Browser}
use Rattle.wap_context.specs.Pausing.{waits_of}
use Rattle.wap_context.specs.Sites.{fragment_call}
use Rattle.wap_session.specs.declared.fault.SessionFault.{SessionFault}
use Rattle.wap_session.specs.declared.fault.SessionFault.TheVariants as session
use Rattle.wap_session.specs.declared.replies.Reply.{Reply}
use Rattle.wap_session.specs.declared.replies.Reply.TheVariants as reply
use Rattle.wap_session.specs.declared.standing.Standing.{Standing}
use Rattle.wap_session.specs.declared.standing.Standing.TheVariants.{Rest, Waits as Asking, Over}
use Rattle.wap_session.specs.Feeding.{State}

-- ---- how a session stands

-- the script that waits, if one does
abbrev pub waiting_of : Standing → Option Waits
waiting_of Rest = None
waiting_of (Asking asked) = Some (waits_of asked.value.dialog asked.value.waiting)
waiting_of Over = None

abbrev pub is_over : Standing → Bool
is_over Rest = false
is_over (Asking asked) = false
is_over Over = true

-- the session with this browser and these winners
abbrev pub state_of : Browser → Standing → List Indication → State
state_of browser standing winners = record {
  browser = browser;
  waiting = waiting_of standing;
  winners = winners;
  is_over = is_over standing;
}

-- ---- a key

-- what it does in a dialog that waits
abbrev pub resumed_rule : Waits → Key → Pages → List Key → World → Step
resumed_rule waits one pages keys world =
    resumed_step fragment_call pages waits (one ∷ keys) world

-- what it does by what waits, after these pushes
abbrev pub turn_rule : Option Waits → List Indication → Key → Pages → List Key → World → Step
turn_rule waiting pushes one pages keys world = (turned push_at fragment_call pages waiting
    (record { world = world; pushes = pushes }) one keys).step

-- the pushes that were taken by then; in a dialog none is
abbrev pub taken_by : Option Waits → List Indication → Key → List Indication
taken_by None pushes one = pushes_after push_at pushes one
taken_by (Some waits) pushes one = pushes

-- ---- what a key did

-- further lines before those of what was done
pub record IsBehind (lines : List (List ℕ)) (one other : Did) : Type 0 where
  pub lines_are : lines_in other ≡ lines ++ lines_in one
  pub waiting_is : waiting_in other ≡ waiting_in one

-- how the session stands after what was done
pub record IsAfter (standing : Standing) (did : Did) : Type 0 where
  pub waiting_is : waiting_of standing ≡ waiting_in did
  pub ready : is_over standing ≡ false

-- what a key is to a dialog
abbrev pub meant : Reply → Meant
meant (reply.Answers v) = answers v
meant reply.Ends = ends_it
meant reply.Passes = passes

-- ---- faults

-- the fault of a session in which a key failed
abbrev pub fault_of : RunErr → SessionFault
fault_of run.Store = session.Store
fault_of run.NoMemory = session.NoMemory
