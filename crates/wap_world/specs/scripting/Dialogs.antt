-- Dialogs and the keys in them (WAP-194, "Dialogs Library"). The lines, the keys, and that time
-- passes in a dialog, are this project's own.
use Rattle.std.specs.Prelude.{ℕ, ◌-◌, nat_lt, if◌then◌else◌, true, false, List, [], ◌∷◌, ◌++◌, map}
use Rattle.std.specs.Prelude.{codes, Option}
use Rattle.wap_base.specs.declared.key.Key.{Key}
use Rattle.wap_base.specs.declared.key.Key.TheVariants as key
use Rattle.wap_value.specs.declared.value.Value.{Value}
use Rattle.wap_value.specs.declared.value.Value.TheVariants.{Bool as Boolean, Str}
use Rattle.wap_execution.specs.declared.dialog.Dialog.{Dialog}
use Rattle.wap_execution.specs.declared.dialog.Dialog.TheVariants.{Prompt, Confirm, Alert}
use Rattle.wap_execution.specs.declared.fatal.Fatal.TheVariants.{Stopped}
use Rattle.wap_execution.specs.declared.library.HostOut.{HostOut}
use Rattle.wap_execution.specs.declared.library.HostOut.TheVariants as out
use Rattle.wap_world.specs.declared.timer.Timer.{Timer}
use Rattle.wap_world.specs.declared.timer.Timer.TheVariants.{Running, Expired}
use Rattle.wap_world.specs.Shelves.{Shelf}
use Rattle.wap_world.specs.World.{World, Place, place_now}
use Rattle.wap_world.specs.Lines.{variable_line}
use Rattle.wap_world.specs.Steps.{Scene, Step, still}
use Rattle.wap_world.specs.Timers.{store_time}
use Rattle.wap_world.specs.Screens.{at_place}
use Rattle.wap_world.specs.Keys.{ignored}
use Rattle.wap_world.specs.scripting.Additions.{with_scene}

-- the line of a dialog
abbrev pub dialog_line : Dialog → List ℕ
dialog_line (Prompt message first) = codes "? prompt " ++ message ++ codes " | " ++ first
dialog_line (Confirm message first_label second_label) =
    codes "? confirm " ++ message ++ codes " | " ++ first_label ++ codes " | " ++ second_label
dialog_line (Alert message) = codes "? alert " ++ message

-- what a key is to a dialog: an answer, its end, or neither
pub data Reply : Type 0 where
  -- the dialog gives a value
  answers : Value → Reply
  -- the script is stopped
  ends_it : Reply
  -- the dialog stays
  passes : Reply

-- a prompt, by its default: `ok` and `cancel` give that
abbrev pub reply_to_prompt : List ℕ → Key → Reply
reply_to_prompt first key.Ok = answers (Str first)
reply_to_prompt first key.Cancel = answers (Str first)
reply_to_prompt first (key.Answer text) = answers (Str text)
reply_to_prompt first key.Stop = ends_it
reply_to_prompt first other = passes

-- a confirm or an alert, by what `ok` and `cancel` give
abbrev pub reply_to_buttons : Value → Value → Key → Reply
reply_to_buttons first second key.Ok = answers first
reply_to_buttons first second key.Cancel = answers second
reply_to_buttons first second key.Stop = ends_it
reply_to_buttons first second other = passes

-- a key in a dialog; a confirm gives whether its first button was taken, and an alert ""
abbrev pub reply_to : Dialog → Key → Reply
reply_to (Prompt message first) one = reply_to_prompt first one
reply_to (Confirm message first_label second_label) one =
    reply_to_buttons (Boolean true) (Boolean false) one
reply_to (Alert message) one = reply_to_buttons (Str []) (Str []) one

-- ---- meanwhile

-- the timer has run out while the script waits: its variable is 0, and its task waits for the end
-- of the script
abbrev pub run_out : Place → World → Scene
run_out place world = store_time place.card 0 (record world { timer = Expired })

-- some time passes in a dialog: less than remains, or all
abbrev pub tick_waiting : Option Place → ℕ → Timer → World → Scene
tick_waiting place n (Running time) world =
    if nat_lt n time then still (record world { timer = Running (time - n) })
    else at_place run_out place world
tick_waiting place n other world = ignored world

-- what a key does that is no answer; the dialog stays open
abbrev pub meanwhile : Option Place → Key → World → Scene
meanwhile place (key.Tick n) world = tick_waiting place n world.timer world
meanwhile place key.Vars world =
    record { world = world; lines = map variable_line world.vars }
meanwhile place other world = ignored world

-- ---- answers

-- on with what a key replies; `later` is the dialog under the keys after it
abbrev pub after_reply : Shelf → Reply → Key → List Key → Step → (Step → HostOut × Step)
    → HostOut × Step
after_reply shelf (answers v) one keys step later = (out.Value v, record step { keys = keys })
after_reply shelf ends_it one keys step later =
    (out.Fatal Stopped, record step { keys = keys })
after_reply shelf passes one keys step later =
    later (with_scene (meanwhile (place_now shelf step.world) one step.world)
    (record step { keys = keys }))

-- the keys that are left answer a dialog; where they end, it stays open
abbrev pub answered_by : Shelf → Dialog → List Key → Step → HostOut × Step
answered_by shelf dialog [] step = (out.Asks dialog, record step { keys = [] })
answered_by shelf dialog (one ∷ keys) step =
    after_reply shelf (reply_to dialog one) one keys step (answered_by shelf dialog keys)

-- a dialog is answered by the keys that a step has left
abbrev pub by_keys : Shelf → Step → Dialog → HostOut × Step
by_keys shelf step dialog = answered_by shelf dialog step.keys step
