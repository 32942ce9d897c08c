-- The libraries WMLBrowser and Dialogs (WAP-194, "WMLBrowser Library" and "Dialogs Library"): each
-- function with what it comes to from the step so far.
use Rattle.std.specs.Prelude.{ℕ, true, false, if◌then◌else◌, List, [], ◌∷◌, ◌++◌, slice_get}
use Rattle.std.specs.Prelude.{Option, Some, None, unwrap_or, Result, Ok, Err, codes}
use Rattle.std.specs.Option.{option_map_or, option_to_list}
use Rattle.wap_base.specs.Names.{is_name}
use Rattle.wap_url.specs.declared.url.Url.{Url}
use Rattle.wap_url.specs.Relative.{relative_form}
use Rattle.wap_value.specs.declared.value.Value.{Value}
use Rattle.wap_value.specs.declared.value.Value.TheVariants.{Bool as Boolean, Str, Invalid}
use Rattle.wap_value.specs.Conversion.{text_of}
use Rattle.wap_tokens.specs.declared.markup.name.AttrName.TheVariants as attrs
use Rattle.wap_vars.specs.declared.fault.VarFault.{VarFault}
use Rattle.wap_vars.specs.declared.fault.VarFault.TheVariants as fault
use Rattle.wap_vars.specs.Variables.{Variables, text_of as variable}
use Rattle.wap_vars.specs.Setting.{set_in}
use Rattle.wap_cardrules.specs.declared.task.Task.{Task}
use Rattle.wap_cardrules.specs.declared.task.Task.TheVariants as task
use Rattle.wap_cardrules.specs.Values.{value_if}
use Rattle.wap_execution.specs.declared.dialog.Dialog.{Dialog}
use Rattle.wap_execution.specs.declared.dialog.Dialog.TheVariants as dialog
use Rattle.wap_execution.specs.declared.library.HostOut.{HostOut}
use Rattle.wap_execution.specs.declared.library.HostOut.TheVariants as out
use Rattle.wap_libs.specs.Row.{argument}
use Rattle.wap_world.specs.World.{World, Place, last_entry}
use Rattle.wap_world.specs.Steps.{Step}
use Rattle.wap_world.specs.Screens.{screen}
use Rattle.wap_world.specs.Starting.{in_world}
use Rattle.wap_world.specs.scripting.Dialogs.{dialog_line}
use Rattle.wap_world.specs.scripting.Additions.{with_lines}

-- a call gives a value
abbrev pub gives : Value → Step → HostOut × Step
gives v step = (out.Value v, step)

-- an argument as a String; where it has no such conversion the call gives invalid
abbrev pub on_text : Value → Step → (List ℕ → HostOut × Step) → HostOut × Step
on_text v step next = option_map_or next (text_of v) (gives Invalid step)

-- ---- WMLBrowser

-- the text of a variable, and "" of one that isn't set; invalid where the name is none of a
-- variable
abbrev pub variable_in : World → List ℕ → Value
variable_in world name =
    if is_name name then Str (unwrap_or (variable world.vars name) []) else Invalid

-- true where it was set, false where the text is too long or the variables are full, invalid where
-- the name is none of a variable
abbrev pub set_by : Result Variables VarFault → Step → HostOut × Step
set_by (Ok vars) step = gives (Boolean true) (in_world (record step.world { vars = vars }) step)
set_by (Err fault.BadName) step = gives Invalid step
set_by (Err (fault.TooLong bytes)) step = gives (Boolean false) step
set_by (Err fault.Full) step = gives (Boolean false) step
-- no definition comes to this: only code runs out of memory
set_by (Err fault.NoMemory) step = gives Invalid step

-- a get of a reference that sets nothing
abbrev pub plain_go : List ℕ → Task
plain_go href = task.Go (record {
  href = href;
  post = false;
  referer = false;
  fresh = false;
  posts = [];
  sets = [];
})

-- an empty URL drops what was asked for
abbrev pub pending_go : List ℕ → Option Task
pending_go [] = None
pending_go (c ∷ href) = Some (plain_go (c ∷ href))

-- this is done at the end of the script, in place of what was asked for before
abbrev pub pends : Option Task → Step → HostOut × Step
pends one step = gives (Str []) (in_world (record step.world { pending = one }) step)

-- a reference from the script to the current card: its deck, and its id where it has one
abbrev pub card_reference : Url → World → Place → List ℕ
card_reference base world place =
    relative_form base place.url
    ++ option_map_or (λ id. codes "#" ++ id) (value_if world.vars attrs.Id place.card) []

-- without a card there is no reference
abbrev pub current_card : Url → Step → Option Place → HostOut × Step
current_card base step None = gives Invalid step
current_card base step (Some place) = gives (Str (card_reference base step.world place)) step

-- the screen alone, without defaults and timer
abbrev pub refreshed : Step → Option Place → HostOut × Step
refreshed step None = gives Invalid step
refreshed step (Some place) =
    gives (Str []) (with_lines (screen step.world.vars place.deck place.card) step)

-- WAP-194, "getVar"
abbrev pub browser_get_var : Value → Step → HostOut × Step
browser_get_var v step = on_text v step (λ name. gives (variable_in step.world name) step)

-- WAP-194, "setVar"
abbrev pub browser_set_var : Value → Value → Step → HostOut × Step
browser_set_var v w step =
    on_text v step (λ name. on_text w step (λ text. set_by (set_in step.world.vars name text) step))

-- WAP-194, "go"
abbrev pub browser_go : Value → Step → HostOut × Step
browser_go v step = on_text v step (λ href. pends (pending_go href) step)

-- WAP-194, "prev"
abbrev pub browser_prev : Step → HostOut × Step
browser_prev step = pends (Some (task.Prev [])) step

-- WAP-194, "newContext": variables are cleared, and of the history the current card is left
abbrev pub browser_new_context : Step → HostOut × Step
browser_new_context step = gives (Str []) (in_world (record step.world {
  vars = [];
  history = option_to_list (last_entry step.world);
}) step)

-- WAP-194, "getCurrentCard"; `now` is the current card of a world
abbrev pub browser_get_current_card : (World → Option Place) → Url → Step → HostOut × Step
browser_get_current_card now base step = current_card base step (now step.world)

-- WAP-194, "refresh"
abbrev pub browser_refresh : (World → Option Place) → Step → HostOut × Step
browser_refresh now step = refreshed step (now step.world)

-- the functions
pub data BrowserFunction : Type 0 where
  GetVar : BrowserFunction
  SetVar : BrowserFunction
  Go : BrowserFunction
  Prev : BrowserFunction
  NewContext : BrowserFunction
  GetCurrentCard : BrowserFunction
  Refresh : BrowserFunction

-- in the order of their numbers
abbrev pub browser_functions : List BrowserFunction
browser_functions =
    GetVar ∷ SetVar ∷ Go ∷ Prev ∷ NewContext ∷ GetCurrentCard ∷ Refresh ∷ []

-- each function at its name
abbrev pub row_of_browser : (World → Option Place) → Url → List Value → Step → BrowserFunction
    → HostOut × Step
row_of_browser now base arguments step GetVar = browser_get_var (argument arguments 0) step
row_of_browser now base arguments step SetVar =
    browser_set_var (argument arguments 0) (argument arguments 1) step
row_of_browser now base arguments step Go = browser_go (argument arguments 0) step
row_of_browser now base arguments step Prev = browser_prev step
row_of_browser now base arguments step NewContext = browser_new_context step
row_of_browser now base arguments step GetCurrentCard = browser_get_current_card now base step
row_of_browser now base arguments step Refresh = browser_refresh now step

-- a function by its number; no call asks for one that isn't there
abbrev pub wml_browser : (World → Option Place) → Url → ℕ → List Value → Step → HostOut × Step
wml_browser now base number arguments step =
    option_map_or (row_of_browser now base arguments step) (slice_get browser_functions number)
    (gives Invalid step)

-- ---- Dialogs

-- a dialog's line, and then its answer
abbrev pub asks : Dialog → Step → HostOut × Step
asks one step = (out.Asks one, with_lines (dialog_line one ∷ []) step)

-- an empty label stands for the usual one
abbrev pub label_or : List ℕ → List ℕ → List ℕ
label_or [] usual = usual
label_or (c ∷ label) usual = c ∷ label

-- WAP-194, "prompt"
abbrev pub dialogs_prompt : Value → Value → Step → HostOut × Step
dialogs_prompt v w step =
    on_text v step (λ message. on_text w step (λ first. asks (dialog.Prompt message first) step))

-- WAP-194, "confirm"
abbrev pub dialogs_confirm : Value → Value → Value → Step → HostOut × Step
dialogs_confirm v w u step =
    on_text v step (λ message. on_text w step (λ ok. on_text u step (λ cancel.
    asks
    (dialog.Confirm message (label_or ok (codes "OK")) (label_or cancel (codes "Cancel"))) step)))

-- WAP-194, "alert"
abbrev pub dialogs_alert : Value → Step → HostOut × Step
dialogs_alert v step = on_text v step (λ message. asks (dialog.Alert message) step)

-- the functions
pub data DialogFunction : Type 0 where
  Prompt : DialogFunction
  Confirm : DialogFunction
  Alert : DialogFunction

-- in the order of their numbers
abbrev pub dialog_functions : List DialogFunction
dialog_functions = Prompt ∷ Confirm ∷ Alert ∷ []

-- each function at its name
abbrev pub row_of_dialogs : List Value → Step → DialogFunction → HostOut × Step
row_of_dialogs arguments step Prompt =
    dialogs_prompt (argument arguments 0) (argument arguments 1) step
row_of_dialogs arguments step Confirm =
    dialogs_confirm (argument arguments 0) (argument arguments 1) (argument arguments 2) step
row_of_dialogs arguments step Alert = dialogs_alert (argument arguments 0) step

-- a function by its number; no call asks for one that isn't there
abbrev pub dialogs : ℕ → List Value → Step → HostOut × Step
dialogs number arguments step =
    option_map_or (row_of_dialogs arguments step) (slice_get dialog_functions number)
    (gives Invalid step)
