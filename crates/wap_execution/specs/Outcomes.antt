-- What calls and runs come to, and what a host of machines does: whoever finds the functions of
-- other units and has the libraries. This project's own.
use Rattle.std.specs.Prelude.{ℕ, List, Option}
use Rattle.wap_base.specs.declared.limits.Limits.{Limits}
use Rattle.wap_value.specs.declared.value.Value.{Value}
use Rattle.wap_url.specs.declared.url.Url.{Url}
use Rattle.wap_unit.specs.declared.unit.Unit.{Unit}
use Rattle.wap_execution.specs.declared.dialog.Dialog.{Dialog}
use Rattle.wap_execution.specs.declared.fatal.Fatal.{Fatal}
use Rattle.wap_execution.specs.declared.found.Found.{Found}
use Rattle.wap_execution.specs.declared.library.HostOut.{HostOut}
use Rattle.wap_execution.specs.Frames.{FunctionOf, Frame}

-- how a run ends
pub data Outcome : Type 0 where
  -- the function gives a value
  value : Value → Outcome
  -- the script ends itself with a value
  exit : Value → Outcome
  -- the script ends abnormally
  fatal : Fatal → Outcome
  -- the frames, the innermost first, wait for the answer to a dialog
  waits : Dialog → List Frame → Outcome
  -- something that an instruction needs isn't there
  stuck : Outcome

-- an outcome, and the turns and the host's state that are left
pub record Ended (S : Type 0) : Type 0 where
  pub outcome : Outcome
  pub turns : ℕ
  pub state : S

-- what a host answers, and its state after that, where U are the scripts that it finds
pub record HostingOf (U S : Type 0) : Type 0 where
  -- by the state, the calling script's URL, the called one's, the function's name, how many
  -- arguments there are, and how many functions are at work
  pub external : S → Url → List ℕ → List ℕ → ℕ → ℕ → Found U × S
  -- by the state, the script's URL and that of its caller, the numbers of library and function, and
  -- the arguments
  pub library : S → Url → Option Url → ℕ → ℕ → List Value → HostOut × S

-- what a run depends on: the limits, the host, and what is done to the state before each
-- instruction of a function, which is nothing but where instructions are counted
pub record SettingOf (U S : Type 0) : Type 0 where
  pub limits : Limits
  pub host : HostingOf U S
  pub tick : FunctionOf U → S → S

-- a host that finds units
abbrev pub Hosting : Type 0 → Type 0
Hosting S = HostingOf Unit S

-- what a run among units depends on
abbrev pub Setting : Type 0 → Type 0
Setting S = SettingOf Unit S
