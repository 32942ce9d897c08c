-- A site: its pages, and what its scripts come to. This project's own.
use Rattle.std.specs.Prelude.{ℕ, List, Option}
use Rattle.wap_url.specs.declared.url.Url.{Url}
use Rattle.wap_value.specs.declared.value.Value.{Value}
use Rattle.wap_execution.specs.declared.fatal.Fatal.{Fatal}
use Rattle.wap_world.specs.Shelves.{Shelf}
use Rattle.wap_world.specs.Steps.{Step}

-- an external function of a script: its index, and how many arguments it takes
pub record External : Type 0 where
  pub index : ℕ
  pub arguments : ℕ

-- what a URL's fragment calls
pub record Call : Type 0 where
  pub function : List ℕ
  pub arguments : List Value

-- how a script ends
pub data End : Type 0 where
  -- it came to its end, or ended itself
  done : End
  -- it ended abnormally
  failed : Fatal → End
  -- the keys ended in a dialog
  unanswered : End

-- how a script ended, the turns that are left, and the step: while scripts run the turns are apart,
-- and the world's are 0
pub record Ran : Type 0 where
  pub end : End
  pub turns : ℕ
  pub step : Step

-- what a script is to those who call it
pub record Script : Type 0 where
  -- its external functions
  pub external : List ℕ → Option External
  -- what the function of an index comes to: by the script's URL and that of who called, arguments,
  -- turns and the step so far
  pub run : Url → Option Url → ℕ → List Value → ℕ → Step → Ran

-- what a browser is used with
pub record Site : Type 0 where
  pub shelf : Shelf
  -- the external function of a page's name and its own
  pub external : List ℕ → List ℕ → Option External
  -- what the function of an index of the script of a name comes to: by its URL and that of who
  -- called, arguments, turns and the step so far
  pub run : List ℕ → Url → Option Url → ℕ → List Value → ℕ → Step → Ran
  -- what a fragment calls
  pub call : List ℕ → Option Call

-- the script of a page's name
abbrev pub script_of : Site → List ℕ → Script
script_of site name = record { external = site.external name; run = site.run name }
