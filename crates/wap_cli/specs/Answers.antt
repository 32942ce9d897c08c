-- What a command on one page comes to: verify, list, check, canon and compile. This project's own.
use Rattle.std.specs.Prelude.{◌≡◌, ℕ, false, List, Option, Some, None, Result, Ok, Err, IfOk}
use Rattle.wap_base.specs.Outcome.{Meets}
use Rattle.wap_devices.specs.declared.store.Fetched.{Fetched}
use Rattle.wap_devices.specs.declared.store.Fetched.TheVariants as fetched
use Rattle.wap_base.specs.Contents.{Contents, page_named}
use Rattle.wap_devices.specs.Sinks.{SinkSeen}
use Rattle.wap_devices.specs.Stores.{Known, Agrees}
use Rattle.wap_keys.specs.declared.words.words.PageCommand.{PageCommand}
use Rattle.wap_keys.specs.declared.words.words.PageCommand.TheVariants as command
use Rattle.wap_pages.specs.declared.fault.PageErr.{PageErr}
use Rattle.wap_pages.specs.declared.fault.PageErr.TheVariants as error
use Rattle.wap_pages.specs.declared.fault.PageFault.{PageFault}
use Rattle.wap_pages.specs.declared.fault.PageFault.TheVariants.{Missing}
use Rattle.wap_cli.specs.inspect.Units.{IsVerifyLine, IsListing}
use Rattle.wap_cli.specs.inspect.Documents.{IsCanonical, IsCheckLine}
use Rattle.wap_cli.specs.inspect.Sources.{IsCompiled}
use Rattle.wap_pages.specs.Memory.{is_of_memory, RefusesForFault}
use Rattle.wap_pages.specs.Refusals.{RefusesUnit, RefusesVerify, RefusesDocument, RefusesCheck}
use Rattle.wap_pages.specs.Refusals.{RefusesSource}
use Rattle.wap_cli.specs.declared.status.Status.{Status}
use Rattle.wap_cli.specs.declared.status.Status.TheVariants.{Done, Refused, WriteFault, NoMemory}
use Rattle.wap_cli.specs.Writing.{PutsTo}

-- the text that a command writes for a page with these bytes
abbrev pub IsText : PageCommand → List ℕ → List ℕ → Type 0
IsText command.Verify bytes text = IsVerifyLine bytes text
IsText command.List bytes text = IsListing bytes text
IsText command.Check bytes text = IsCheckLine bytes text
IsText command.Canon bytes text = IsCanonical bytes text
IsText command.Compile bytes text = IsCompiled bytes text

-- why it refuses such a page
abbrev pub IsReason : PageCommand → List ℕ → PageFault → Type 0
IsReason command.Verify bytes fault = RefusesVerify bytes fault
IsReason command.List bytes fault = RefusesUnit bytes fault
IsReason command.Check bytes fault = RefusesCheck bytes fault
IsReason command.Canon bytes fault = RefusesDocument bytes fault
IsReason command.Compile bytes fault = RefusesSource bytes fault

-- what is found for a command in a page with these bytes, unless memory runs out
pub record Finds (command : PageCommand) (bytes : List ℕ) (result : Result (List ℕ) PageErr)
    : Type 0 where
  -- its text, and there is no other, nor a reason to refuse the page then
  pub found : IfOk result (λ text. IsText command bytes text)
  pub only : (text : List ℕ) → IsText command bytes text
      → Meets error.NoMemory (λ text. text) result (Ok text)
  -- or the reason
  pub refused : (fault : PageFault) → result ≡ Err (error.Refused fault)
      → IsReason command bytes fault
  pub for_fault : RefusesForFault result

-- the same, where the page may be missing
abbrev pub IsTextOf : PageCommand → Option (List ℕ) → List ℕ → Type 0
IsTextOf command None text = ⊥
IsTextOf command (Some bytes) text = IsText command bytes text

abbrev pub IsReasonOf : PageCommand → Option (List ℕ) → PageFault → Type 0
IsReasonOf command None fault = fault ≡ Missing
IsReasonOf command (Some bytes) fault = IsReason command bytes fault

-- the page of a name in any pages that may be those of a store of which this is known
abbrev pub IsPageOf : Known → List ℕ → Option (List ℕ) → Type 0
IsPageOf known name page = (pages : Contents) → Agrees known pages → page ≡ page_named name pages

-- what the store answered
abbrev pub page_of : Fetched → Option (List ℕ)
page_of fetched.Missing = None
page_of (fetched.Found bytes) = Some bytes

-- what a command comes to on a page: the sink before and after, and how it ended
pub data Answers (command : PageCommand) (page : Option (List ℕ)) (before after : SinkSeen)
    : Status → Type 0 where
  -- it has a text, which was to be written
  writes : (status : Status) (text : List ℕ) → IsTextOf command page text
      → PutsTo text before after status → Answers command page before after status
  -- it has none, for this reason, and not since memory ran out
  refused : (fault : PageFault) → IsReasonOf command page fault → is_of_memory fault ≡ false
      → ((text : List ℕ) → ¬ IsTextOf command page text) → after ≡ before
      → Answers command page before after (Refused fault)
  -- memory ran out, and nothing was written
  no_memory : after ≡ before → Answers command page before after NoMemory

-- how a command ends that has no text
abbrev pub refused_by : PageErr → Status
refused_by (error.Refused fault) = Refused fault
refused_by error.NoMemory = NoMemory

-- how it ends by how its text was written
abbrev pub written_so : {A E : Type 0} → Result A E → Status
written_so (Ok done) = Done
written_so (Err failed) = WriteFault
