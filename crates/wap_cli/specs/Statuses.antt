-- Statuses of the program: their numbers and their lines. This project's own.
use Rattle.std.specs.Prelude.{◌≡◌, ◌⊎◌, ℕ, List, [], ◌++◌, codes, decimal}
use Rattle.wap_keys.specs.declared.fault.KeyFault.{KeyFault}
use Rattle.wap_keys.specs.declared.fault.KeyFault.TheVariants as key
use Rattle.wap_pages.specs.Printing.{page_text}
use Rattle.wap_cli.specs.declared.status.Status.{Status}
use Rattle.wap_cli.specs.declared.status.Status.TheVariants.{Done, Usage, Refused, StoreFault}
use Rattle.wap_cli.specs.declared.status.Status.TheVariants.{KeyReadFault, WriteFault, NoMemory}
use Rattle.wap_cli.specs.declared.status.Status.TheVariants.{BadKey, OpenDialog, TooManyKeys}

abbrev pub number_of : Status → ℕ
number_of Done = 0
number_of Usage = 1
number_of (Refused fault) = 2
number_of StoreFault = 3
number_of KeyReadFault = 4
number_of WriteFault = 5
number_of NoMemory = 6
number_of (BadKey line fault) = 7
number_of OpenDialog = 8
number_of TooManyKeys = 9

abbrev pub fault_name : KeyFault → List ℕ
fault_name key.TooLong = codes "TooLong"
fault_name key.NotText = codes "NotText"
fault_name key.UnknownWord = codes "UnknownWord"
fault_name key.Missing = codes "Missing"
fault_name key.BadNumber = codes "BadNumber"
fault_name key.Surplus = codes "Surplus"
fault_name key.NoMemory = codes "NoMemory"

-- the lines that are the same each time
abbrev pub fixed_line : Status → List ℕ
fixed_line Done = []
fixed_line Usage = codes "wap: usage\n"
fixed_line StoreFault = codes "wap: store fault\n"
fixed_line KeyReadFault = codes "wap: key read fault\n"
fixed_line WriteFault = codes "wap: write fault\n"
fixed_line NoMemory = codes "wap: no memory\n"
fixed_line OpenDialog = codes "wap: open dialog\n"
fixed_line TooManyKeys = codes "wap: too many keys\n"
fixed_line (Refused fault) = []
fixed_line (BadKey line fault) = []

-- a line of standard error, and none where all went well
abbrev pub status_line : Status → List ℕ
status_line (BadKey line fault) =
    codes "wap: line " ++ (decimal line ++ (codes " " ++ (fault_name fault ++ codes "\n")))
status_line (Refused fault) = codes "wap: refused " ++ (page_text fault ++ codes "\n")
status_line Done = fixed_line Done
status_line Usage = fixed_line Usage
status_line StoreFault = fixed_line StoreFault
status_line KeyReadFault = fixed_line KeyReadFault
status_line WriteFault = fixed_line WriteFault
status_line NoMemory = fixed_line NoMemory
status_line OpenDialog = fixed_line OpenDialog
status_line TooManyKeys = fixed_line TooManyKeys

-- the run ended so, or ran out of memory
abbrev pub IsOrWants : Status → Status → Type 0
IsOrWants status result = (result ≡ status) ⊎ (result ≡ NoMemory)
