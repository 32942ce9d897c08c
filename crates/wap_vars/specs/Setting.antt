-- What setting a variable gives (WAP-191, section 10.3.4), and why it is refused. The two limits
-- are this project's own.
use Rattle.std.specs.Prelude.{ℕ, Bool, not, ◌&&◌, nat_lt, nat_le, if◌then◌else◌, List}
use Rattle.std.specs.Prelude.{length, is_some, Result, Ok, Err}
use Rattle.wap_base.specs.Names.{is_name}
use Rattle.wap_base.specs.Utf8.{utf8_len}
use Rattle.wap_base.specs.declared.name.NameFault.{NameFault}
use Rattle.wap_base.specs.declared.name.NameFault.TheVariants as name_faults
use Rattle.wap_vars.specs.declared.fault.VarFault.{VarFault}
use Rattle.wap_vars.specs.declared.fault.VarFault.TheVariants.{BadName, TooLong, Full, NoMemory}
use Rattle.wap_vars.specs.declared.limits.TheConstants.{VAR_LIMIT, TEXT_LIMIT}
use Rattle.wap_vars.specs.Variables.{Variables, text_of, updated}

-- as many names are kept as may be, and this is none of them
abbrev pub has_no_room : Variables → List ℕ → Bool
has_no_room vars name = nat_le VAR_LIMIT (length vars) && not (is_some (text_of vars name))

-- the variables after a text is set under a name, or the first cause to refuse it
abbrev pub set_in : Variables → List ℕ → List ℕ → Result Variables VarFault
set_in vars name text =
    if not (is_name name) then Err BadName
    else (if nat_lt TEXT_LIMIT (utf8_len text) then Err (TooLong (utf8_len text))
    else (if has_no_room vars name then Err Full
    else Ok (updated vars name text)))

-- why a text that became no name is none of a variable
abbrev pub fault_of_name : NameFault → VarFault
fault_of_name name_faults.BadName = BadName
fault_of_name name_faults.NoMemory = NoMemory
