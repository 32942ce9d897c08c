-- How a session ends whose keys came to their end. This project's own.
use Rattle.std.specs.Prelude.{Bool, true, false}
use Rattle.wap_keys.specs.declared.ending.Ending.{Ending}
use Rattle.wap_keys.specs.declared.ending.Ending.TheVariants as ending
use Rattle.wap_cli.specs.declared.status.Status.{Status}
use Rattle.wap_cli.specs.declared.status.Status.TheVariants.{Done, KeyReadFault}
use Rattle.wap_cli.specs.declared.status.Status.TheVariants.{BadKey, OpenDialog, TooManyKeys}

-- the status of a session that was played to the end of its keys, by whether a dialog is open there
abbrev pub at_end : Bool → Status
at_end false = Done
at_end true = OpenDialog

-- the status of a session whose keys came to this end
abbrev pub ended : Bool → Ending → Status
ended is_open ending.End = at_end is_open
ended is_open (ending.BadKey line fault) = BadKey line fault
ended is_open ending.TooManyKeys = TooManyKeys
ended is_open ending.ReadFault = KeyReadFault
