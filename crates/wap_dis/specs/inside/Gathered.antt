-- What is held as it is seen.
use Rattle.wap_dis.specs.declared.held.Held.{Held}
use Rattle.wap_dis.specs.inside.Gathering.{State}

abbrev pub state : Held → State
state held = record { bytes = held.bytes.items; failed = held.failed }
