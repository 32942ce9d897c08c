-- A folder, a reader and a writer as the devices of a run. This project's own.
use Rattle.std.specs.Prelude.{[]}
use Rattle.wap_devices.specs.Stores.{StoreSeen, Told}
use Rattle.wap_devices.specs.Sources.{Unknown}
use Rattle.wap_system.specs.Adapters.{ReaderState, WriterState, seen_of_reader, seen_of_writer}
use Rattle.wap_cli.specs.Devices.{Devices}

-- nothing was answered, given or taken yet
abbrev pub untouched : Devices
untouched = record {
  store = record { known = Told [] []; faults = 0; fetches = 0; listings = 0 };
  source = record { given = []; coming = Unknown; reads = 0; ends = 0; faults = 0 };
  sink = record { taken = []; writes = 0; faults = 0 };
}

-- what the folder answered, the reader gave and the writer took
abbrev pub devices_of : {I O : Type 0} → StoreSeen → ReaderState I → WriterState O → Devices
devices_of store source sink =
    record { store = store; source = seen_of_reader source; sink = seen_of_writer sink }
