-- The headline of lists of keys: what their replaying over a store comes to, where its pages are
-- those that its contents are by the relations of bytes, and a source of a script means what its
-- program means. This project's own.
use Rattle.std.specs.Prelude.{◌≡◌}
use Rattle.wap_devices.specs.Stores.{StoreSeen}
use Rattle.wap_world.specs.Sessions.{Begun}
use Rattle.wap_cli.specs.declared.status.Status.{Status}
use Rattle.wap_cli.specs.replay.Headline.{Replays}
use Rattle.wap_cli.specs.Browsing.{PagesAndReaders, ArePagesAndReaders, source_network}
use Rattle.wap_cli.specs.Devices.{Devices}
use Rattle.wap_cli.specs.Networks.{Network}

-- the network with pages that the contents of a store may be
abbrev pub IsNetworkOver : StoreSeen → Network → Type 0
IsNetworkOver store network =
    (one : PagesAndReaders) × ArePagesAndReaders store one × (network ≡ source_network one)

-- sessions that begin so, one for each list of keys: the store, the keys and what was written
-- before and after, and the status
abbrev pub ReplaysOver : Begun → Devices → Devices → Status → Type 0
ReplaysOver begun old new status =
    Replays (IsNetworkOver new.store) begun old new status
