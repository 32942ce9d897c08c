-- What is said of lists of keys over the units that a store's pages are judged to is said of them
-- over the sources that its pages are.
use Rattle.std.proofs.Common.{◌∙◌}
use Rattle.wap_devices.specs.Stores.{StoreSeen}
use Rattle.wap_world.specs.Sessions.{Begun}
use Rattle.wap_cli.specs.declared.status.Status.{Status}
use Rattle.wap_cli.specs.replay.Headline.{IsNetworkOf, ReplaysSeen}
use Rattle.wap_cli.proofs.ReplayLemmas.Over.{replays_too}
use Rattle.wap_cli.specs.Devices.{Devices}
use Rattle.wap_cli.specs.Networks.{Network}
use Rattle.wap_cli.specs.Replaying.{IsNetworkOver, ReplaysOver}
use Rattle.wap_cli.proofs.Calling.{network_units}

-- the network with a store's pages is that with the judged pages
network_of_units : (store : StoreSeen) (network : Network) → IsNetworkOver store network
    → IsNetworkOf store network
network_of_units store network (one, (contents, agrees, are, reads), is) =
    (contents, agrees, is ∙ network_units one contents are reads)

-- replaying over units is replaying over sources
pub replays_over : (begun : Begun) (old new : Devices) (status : Status)
    → ReplaysSeen begun old new status → ReplaysOver begun old new status
replays_over begun old new status so =
    replays_too (IsNetworkOf new.store) (IsNetworkOver new.store) (network_of_units new.store) begun
    old new status so
