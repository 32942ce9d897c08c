-- What the commands on folders come to: prepare and make. This project's own.
use Rattle.std.specs.Prelude.{◌≡◌, ℕ}
use Rattle.wap_cli.specs.declared.status.Status.{Status}
use Rattle.wap_cli.specs.prepare.Preparing.{Prepares}
use Rattle.wap_cli.specs.made.Making.{Makes}
use Rattle.wap_cli.specs.Devices.{Devices}

-- the pages of the store are judged, and no key is read
pub record PreparesUnread (old new : Devices) (status : Status) : Type 0 where
  pub prepares : Prepares old.store new.store old.sink new.sink status
  pub unread : new.source ≡ old.source

-- the made folder of a number is browsed; nothing is asked of the store, and no key is read
pub record MakesAlone (n : ℕ) (old new : Devices) (status : Status) : Type 0 where
  pub makes : Makes n old.sink new.sink status
  pub unasked : new.store ≡ old.store
  pub unread : new.source ≡ old.source
