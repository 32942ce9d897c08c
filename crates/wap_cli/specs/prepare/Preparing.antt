-- What the preparing of a folder comes to: its report, or how it ends without one. This project's
-- own.
use Rattle.std.specs.Prelude.{ℕ, List}
use Rattle.wap_devices.specs.Stores.{StoreSeen, Known}
use Rattle.wap_devices.specs.Sinks.{SinkSeen}
use Rattle.wap_cli.specs.declared.status.Status.{Status}
use Rattle.wap_cli.specs.prepare.Reports.{Entry, AreEntries, report}
use Rattle.wap_cli.specs.prepare.Working.{WorksOnAll}

-- the entries of all pages, and what was written of the report on them
pub record Reports (Wrote : List ℕ → Type 0) (known : Known) : Type 0 where
  pub entries : List Entry
  pub right : AreEntries known entries
  pub wrote : Wrote (report entries)

-- the store and the sink, before and after, and how it ended
abbrev pub Prepares : StoreSeen → StoreSeen → SinkSeen → SinkSeen → Status → Type 0
Prepares store store_after sink sink_after status =
    WorksOnAll (λ Wrote. Reports Wrote store_after.known) store store_after sink sink_after status
