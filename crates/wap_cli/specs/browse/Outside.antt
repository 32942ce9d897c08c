-- The outside of a browser at a moment. This project's own.
use Rattle.wap_devices.specs.Sources.{SourceSeen}
use Rattle.wap_devices.specs.Sinks.{SinkSeen}
use Rattle.wap_world.specs.site.Asking.{Seen}

-- the pages, where keys come from, and where lines are written to
pub record Outside : Type 0 where
  pub pages : Seen
  pub source : SourceSeen
  pub sink : SinkSeen
