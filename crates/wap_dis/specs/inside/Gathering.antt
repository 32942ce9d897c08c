-- Bytes that are put after others, of which some are written and some are gathered still.
use Rattle.std.specs.Prelude.{◌≡◌, ℕ, ◌≤◌, Bool, true, false, List, ◌++◌, ◌<◌}
use Rattle.wap_devices.specs.Transfer.{Appends, AppendsPrefix}
use Rattle.wap_devices.specs.Sinks.{SinkSeen}

pub record State : Type 0 where
  pub bytes : List ℕ
  pub failed : Bool

-- what was gathered and is put now was written, but for what is gathered still
pub record Moves (before after : SinkSeen) (gathered left text : List ℕ) : Type 0 where
  pub moved : List ℕ
  pub written : Appends before.taken after.taken moved
  pub same : gathered ++ text ≡ moved ++ left

-- the sink and what is gathered, before and after a text is put
pub record Gathers (before after : SinkSeen) (old new : State) (text : List ℕ) : Type 0 where
  pub counts : before.faults ≤ after.faults
  pub steady : new.failed ≡ false → after.faults ≡ before.faults
  pub whole : new.failed ≡ false
      → (old.failed ≡ false) × Moves before after old.bytes new.bytes text
  pub broken : new.failed ≡ true → old.failed ≡ false
      → AppendsPrefix before.taken after.taken (old.bytes ++ text)
      × (before.faults < after.faults)
  pub stays : old.failed ≡ true → (new.failed ≡ true) × (after ≡ before)
