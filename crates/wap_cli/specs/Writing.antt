-- What is written of a text, by the status with which that ends. This project's own.
use Rattle.std.specs.Prelude.{◌≡◌, ℕ, ◌≤◌, List, ◌<◌}
use Rattle.wap_devices.specs.Sinks.{SinkSeen}
use Rattle.wap_devices.specs.Transfer.{Appends, AppendsPrefix}
use Rattle.wap_cli.specs.declared.status.Status.{Status}
use Rattle.wap_cli.specs.declared.status.Status.TheVariants.{Done, WriteFault, NoMemory}

-- a text was written of which Tells says, for each fact, that it holds of it; with each status, and
-- with no other
pub data Writes (Tells : (List ℕ → Type 0) → Type 0) (before after : SinkSeen) : Status → Type 0
  where
    -- all of it
    done : Tells (Appends before.taken after.taken) → after.faults ≡ before.faults
        → Writes Tells before after Done
    -- a prefix of it, where the sink failed
    write_fault : Tells (AppendsPrefix before.taken after.taken)
        → before.faults < after.faults → before.faults ≤ after.faults
        → Writes Tells before after WriteFault
    -- nothing, where memory ran out
    no_memory : after ≡ before → Writes Tells before after NoMemory

-- this text was
abbrev pub PutsTo : List ℕ → SinkSeen → SinkSeen → Status → Type 0
PutsTo text before after status = Writes (λ Wrote. Wrote text) before after status
