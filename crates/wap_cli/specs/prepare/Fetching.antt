-- A store that is asked for several pages, one after the other. This project's own.
use Rattle.std.specs.Prelude.{◌≡◌, ℕ, ◌≤◌, List, Result, OnOk, IsErrOf, ◌<◌, ◌+◌}
use Rattle.wap_devices.specs.Stores.{StoreSeen, Known, Grew}
use Rattle.wap_devices.specs.declared.store.Fetched.{Fetched}
use Rattle.wap_devices.specs.declared.store.StoreErr.{StoreErr}
use Rattle.wap_devices.specs.declared.store.StoreErr.TheVariants.{Failed}
use Rattle.wap_cli.specs.Answers.{IsPageOf, page_of}

-- for so many, up to a fault
pub record AsksForAll {A : Type 0} (count : ℕ) (before after : StoreSeen)
    (result : Result A StoreErr) : Type 0 where
  pub whole : OnOk result (after.fetches ≡ before.fetches + count)
  pub more : before.fetches ≤ after.fetches
  pub few : after.fetches ≤ before.fetches + count
  pub listings : after.listings ≡ before.listings
  pub known : Grew before.known after.known
  -- it fails only where the count of faults rose, which stays where it answers
  pub counts : before.faults ≤ after.faults
  pub failed : IsErrOf result Failed → before.faults < after.faults
  pub steady : OnOk result (after.faults ≡ before.faults)

-- ---- what it answers

-- a name, and what the store answered for it
abbrev pub Job : Type 0
Job = List ℕ × Fetched

-- the store answered the page of the name, whatever its pages may be
abbrev pub IsAnswered : Known → Job → Type 0
IsAnswered known job = IsPageOf known job.0 (page_of job.1)
