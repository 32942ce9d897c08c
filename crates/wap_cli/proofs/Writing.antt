-- A text that is put into a sink, and what there is to be said of it.
use Rattle.std.proofs.Common.{◌≡◌, ◌≢◌, ℕ, List, Result, Ok, Err, subst}
use Rattle.wap_devices.specs.Sinks.{SinkSeen, Puts}
use Rattle.wap_devices.specs.declared.fault.Failed.{Failed}
use Rattle.wap_pages.specs.declared.fault.PageFault.{PageFault}
use Rattle.wap_cli.specs.declared.status.Status.{Status}
use Rattle.wap_cli.specs.declared.status.Status.TheVariants.{Done, Refused, WriteFault}
use Rattle.wap_cli.specs.Answers.{written_so}
use Rattle.wap_cli.specs.Writing.{Writes, PutsTo}

-- what is said of one text is said of another
pub writes_as : (Tells TellsToo : (List ℕ → Type 0) → Type 0)
    → ((Wrote : List ℕ → Type 0) → Tells Wrote → TellsToo Wrote) → (before after : SinkSeen)
    (status : Status) → Writes Tells before after status → Writes TellsToo before after status
writes_as Tells TellsToo tell before after status (Writes.done wrote same) =
    Writes.done (tell _ wrote) same
writes_as Tells TellsToo tell before after status (Writes.write_fault wrote rose counts) =
    Writes.write_fault (tell _ wrote) rose counts
writes_as Tells TellsToo tell before after status (Writes.no_memory same) = Writes.no_memory same

-- a text is not refused
pub writes_unrefused : (Tells : (List ℕ → Type 0) → Type 0) (before after : SinkSeen)
    (status : Status) → Writes Tells before after status → (fault : PageFault)
    → status ≢ Refused fault
writes_unrefused Tells before after status (Writes.done wrote same) fault is = absurd cc
writes_unrefused Tells before after status (Writes.write_fault wrote rose counts) fault is =
    absurd cc
writes_unrefused Tells before after status (Writes.no_memory same) fault is = absurd cc

-- a call put the text
pub puts_by : {A : Type 0} (text : List ℕ) (before after : SinkSeen) (result : Result A Failed)
    → Puts text before after result → PutsTo text before after (written_so result)
puts_by text before after (Ok done) puts = Writes.done puts.whole puts.steady
puts_by text before after (Err failed) puts = Writes.write_fault puts.prefix puts.failed puts.counts

module _ {A : Type 0} (text other : List ℕ) (same : text ≡ other) (before after : SinkSeen) where
  -- whole
  pub put_whole : (done : A) → Puts {A = A} text before after (Ok done)
      → PutsTo other before after Done
  put_whole done puts =
      subst (λ (l : List ℕ). PutsTo l before after Done) same
      (puts_by text before after (Ok done) puts)

  -- or in part
  pub put_part : (fault : Failed) → Puts {A = A} text before after (Err fault)
      → PutsTo other before after WriteFault
  put_part fault puts =
      subst (λ (l : List ℕ). PutsTo l before after WriteFault) same
      (puts_by text before after (Err fault) puts)
