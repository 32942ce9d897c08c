-- The command that saves a context where its keys end: what it writes, and how it ends. This
-- project's own.
use Rattle.std.specs.Prelude.{◌≡◌, ◌≢◌, ℕ, false, List, [], ◌++◌, Result, Ok, Err}
use Rattle.wap_devices.specs.Sinks.{SinkSeen}
use Rattle.wap_devices.specs.Sources.{MayGive}
use Rattle.wap_base.specs.declared.key.Key.{Key}
use Rattle.wap_keys.specs.Lines.{keys_of}
use Rattle.wap_image.specs.declared.context_parts.fault.SaveFault.{SaveFault}
use Rattle.wap_image.specs.declared.context_parts.parts.ContextParts.{ContextParts}
use Rattle.wap_pages.specs.declared.fault.PageFault.{PageFault}
use Rattle.wap_pages.specs.declared.fault.PageFault.TheVariants.{Save}
use Rattle.wap_world.specs.World.{World}
use Rattle.wap_world.specs.Steps.{Step, then_step}
use Rattle.wap_world.specs.Sessions.{Begun, unpushed, session, played}
use Rattle.wap_world.specs.scripting.UnitSites.{Pages}
use Rattle.wap_state.specs.Saved.{parts_of, saved_world, IsAtRest}
use Rattle.wap_pages.specs.Memory.{is_of_memory}
use Rattle.wap_cli.specs.Networks.{Network, network_of}
use Rattle.wap_cli.specs.saving.Saving.{image_of}
use Rattle.wap_cli.specs.declared.status.Status.{Status}
use Rattle.wap_cli.specs.declared.status.Status.TheVariants.{Done, Refused, NoMemory}
use Rattle.wap_cli.specs.Writing.{PutsTo}
use Rattle.wap_cli.specs.browse.Outside.{Outside}
use Rattle.wap_cli.specs.browse.Plays.{Play, AreUnitPages, HaveNoPush}
use Rattle.wap_cli.specs.browse.Headline.{Browses}

-- ---- an image

-- a command ends that is to write this image, or has this cause that there is none: the sink before
-- and after; with each status, and with no other
pub data WritesImage (image : Result (List ℕ) SaveFault) (before after : SinkSeen) : Status → Type 0
  where
    writes : (status : Status) (bytes : List ℕ) → image ≡ Ok bytes
        → PutsTo bytes before after status → WritesImage image before after status
    refused : (why : SaveFault) → image ≡ Err why → after ≡ before
        → WritesImage image before after (Refused (Save why))
    no_memory : after ≡ before → WritesImage image before after NoMemory

-- if the world is at rest, these are all of it but for the turns of a key
abbrev pub IsWhole : ContextParts → World → Type 0
IsWhole parts world = IsAtRest world → saved_world parts ≡ record world { budget = 0; turns = 0 }

-- ---- what keys come to over a network

-- where a session with an inbox begins so: its URL is opened before they are played
abbrev pub opened_at : Begun → Network → List Key → Step
opened_at begun network keys = (session network.push network.site begun keys).step

-- where it goes on in this world, with an empty inbox
abbrev pub played_at : World → Network → List Key → Step
played_at world network keys = (played network.push network.site keys (unpushed world)).step

-- the same over pages
abbrev pub played_in : World → Play
played_in world pages keys = played_at world (network_of pages) keys

-- a context has the parts of the world to which these keys lead over a network
pub record EndsAt (begun : Begun) (network : Network) (keys : List Key) (parts : ContextParts)
    : Type 0 where
  pub parts_are : parts ≡ parts_of (opened_at begun network keys).world
  pub outside : (opened_at begun network keys).is_open ≡ false
  -- and where none of them is a push, further keys go on from there with an empty inbox
  pub on : HaveNoPush keys → (others : List Key) → opened_at begun network (keys ++ others)
      ≡ then_step (opened_at begun network keys)
      (played_at (opened_at begun network keys).world network others)

-- the same over pages
abbrev pub EndsIn : Begun → Pages → List Key → ContextParts → Type 0
EndsIn begun pages keys parts = EndsAt begun (network_of pages) keys parts

-- ---- the command

-- what was dropped so far, in so many writes
pub record Dropped : Type 0 where
  pub taken : List ℕ
  pub writes : ℕ

abbrev pub nothing_dropped : Dropped
nothing_dropped = record { taken = []; writes = 0 }

-- a sink that drops what it took, and never fails
abbrev pub nowhere : Dropped → SinkSeen
nowhere dropped = record { taken = dropped.taken; writes = dropped.writes; faults = 0 }

-- the outside, where what is shown is dropped
abbrev pub unshown : Dropped → Outside → Outside
unshown dropped outside = record outside { sink = nowhere dropped }

-- a session that begins so is played over these pages, which have this network, and saved where its
-- keys end
pub record Images {P : Type 0} (Are : P → Type 0) (network : P → Network) (begun : Begun)
    (old new : Outside) (status : Status) : Type 0 where
  -- its keys are played as in browsing, but what they show is dropped; they come to this end
  pub dropped : Dropped
  pub end : Status
  pub plays : Browses Are (λ pages. opened_at begun (network pages)) (unshown nothing_dropped old)
      (unshown dropped new) end
  -- where that isn't Done the command ends so too, and nothing is written
  pub stops : end ≢ Done → (status ≡ end) × (new.sink ≡ old.sink)
  -- where it is, the context in which they end is saved: its parts are those of their world, over
  -- any bytes and pages that may be theirs
  pub parts : ContextParts
  pub ends_in : end ≡ Done → (bytes : List ℕ) → MayGive old.source new.source bytes → (pages : P)
      → Are pages → EndsAt begun (network pages) (keys_of bytes).keys parts
  pub saves : end ≡ Done → WritesImage (image_of parts begun.budget) old.sink new.sink status
  -- out of memory is no reason to refuse
  pub of_reason : (fault : PageFault) → status ≡ Refused fault → is_of_memory fault ≡ false
  -- and once they are written, these are all of that world
  pub whole : status ≡ Done → (bytes : List ℕ) → MayGive old.source new.source bytes → (pages : P)
      → Are pages → IsWhole parts (opened_at begun (network pages) (keys_of bytes).keys).world

-- the same over the pages that are seen
abbrev pub ImagesSeen : Begun → Outside → Outside → Status → Type 0
ImagesSeen begun old new status = Images (AreUnitPages new.pages) network_of begun old new status
