-- The headline: what browsing over a store comes to, where its pages are those that its contents
-- are by the relations of bytes, and a source of a script means what its program means. This
-- project's own.
use Rattle.std.specs.Prelude.{◌≡◌, ℕ, Bool, false, List, Option, Result}
use Rattle.wap_base.specs.Contents.{Contents}
use Rattle.wap_devices.specs.Stores.{StoreSeen, Agrees}
use Rattle.wap_devices.specs.Sources.{MayGive}
use Rattle.wap_devices.specs.Transfer.{Appends}
use Rattle.wap_base.specs.declared.key.Key.{Key}
use Rattle.wap_keys.specs.Lines.{keys_of}
use Rattle.wap_world.specs.Sites.{Call}
use Rattle.wap_world.specs.Steps.{Step}
use Rattle.wap_world.specs.Sessions.{Begun}
use Rattle.wap_push.specs.declared.indication.Indication.{Indication}
use Rattle.wap_push.specs.declared.fault.PushFault.{PushFault}
use Rattle.wap_push.specs.Pushes.{ReadsPushes}
use Rattle.wap_world.specs.scripting.Sources.{AllPages, site_of}
use Rattle.wap_site_laws.specs.exchange.Denial.{is_let_in, DifferInScripts}
use Rattle.wap_site_laws.specs.programs.Programs.{Accepted, programs}
use Rattle.wap_site_laws.specs.pages.SourcePages.{ArePages}
use Rattle.wap_cli.specs.declared.status.Status.{Status}
use Rattle.wap_cli.specs.browse.Endings.{at_end}
use Rattle.wap_cli.specs.browse.Handling.{bytes_of}
use Rattle.wap_cli.specs.browse.Headline.{Browses}
use Rattle.wap_cli.specs.Calls.{ReadsCalls}
use Rattle.wap_cli.specs.Networks.{Network}
use Rattle.wap_cli.specs.resume.Saving.{opened_at}
use Rattle.wap_cli.specs.Devices.{Devices, uncached}

-- ---- pages, and what keys come to over them

-- what is browsed over a store: its pages, what fragments of URLs call, and what pushed bytes are
pub record PagesAndReaders : Type 0 where
  pub pages : AllPages Accepted
  pub call : List ℕ → Option Call
  pub push : List ℕ → Result Indication PushFault

-- fragments call what they spell, and pushed bytes are what they are read as
pub record AreReaders (one : PagesAndReaders) : Type 0 where
  pub calls : ReadsCalls one.call
  pub pushes : ReadsPushes one.push

-- contents that may be those of a store are these pages
abbrev pub ArePagesAndReaders : StoreSeen → PagesAndReaders → Type 0
ArePagesAndReaders store one =
    (contents : Contents) × Agrees store.known contents × ArePages contents one.pages
    × AreReaders one

-- the network with these pages: a source comes to what its program means, and a unit to what its
-- instructions mean
abbrev pub source_network : PagesAndReaders → Network
source_network one = record { site = site_of programs one.call one.pages; push = one.push }

-- what keys come to where a session with an inbox begins so: its URL is opened before they are
-- played
abbrev pub opened_over : Begun → PagesAndReaders → List Key → Step
opened_over begun one keys = opened_at begun (source_network one) keys

-- ---- scripts to which nobody was let in

-- what was written for these bytes of keys is what they come to over any other store, too, that
-- differs in scripts alone, where each access test of these was a denial
abbrev pub WritesOver : Begun → Devices → Devices → List ℕ → Type 0
WritesOver begun old new bytes =
    let keys = (keys_of bytes).keys in
    (one : PagesAndReaders) (contents others : Contents) (pages : AllPages Accepted)
    → Agrees new.store.known contents → AreReaders one
    → (among : List ℕ → Bool) → DifferInScripts among contents others one.pages pages
    → is_let_in among (opened_over begun one keys).tests ≡ false
    → Appends old.sink.taken new.sink.taken
    (bytes_of (opened_over begun (record one { pages = pages }) keys))

-- ---- the headline

-- browsing that begins so, with room for so many pages in the cache: the store, the keys and what
-- was written before and after, and the status
pub record BrowsesOver (begun : Begun) (capacity : ℕ) (old new : Devices) (status : Status)
    : Type 0 where
  -- what was read and written, what was asked for, and how it ended, over all pages that the
  -- contents may be, with which all agrees that the store told
  pub browses : Browses (ArePagesAndReaders new.store) (opened_over begun) (uncached capacity old)
      (uncached capacity new) status
  -- where all keys were played, scripts to which nobody was let in might have been any others
  pub denied : (is_open : Bool) → status ≡ at_end is_open
      → (bytes : List ℕ) → MayGive old.source new.source bytes → WritesOver begun old new bytes
