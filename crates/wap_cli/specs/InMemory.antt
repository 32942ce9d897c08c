-- Browsing over a store and a source in memory, which hold their contents and their bytes. This
-- project's own.
use Rattle.std.specs.Prelude.{◌≡◌, ℕ, List}
use Rattle.wap_base.specs.Contents.{Contents, names_of}
use Rattle.wap_base.specs.Texts.{AreDistinct}
use Rattle.wap_devices.specs.Stores.{Held}
use Rattle.wap_devices.specs.Sources.{Left, MayGive}
use Rattle.wap_site_laws.specs.pages.SourcePages.{ArePages}
use Rattle.wap_cli.specs.Devices.{Devices}
use Rattle.wap_cli.specs.Browsing.{PagesAndReaders, AreReaders, ArePagesAndReaders}

-- at first the store holds these contents, of which no name stands twice, and the source these
-- bytes
pub record HoldAll (contents : Contents) (bytes : List ℕ) (old : Devices) : Type 0 where
  pub held : old.store.known ≡ Held contents
  pub distinct : AreDistinct (names_of contents)
  pub left : old.source.coming ≡ Left bytes

-- the contents are these pages
abbrev pub AreHeld : Contents → PagesAndReaders → Type 0
AreHeld contents one = ArePages contents one.pages × AreReaders one

-- all that is said over any pages and bytes that there may be is said over exactly these
pub record AreBrowsed (contents : Contents) (bytes : List ℕ) (old new : Devices) : Type 0 where
  -- the store holds what it held: its pages are those of these contents, and no others
  pub held : new.store.known ≡ Held contents
  pub pages : (one : PagesAndReaders) → AreHeld contents one → ArePagesAndReaders new.store one
  pub no_others : (one : PagesAndReaders) → ArePagesAndReaders new.store one → AreHeld contents one
  -- the source may give these bytes, and no others; it holds those that weren't taken
  pub may : MayGive old.source new.source bytes
  pub left : new.source.coming ≡ Left may.rest
  pub only : (others : List ℕ) → MayGive old.source new.source others → others ≡ bytes
