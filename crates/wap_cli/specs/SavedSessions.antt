-- The headlines of saved sessions: what saving one over a store comes to, and going on with one,
-- over any pages that may be the store's by the relations of bytes, where a source of a script
-- means what its program means. This project's own.
use Rattle.std.specs.Prelude.{ℕ, List}
use Rattle.wap_world.specs.Sessions.{Begun}
use Rattle.wap_cli.specs.declared.status.Status.{Status}
use Rattle.wap_cli.specs.resume.Saving.{Images}
use Rattle.wap_cli.specs.resume.Resuming.{Resumes}
use Rattle.wap_cli.specs.Browsing.{ArePagesAndReaders, source_network}
use Rattle.wap_cli.specs.Devices.{Devices, uncached}

-- a session that begins so is played, with room for so many pages in the cache, and saved where its
-- keys end: the store, the keys and what was written before and after, and the status
abbrev pub ImagesOver : Begun → ℕ → Devices → Devices → Status → Type 0
ImagesOver begun capacity old new status = Images (ArePagesAndReaders new.store) source_network
    begun
    (uncached capacity old) (uncached capacity new) status

-- a session goes on with what was saved under a name, with room for so many pages in the cache: the
-- same before and after, and the status
abbrev pub ResumesOver : List ℕ → ℕ → Devices → Devices → Status → Type 0
ResumesOver name capacity old new status = Resumes (ArePagesAndReaders new.store) source_network
    name
    (uncached capacity old) (uncached capacity new) status
