-- What keys come to over pages. This project's own.
use Rattle.std.specs.Prelude.{◌≡◌, ◌≢◌, ℕ, List}
use Rattle.std.specs.List.{AllByRecursion}
use Rattle.wap_base.specs.declared.key.Key.{Key}
use Rattle.wap_base.specs.declared.key.Key.TheVariants.{Push}
use Rattle.wap_world.specs.site.Pages.{Pages as JudgedPages}
use Rattle.wap_world.specs.site.Asking.{Seen, MayBe}
use Rattle.wap_world.specs.Steps.{Step}
use Rattle.wap_world.specs.Sessions.{Begun, session}
use Rattle.wap_world.specs.scripting.UnitSites.{Pages, unit_pages}
use Rattle.wap_push.specs.Pushes.{push_at}
use Rattle.wap_context.specs.Sites.{site_of}

-- what each list of keys comes to over pages whose scripts are units
abbrev pub Play : Type 0
Play = Pages → List Key → Step

-- these may be the pages that are seen
abbrev pub AreUnitPages : Seen → Pages → Type 0
AreUnitPages seen pages =
    (judged : JudgedPages) × MayBe seen judged × (pages ≡ unit_pages judged)

-- where a session with an inbox begins so: its URL is opened before they are played
abbrev pub opened : Begun → Play
opened begun pages keys = (session push_at (site_of pages) begun keys).step

-- a key is no push
abbrev pub IsNoPush : Key → Type 0
IsNoPush one = (bytes : List ℕ) → one ≢ Push bytes

-- none of these keys is one
abbrev pub HaveNoPush : List Key → Type 0
HaveNoPush keys = AllByRecursion IsNoPush keys
