-- The site of judged pages, whose scripts are units and are started by the calls in fragments of
-- URLs (WAP-193, section 8.3). This project's own.
use Rattle.std.specs.Prelude.{ℕ, List, Option}
use Rattle.std.specs.Option.{option_map}
use Rattle.wap_parse.specs.invocation.Calculation.{call_of}
use Rattle.wap_world.specs.site.Pages.{Pages as JudgedPages}
use Rattle.wap_world.specs.site.Asking.{Seen, MayBe}
use Rattle.wap_world.specs.Sites.{Call, Site}
use Rattle.wap_world.specs.scripting.UnitSites.{Pages, shelf_of, unit_pages, units_site}
use Rattle.wap_context.specs.Browsers.{Browser, IsOver}

-- what a fragment calls
abbrev pub fragment_call : List ℕ → Option Call
fragment_call fragment = option_map
    (λ one. record { function = one.function; arguments = one.arguments }) (call_of fragment)

-- the site of these pages
abbrev pub site_of : Pages → Site
site_of pages = units_site fragment_call pages

-- a fact of any judged pages that these may be, where they have the deck at hand
abbrev pub IfOver : Seen → Browser → (Pages → Type 0) → Type 0
IfOver seen browser Fact = (judged : JudgedPages) → MayBe seen judged
    → IsOver (shelf_of (unit_pages judged)) browser → Fact (unit_pages judged)
