-- The site of decks and units: a script comes to what its instructions mean (WAP-193, section 10),
-- and keys that are left answer its dialogs.
use Rattle.std.specs.Prelude.{ℕ, ◌==◌, if◌then◌else◌, List, [], ◌∷◌, length, map}
use Rattle.std.specs.Prelude.{Option, Some, None}
use Rattle.wap_url.specs.declared.url.Url.{Url}
use Rattle.wap_value.specs.declared.value.Value.{Value}
use Rattle.wap_unit.specs.declared.unit.Unit.{Unit}
use Rattle.wap_unit.specs.declared.unit.Code.{Code}
use Rattle.wap_execution.specs.Frames.{Function, Frame, code_at, begun}
use Rattle.wap_execution.specs.Outcomes.{Outcome, value, exit, fatal, waits, stuck, Ended, Hosting}
use Rattle.wap_execution.specs.Running.{finished}
use Rattle.wap_execution.specs.laws.Settings.{uncounted}
use Rattle.wap_world.specs.site.Pages.{Pages as JudgedPages}
use Rattle.wap_world.specs.declared.site.page.Page.{Page}
use Rattle.wap_world.specs.declared.site.page.Page.TheVariants as page
use Rattle.wap_world.specs.Shelves.{Shelf}
use Rattle.wap_world.specs.Steps.{Step}
use Rattle.wap_world.specs.Sites.{External, Call, End, done, failed, unanswered, Ran, Site, Script}
use Rattle.wap_world.specs.scripting.Units.{entrance_in, external_in}
use Rattle.wap_world.specs.scripting.ScriptPages.{PageOf, deck, script, words, refused, PagesOf}
use Rattle.wap_world.specs.scripting.ScriptPages.{Scripts, shelf_by, script_under, externals_by}
use Rattle.wap_world.specs.scripting.ScriptPages.{host_by, keyed_by}

-- ---- pages with units

-- pages whose scripts are units
abbrev pub Pages : Type 0
Pages = PagesOf Unit

-- a unit without functions
abbrev pub no_unit : Unit
no_unit = record {
  version = 0;
  charset = 0;
  constants = [];
  pragmas = [];
  names = [];
  functions = [];
}

-- what a browser asks of units
abbrev pub units : Scripts Unit
units = record { entrance = entrance_in; external = external_in; empty = no_unit }

-- what stands under each name
abbrev pub shelf_of : Pages → Shelf
shelf_of pages = shelf_by units pages

-- the unit under a name
abbrev pub unit_under : Pages → List ℕ → Unit
unit_under pages = script_under units pages

-- the external function of a page's name and its own
abbrev pub externals_of : Pages → List ℕ → List ℕ → Option External
externals_of pages = externals_by units pages

-- what a browser over these pages does for units
abbrev pub host_of : Pages → Hosting Step
host_of pages = host_by units pages

-- the same, where dialogs are answered by the keys that are left
abbrev pub keyed_host : Pages → Hosting Step
keyed_host pages = keyed_by units pages

-- ---- runs

-- how a script ended, by the outcome of its function
abbrev pub end_of : Outcome → End
end_of (value v) = done
end_of (exit v) = done
end_of (fatal why) = failed why
end_of (waits dialog frames) = unanswered
-- no unit that is accepted comes to this
end_of stuck = done

-- the same of a run
abbrev pub ran_of : Ended Step → Ran
ran_of ran = record { end = end_of ran.outcome; turns = ran.turns; step = ran.state }

-- the function at its beginning, where there are as many arguments as it takes
abbrev pub started_at : Function → List Value → Option Code → List Frame
started_at function arguments None = []
started_at function arguments (Some code) =
    if length arguments == code.args then begun function code arguments ∷ [] else []

-- what a function of a unit comes to
abbrev pub run_unit : Pages → Unit → Url → Option Url → ℕ → List Value → ℕ → Step → Ran
run_unit pages unit base referer index arguments turns step =
    let function : Function =
    record { unit = unit; base = base; referer = referer; index = index } in
    ran_of (finished (uncounted step.world.limits (keyed_host pages))
    (started_at function arguments (code_at function)) turns step)

-- a unit, as those see it who call it
abbrev pub unit_script : Pages → Unit → Script
unit_script pages unit = record { external = external_in unit; run = run_unit pages unit }

-- ---- judged pages

-- a judged page
abbrev pub unit_page : Page → PageOf Unit
unit_page (page.Deck one) = deck one
unit_page (page.Script one) = script one
unit_page (page.Words text) = words text
unit_page page.Refused = refused
-- no site has such a page under a name
unit_page page.Missing = refused

-- the pages of a site, as they are judged
abbrev pub unit_pages : JudgedPages → Pages
unit_pages judged = map (λ one. (one.0, unit_page one.1)) judged

-- ---- the site

-- the site of these pages; `call` reads what a fragment calls
unfoldable pub units_site : (List ℕ → Option Call) → Pages → Site
units_site call pages = record {
  shelf = shelf_of pages;
  external = externals_of pages;
  run = λ name. run_unit pages (unit_under pages name);
  call = call;
}
