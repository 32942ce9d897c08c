-- Sites of pages among which each name has the same page, in whatever order they stand.
use Rattle.std.proofs.Common.{◌≡◌, ℕ, List, Option, refl, sym, ap, ◌∙◌}
use mathlib.Core.Path.{fun_ext}
use Rattle.std.specs.Prelude.{unwrap_or, option_and_then}
use Rattle.wap_url.specs.declared.url.Url.{Url}
use Rattle.wap_value.specs.declared.value.Value.{Value}
use Rattle.wap_unit.specs.declared.unit.Unit.{Unit}
use Rattle.wap_execution.specs.Frames.{Function, code_at}
use Rattle.wap_execution.specs.Outcomes.{Hosting}
use Rattle.wap_execution.specs.Running.{finished}
use Rattle.wap_execution.specs.laws.Settings.{uncounted}
use Rattle.wap_execution.specs.laws.Keyed.{answered_in}
use Rattle.wap_world.specs.Shelves.{Shelf}
use Rattle.wap_world.specs.World.{place_now}
use Rattle.wap_world.specs.Steps.{Step}
use Rattle.wap_world.specs.Sites.{External, Ran, Site}
use Rattle.wap_world.specs.scripting.Dialogs.{by_keys}
use Rattle.wap_world.specs.scripting.Hosting.{hosting}
use Rattle.wap_world.specs.scripting.ScriptPages.{PageOf, page_under, script_in, shelved}
use Rattle.wap_world.specs.scripting.UnitSites.{Pages, units, shelf_of, unit_under, externals_of}
use Rattle.wap_world.specs.scripting.UnitSites.{ran_of, started_at, units_site}
use Rattle.wap_context.specs.Sites.{fragment_call, site_of}

-- what a site knows of its pages: its shelf, external functions, and the unit under each name
module _ (shelf : Shelf) (externals : List ℕ → List ℕ → Option External)
    (unit : List ℕ → Unit) where
  abbrev keyed : Hosting Step
  keyed =
      let host = hosting shelf (place_now shelf) externals unit in record {
        external = host.external;
        library = λ step base referer number index arguments.
            let gave = host.library step base referer number index arguments in
            answered_in (by_keys shelf) gave.0 gave.1;
      }

  abbrev run : List ℕ → Url → Option Url → ℕ → List Value → ℕ → Step → Ran
  run name base referer index arguments turns step =
      let function : Function = record {
        unit = unit name;
        base = base;
        referer = referer;
        index = index;
      } in
      ran_of (finished (uncounted step.world.limits keyed)
      (started_at function arguments (code_at function)) turns step)

  -- and it is made of these
  abbrev made : Site
  made = record { shelf = shelf; external = externals; run = run; call = fragment_call }

made_of : (pages : Pages)
    → site_of pages ≡ made (shelf_of pages) (externals_of pages) (unit_under pages)
unfolding units_site
made_of pages = refl

module _ (a b : Pages) (same : (name : List ℕ) → page_under name a ≡ page_under name b) where
  same_shelf : shelf_of a ≡ shelf_of b
  same_shelf = fun_ext (λ name. ap (shelved units) (same name))

  same_externals : externals_of a ≡ externals_of b
  same_externals =
      fun_ext (λ name. fun_ext (λ function.
      ap (λ (page : Option (PageOf Unit)).
      option_and_then (λ one. units.external one function) (script_in page)) (same name)))

  same_units : unit_under a ≡ unit_under b
  same_units =
      fun_ext (λ name.
      ap (λ (page : Option (PageOf Unit)). unwrap_or (script_in page) units.empty) (same name))

  pub same_site : site_of a ≡ site_of b
  same_site =
      made_of a
      ∙ ap (λ (shelf : Shelf). made shelf (externals_of a) (unit_under a)) same_shelf
      ∙ ap (λ (externals : List ℕ → List ℕ → Option External).
      made (shelf_of b) externals (unit_under a)) same_externals
      ∙ ap (λ (unit : List ℕ → Unit). made (shelf_of b) (externals_of b) unit) same_units
      ∙ sym (made_of b)
