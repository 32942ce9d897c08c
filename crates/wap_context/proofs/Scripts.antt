-- A page that is a script is entered by the rules as its unit says.
use Rattle.std.proofs.Common.{◌≡◌, ℕ, List, Option, sym, ap, subst}
use Rattle.wap_url.specs.declared.url.Url.{Url}
use Rattle.wap_url.specs.Printing.{name_for}
use Rattle.wap_unit.specs.declared.unit.Unit.{Unit}
use Rattle.wap_base.specs.declared.key.Key.{Key}
use Rattle.wap_cardrules.specs.Values.{Pairs}
use Rattle.wap_world.specs.declared.site.page.Page.TheVariants as page
use Rattle.wap_world.specs.site.Pages.{Pages as JudgedPages, page_of}
use Rattle.wap_world.specs.Sites.{Script, script_of}
use Rattle.wap_world.specs.World.{World, Place}
use Rattle.wap_world.specs.Tasks.{answered, try_script}
use Rattle.wap_world.specs.scripting.Units.{entrance_in}
use Rattle.wap_world.specs.scripting.UnitSites.{Pages, shelf_of, run_unit, unit_script, unit_pages}
use Rattle.wap_world.specs.scripting.UnitSites.{units_site}
use Rattle.wap_context.specs.host.Finding.{shelved_page}
use Rattle.wap_context.specs.Sites.{site_of}
use Rattle.wap_context.specs.inside.Starting.{call_at}
use Rattle.wap_context.proofs.HostLemmas.Shelves.{unit_is, externals_are}

module _ (judged : JudgedPages) (unit : Unit) (name : List ℕ)
    (is : page_of name judged ≡ page.Script unit) where
  abbrev pages : Pages
  pages = unit_pages judged

  -- the script of the name is that of the unit
  unit_there : script_of (site_of pages) name ≡ unit_script pages unit
  unfolding units_site
  unit_there = λ i. record {
    external = λ function. externals_are name function judged unit is i;
    run = run_unit pages (unit_is name judged unit is i);
  }

  -- so it is entered as that
  pub script_is : (place : Option Place) (keys : List Key) (sets : Pairs) (caller : Option Url)
      (url : Url) → name ≡ name_for url → (w : World)
      → try_script (shelf_of pages) (unit_script pages unit) place keys sets caller url w
      (call_at url) (entrance_in unit)
      ≡ answered (site_of pages) place keys sets caller url w (shelved_page (page.Script unit))
  unfolding units_site
  script_is place keys sets caller url named w =
      ap (λ (script : Script). try_script (shelf_of pages) script place keys sets caller url w
      (call_at url) (entrance_in unit))
      (sym (subst (λ (n : List ℕ). script_of (site_of pages) n ≡ unit_script pages unit) named
      unit_there))
