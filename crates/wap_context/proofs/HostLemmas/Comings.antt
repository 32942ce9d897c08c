-- What a page gives to a script that calls its functions, or loads it.
use Rattle.std.proofs.Common.{◌≡◌, ℕ, List, [], Option, Some, Ok, refl, sym, ap, ap₂, subst}
use Rattle.std.specs.Prelude.{if◌then◌else◌, nat_eq, codes}
use Rattle.std.specs.List.{ends_with}
use Rattle.wap_url.specs.declared.url.Url.{Url}
use Rattle.wap_url.specs.Printing.{name_for, without_fragment}
use Rattle.wap_unit.specs.declared.unit.Unit.{Unit}
use Rattle.wap_execution.specs.declared.library.HostOut.TheVariants as out
use Rattle.wap_world.specs.declared.site.page.Page.{Page}
use Rattle.wap_world.specs.declared.site.page.Page.TheVariants as judge
use Rattle.wap_world.specs.site.Pages.{Pages as JudgedPages, page_of, AreSitePages}
use Rattle.wap_world.specs.Shelves.{Shelved}
use Rattle.wap_world.specs.Sites.{External}
use Rattle.wap_world.specs.World.{World}
use Rattle.wap_world.specs.Steps.{Step, still, quiet}
use Rattle.wap_world.specs.Access.{may_enter}
use Rattle.wap_world.specs.Requests.{plain_get}
use Rattle.wap_world.specs.scripting.Additions.{with_request}
use Rattle.wap_world.specs.scripting.Units.{entrance_in}
use Rattle.wap_world.specs.scripting.Loading.{text_in, loaded, not_acceptable}
use Rattle.wap_world.specs.scripting.Hosting.{callable, callable_if, found_under, found_at, kept}
use Rattle.wap_world.specs.scripting.Hosting.{within}
use Rattle.wap_world.specs.scripting.UnitSites.{Pages, shelf_of, unit_under, externals_of}
use Rattle.wap_world.specs.scripting.UnitSites.{unit_pages}
use Rattle.wap_context.specs.host.Finding.{shelved_page, found_on, loaded_text}
use Rattle.wap_context.proofs.HostLemmas.Shelves.{shelved_is, unit_is, externals_are}
use Rattle.wap_context.proofs.HostLemmas.Serving.{Comes}

-- ---- functions

module _ (judged : JudgedPages) (caller url : Url) (function : List ℕ) (count working : ℕ)
    (world : World) where
  abbrev pages : Pages
  pages = unit_pages judged

  abbrev name : List ℕ
  name = name_for url

  abbrev asked : Step
  asked = with_request (plain_get url) (quiet [] (still world))

  found_by : (page : Page) → page_of name judged ≡ page
      → Comes url world (found_on caller url page function count world.limits.depth working)
      (found_under (shelf_of pages) (externals_of pages) (unit_under pages) caller url function
      count working asked (shelved_page page))
  found_by (judge.Deck deck) is =
      record { answers = refl; world_is = refl; lines = refl; asked = refl }
  found_by (judge.Script unit) is = record {
    answers = ap₂ (λ (u : Unit) (e : Option External).
        callable_if (may_enter url (entrance_in unit) (Some caller))
        (callable u (without_fragment url) count world.limits.depth working e))
        (unit_is name judged unit is) (externals_are name function judged unit is);
    world_is = refl;
    lines = refl;
    asked = refl;
  }
  found_by (judge.Words text) is =
      record { answers = refl; world_is = refl; lines = refl; asked = refl }
  found_by judge.Refused is =
      record { answers = refl; world_is = refl; lines = refl; asked = refl }
  found_by judge.Missing is =
      record { answers = refl; world_is = refl; lines = refl; asked = refl }

  pub found_comes : AreSitePages judged
      → Comes url world
      (found_on caller url (page_of name judged) function count world.limits.depth working)
      (found_at (shelf_of pages) (externals_of pages) (unit_under pages) caller function count
      working (quiet [] (still world)) (Ok url))
  found_comes are =
      subst (λ (s : Shelved). Comes url world
      (found_on caller url (page_of name judged) function count world.limits.depth working)
      (found_under (shelf_of pages) (externals_of pages) (unit_under pages) caller url function
      count working asked s)) (sym (shelved_is name judged are))
      (found_by (page_of name judged) refl)

-- ---- texts

pub loaded_comes : (judged : JudgedPages) (url : Url) (world : World) → AreSitePages judged
    → Comes url world (loaded_text world.limits.string url (page_of (name_for url) judged))
    (within (loaded (shelf_of (unit_pages judged)) url (quiet [] (still world))))
loaded_comes judged url world are = record {
  answers = ap (λ (s : Shelved).
      kept world.limits.string (out.Value (if ends_with nat_eq (name_for url) (codes ".txt")
      then text_in s else not_acceptable))) (shelved_is (name_for url) judged are);
  world_is = refl;
  lines = refl;
  asked = refl;
}
