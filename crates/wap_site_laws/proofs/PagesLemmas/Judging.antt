-- The judged pages are a store's pages with units in place of sources.
use Rattle.std.proofs.Common.{◌≡◌, ℕ, List, [], ◌∷◌, Option, refl, sym, ap, ap₂, ◌∙◌}
use Rattle.wap_base.specs.Contents.{Contents}
use Rattle.wap_unit.specs.declared.unit.Unit.{Unit}
use Rattle.wap_world.specs.Sites.{Call}
use Rattle.wap_world.specs.scripting.ScriptPages.{PageOf}
use Rattle.wap_world.specs.scripting.UnitSites.{Pages, unit_page, unit_pages, units_site}
use Rattle.wap_world.specs.scripting.Sources.{Script, AllPages, site_of, compiled_page}
use Rattle.wap_world.specs.scripting.Sources.{compiled_pages}
use Rattle.wap_site_laws.proofs.ExchangeLemmas.Replacing.{replaces}
use Rattle.wap_site_laws.specs.programs.Programs.{Accepted, programs, unit_of}
use Rattle.wap_site_laws.proofs.ProgramsLemmas.Agreed.{unit_agrees}
use Rattle.wap_pages.specs.Judged.{page_of_bytes, judged}
use Rattle.wap_pages.proofs.Judgements.{deck_page, unit_page as unit_judged, source_page}
use Rattle.wap_pages.proofs.Judgements.{text_page, neither_page}
use Rattle.wap_site_laws.specs.pages.SourcePages.{IsPage, ArePages}

-- a judged page is the page, with a unit in place of its source
page_judged : (name bytes : List ℕ) (one : PageOf (Script Accepted)) → IsPage name bytes one
    → unit_page (page_of_bytes name bytes) ≡ compiled_page programs unit_of one
page_judged name bytes _ (IsPage.a_deck one is) = ap unit_page (deck_page name bytes one is)
page_judged name bytes _ (IsPage.a_unit one is) = ap unit_page (unit_judged name bytes one is)
page_judged name bytes _ (IsPage.a_source p is) = ap unit_page (source_page name bytes p is)
page_judged name bytes _ (IsPage.a_text text is) = ap unit_page (text_page name bytes text is)
page_judged name bytes _ (IsPage.none is) =
    ap unit_page ((neither_page name bytes is.are).1
    (is.no_deck, is.no_unit, is.no_source, is.no_text))

-- so are all of them
pub pages_judged : (contents : Contents) (pages : AllPages Accepted) → ArePages contents pages
    → unit_pages (judged contents) ≡ compiled_pages programs unit_of pages
pages_judged [] [] are = refl
pages_judged [] (one ∷ pages) are = absurd are
pages_judged (entry ∷ contents) [] are = absurd are
pages_judged (entry ∷ contents) (one ∷ pages) are =
    ap₂ (λ (here : List ℕ × PageOf Unit) (rest : Pages). here ∷ rest)
    (ap₂ (λ (name : List ℕ) (page : PageOf Unit). (name, page)) (sym are.0.0)
    (page_judged entry.0 entry.1 one.1 are.0.1))
    (pages_judged contents pages are.1)

-- and so is their site
pub site_judged : (call : List ℕ → Option Call) (contents : Contents) (pages : AllPages Accepted)
    → ArePages contents pages
    → site_of programs call pages ≡ units_site call (unit_pages (judged contents))
site_judged call contents pages are =
    replaces programs unit_of unit_agrees pages call
    ∙ ap (λ (judged : Pages). units_site call judged) (sym (pages_judged contents pages are))
