-- Whatever a store holds, it has pages.
use Rattle.std.proofs.Common.{◌≡◌, ℕ, List, [], ◌∷◌, refl, inl, inr, All}
use Rattle.std.proofs.lemmas.List.Elements.{recursion_from_All}
use Rattle.std.specs.List.{AllByRecursion}
use Rattle.wap_base.specs.Contents.{Contents}
use Rattle.wap_unit.specs.declared.unit.Unit.{Unit}
use Rattle.wap_world.specs.declared.site.page.Page.{Page}
use Rattle.wap_world.specs.declared.site.page.Page.TheVariants as page
use Rattle.wap_world.specs.scripting.ScriptPages.{PageOf, deck, script, words, refused}
use Rattle.wap_world.specs.scripting.Sources.{Script, of_unit, AllPages}
use Rattle.wap_site_laws.specs.programs.Programs.{Accepted}
use Rattle.wap_pages.specs.Judged.{page_of_bytes, AreBytes, IsScriptPage}
use Rattle.wap_pages.proofs.Judgements.{page_deck, page_script, page_text_is, neither_page}
use Rattle.wap_pages.proofs.Judgements.{page_there}
use Rattle.wap_site_laws.specs.pages.SourcePages.{source_of, IsPage, ArePages, IsStored}

module _ (name bytes : List ℕ) where
  abbrev Made : Type 0
  Made = (one : PageOf (Script Accepted)) × IsPage name bytes one

  -- a script is a unit or a source
  of_script : (unit : Unit) → IsScriptPage name bytes unit → Made
  of_script unit (inl is) = (script (of_unit unit), IsPage.a_unit unit is)
  of_script unit (inr (p, is, same)) =
      (script (source_of bytes p is.accepted), IsPage.a_source p is)

  -- the page, by what it is judged
  made_by : AreBytes bytes → (one : Page) → page_of_bytes name bytes ≡ one → Made
  made_by are (page.Deck one) is = (deck one, IsPage.a_deck one (page_deck name bytes one is))
  made_by are (page.Script unit) is = of_script unit (page_script name bytes are unit is)
  made_by are (page.Words text) is =
      (words text, IsPage.a_text text (page_text_is name bytes text is))
  made_by are page.Refused is =
      let none = (neither_page name bytes are).0 is in (
        refused,
        IsPage.none (record {
          are = are;
          no_deck = none.0;
          no_unit = none.1;
          no_source = none.2;
          no_text = none.3;
        }),
      )
  made_by are page.Missing is = absurd (page_there name bytes is)

-- the pages, entry by entry
made : (contents : Contents) → AllByRecursion IsStored contents
    → (pages : AllPages Accepted) × ArePages contents pages
made [] are = ([], tt)
made (entry ∷ contents) are =
    let here = made_by entry.0 entry.1 are.0.0 (page_of_bytes entry.0 entry.1) refl in
    let rest = made contents are.1 in
    ((entry.0, here.0) ∷ rest.0, ((refl, here.1), rest.1))

pub store_has_pages : (contents : Contents) → All IsStored contents
    → (pages : AllPages Accepted) × ArePages contents pages
store_has_pages contents are = made contents (recursion_from_All IsStored contents are)
