-- Where a page of a site is missing.
use Rattle.std.proofs.Common.{◌≡◌, ◌↔◌, ℕ, List, Option, Some, None, refl, ap}
use Rattle.std.specs.Prelude.{unwrap_or, IfSome}
use Rattle.std.proofs.lemmas.Map.Entries.{All-lookup}
use Rattle.wap_base.specs.Texts.{is_same_text}
use Rattle.wap_world.specs.site.Pages.{Pages, page_under, page_of, IsThere, AreSitePages}
use Rattle.wap_world.specs.declared.site.page.Page.{Page}
use Rattle.wap_world.specs.declared.site.page.Page.TheVariants.{Missing}

none_under : (found : Option Page) → IfSome found IsThere → unwrap_or found Missing ≡ Missing
    → found ≡ None
none_under (Some page) there is = absurd (there is)
none_under None there is = refl

pub missing_without_a_page : (name : List ℕ) (pages : Pages) → AreSitePages pages
    → (page_of name pages ≡ Missing) ↔ (page_under name pages ≡ None)
missing_without_a_page name pages are = (
  none_under (page_under name pages)
      (All-lookup IsThere (λ other. is_same_text other name) pages are.there),
  ap (λ (found : Option Page). unwrap_or found Missing),
)
