-- The pages of a site as a browser judges them. This project's own.
use Rattle.std.specs.Prelude.{◌≢◌, ℕ, unwrap_or, All, List, Option}
use Rattle.std.specs.Map.{keys_of, lookup}
use Rattle.wap_base.specs.Texts.{is_same_text, AreDistinct}
use Rattle.wap_world.specs.declared.site.page.Page.{Page}
use Rattle.wap_world.specs.declared.site.page.Page.TheVariants.{Missing}

-- names of the site, each with its page
abbrev pub Pages : Type 0
Pages = List (List ℕ × Page)

abbrev pub page_under : List ℕ → Pages → Option Page
page_under name pages = lookup (λ other. is_same_text other name) pages

-- the page of a name; without one it is missing
abbrev pub page_of : List ℕ → Pages → Page
page_of name pages = unwrap_or (page_under name pages) Missing

abbrev pub IsThere : Page → Type 0
IsThere page = page ≢ Missing

-- pages that a site may have: no name stands twice, and each page is there
pub record AreSitePages (pages : Pages) : Type 0 where
  pub distinct : AreDistinct (keys_of pages)
  pub there : All (λ page. IsThere page.1) pages
