-- Judged pages that are accepted. This project's own.
use Rattle.std.specs.Prelude.{ℕ, Bool, true, false, List, filter}
use Rattle.wap_world.specs.site.Pages.{Pages, page_of}
use Rattle.wap_world.specs.declared.site.page.Page.{Page}
use Rattle.wap_world.specs.declared.site.page.Page.TheVariants as page

abbrev pub is_accepted : Page → Bool
is_accepted page.Refused = false
is_accepted page.Missing = false
is_accepted _ = true

-- those of these names whose pages are accepted
abbrev pub accepted_in : Pages → List (List ℕ) → List (List ℕ)
accepted_in pages names = filter (λ name. is_accepted (page_of name pages)) names
