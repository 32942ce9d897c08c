-- Pages that are judged and lists that are played, each by itself. This project's own.
use Rattle.std.specs.Prelude.{◌≡◌, ℕ, Bool, true, false, List, map, filter}
use Rattle.wap_base.specs.Contents.{Contents, page_named}
use Rattle.wap_base.specs.declared.key.Key.{Key}
use Rattle.wap_devices.specs.Stores.{Known, Agrees}
use Rattle.wap_world.specs.site.Pages.{Pages}
use Rattle.wap_world.specs.declared.site.page.Page.{Page}
use Rattle.wap_world.specs.declared.site.page.Page.TheVariants as page
use Rattle.wap_pages.specs.Judged.{page_where}
use Rattle.wap_cli.specs.Answers.{page_of}
use Rattle.wap_cli.specs.prepare.Fetching.{Job}
use Rattle.wap_world.specs.Sessions.{Begun}
use Rattle.wap_world.specs.scripting.UnitSites.{unit_pages}
use Rattle.wap_cli.specs.Networks.{network_of}
use Rattle.wap_cli.specs.replay.Texts.{list_text, replayed, network_of_store}

-- ---- pages

-- the page of a name, as a store answered it, is judged so
pub record IsJudged (job : Job) (named : List ℕ × Page) : Type 0 where
  pub name : named.0 ≡ job.0
  pub page : named.1 ≡ page_where job.0 (page_of job.1)

abbrev pub is_there : Page → Bool
is_there page.Missing = false
is_there _ = true

-- those of the pages that are there
abbrev pub present : Pages → Pages
present pages = filter (λ page. is_there page.1) pages

-- a name of contents, with its page as it is judged
abbrev pub judged_name : Contents → List ℕ → List ℕ × Page
judged_name contents name = (name, page_where name (page_named name contents))

-- the pages of these names that are there
abbrev pub pages_named : Contents → List (List ℕ) → Pages
pages_named contents names = present (map (judged_name contents) names)

-- ---- lists

-- what lists are played over, and how each session is begun
pub record Stage : Type 0 where
  pub pages : Pages
  pub begun : Begun

-- the text of a numbered list
abbrev pub text_on : Stage → ℕ × List Key → List ℕ
text_on stage one = list_text (network_of (unit_pages stage.pages)) stage.begun one

-- what there is to be written of lists, by whatever the pages of the store may be
abbrev pub TellsOf : Begun → List (List Key) → Known → (List ℕ → Type 0) → Type 0
TellsOf begun lists known Wrote =
    (pages : Contents) → Agrees known pages → Wrote (replayed (network_of_store pages) begun lists)
