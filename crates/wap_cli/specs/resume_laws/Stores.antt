-- Two stores that differ by one page, as by an image that was written into the folder. This
-- project's own.
use Rattle.std.specs.Prelude.{◌≡◌, ◌≢◌, ℕ, List}
use Rattle.wap_base.specs.Contents.{Contents}
use Rattle.wap_world.specs.site.Pages.{page_of}
use Rattle.wap_pages.specs.Judged.{judged}

-- but for the page of this name the pages of both are judged to be the same
abbrev pub AgreeBut : List ℕ → Contents → Contents → Type 0
AgreeBut name one other =
    (page : List ℕ) → page ≢ name → page_of page (judged one) ≡ page_of page (judged other)
