-- Judged pages over which no script is run, so that a script is a page that is refused: the shelf
-- that they make, and its site. This project's own.
use Rattle.std.specs.Prelude.{None}
use Rattle.wap_world.specs.site.Pages.{Pages, page_of}
use Rattle.wap_world.specs.declared.site.page.Page.{Page}
use Rattle.wap_world.specs.declared.site.page.Page.TheVariants as page
use Rattle.wap_world.specs.Shelves.{Shelf, Shelved, deck_page, text_page, refused_page, no_page}
use Rattle.wap_world.specs.Sites.{done, Site}

-- a judged page, as it stands on a shelf
abbrev pub shelved : Page → Shelved
shelved (page.Deck deck) = deck_page deck
shelved (page.Words text) = text_page text
shelved page.Missing = no_page
shelved other = refused_page

-- each name has its page, and any other name none
abbrev pub shelf_of : Pages → Shelf
shelf_of pages name = shelved (page_of name pages)

-- the site of these pages: it has no script, so that none is started
abbrev pub decks_site : Pages → Site
decks_site pages = record {
  shelf = shelf_of pages;
  external = λ name function. None;
  run = λ name base referer index arguments turns step.
      record { end = done; turns = turns; step = step };
  call = λ fragment. None;
}
