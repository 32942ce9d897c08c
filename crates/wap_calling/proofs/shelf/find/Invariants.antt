use Rattle.std.proofs.Common.{◌≡◌, drop}
use Rattle.wap_world.specs.site.Pages.{page_under}
use Rattle.wap_calling.proofs.shelf.find.Given as goal

-- the pages passed have other names
abbrev pub invariant-loop-page_name : goal.invariant-loop-page_name
invariant-loop-page_name l =
    page_under l.name (drop l.page_name-index l.pages) ≡ page_under l.name l.pages
