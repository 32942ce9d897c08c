-- Pages that are ready to be shared by sessions. This project's own.
use Rattle.std.specs.Prelude.{All}
use Rattle.std.specs.Map.{keys_of}
use Rattle.wap_base.specs.Texts.{AreAscending}
use Rattle.wap_world.specs.site.Pages.{Pages, IsThere}

-- they stand in the order of the UTF-8 bytes of their names, each once, and each is there
pub record ArePrepared (pages : Pages) : Type 0 where
  pub ascending : AreAscending (keys_of pages)
  pub there : All (λ page. IsThere page.1) pages
