-- What a session over a made folder came to. This project's own.
use Rattle.std.specs.Prelude.{◌≡◌, ℕ, List, [], ◌∷◌, ◌++◌, length, drop, codes, decimal}
use Rattle.wap_base.specs.Contents.{Contents, names_of}
use Rattle.wap_base.specs.Texts.{AreDistinct}
use Rattle.wap_base.specs.declared.key.Key.{Key}
use Rattle.wap_base.specs.declared.key.Key.TheVariants.{Vars}
use Rattle.wap_devices.specs.Stores.{Held}
use Rattle.wap_make.specs.Folders.{folder}
use Rattle.wap_push.specs.Pushes.{push_at}
use Rattle.wap_pages.specs.Judged.{judged}
use Rattle.wap_world.specs.site.Pages.{Pages}
use Rattle.wap_world.specs.site.Asking.{Seen}
use Rattle.wap_world.specs.Sites.{Site}
use Rattle.wap_world.specs.Sessions.{shown_by, world_of, unpushed, played}
use Rattle.wap_world.specs.scripting.UnitSites.{unit_pages}
use Rattle.wap_context.specs.Sites.{site_of}
use Rattle.wap_cli.specs.declared.made.playing.Played.{Played}
use Rattle.wap_cli.specs.declared.made.making.Tour.{Tour}
use Rattle.wap_cli.specs.made.Making.{made_begun, made_lines, made_variables}
use Rattle.wap_cli.specs.Networks.{over}
use Rattle.wap_cli.specs.made.Making.{accepted_over, value_in, made_line}

-- the pages of the folder, as a browser judges them
abbrev pub made_pages : ℕ → Pages
made_pages n = judged (folder n)

-- and their site
abbrev pub made_site : ℕ → Site
made_site n = site_of (unit_pages (made_pages n))

-- the pages that are seen are those of a folder in memory, as a browser judges them
pub record IsMade (folder : Contents) (seen : Seen) : Type 0 where
  pub distinct : AreDistinct (names_of folder)
  pub known : seen.known ≡ Held folder
  pub judge : seen.judge ≡ judged

-- the lines of keys from the beginning
abbrev pub lines_by : Site → List Key → List (List ℕ)
lines_by site keys = shown_by (played push_at site keys (unpushed (world_of made_begun))).step

-- it is what these keys come to
pub record IsPlayed (site : Site) (keys : List Key) (came : Played) : Type 0 where
  pub lines : came.lines ≡ length (lines_by site keys)
  pub sum : came.sum.items
      ≡ value_in (drop (length (lines_by site keys)) (lines_by site (keys ++ Vars ∷ [])))

-- it is that of the folder of this number
pub record IsTour (n : ℕ) (tour : Tour) : Type 0 where
  pub pages : tour.pages ≡ length (folder n)
  pub accepted : tour.accepted ≡ length (accepted_over (made_site n) (names_of (folder n)))
  pub lines : tour.played.lines ≡ length (made_lines n (over (made_site n)))
  pub sum : tour.played.sum.items ≡ value_in (made_variables n (over (made_site n)))

-- the lines on it
abbrev pub report_of : Tour → List ℕ
report_of tour =
    made_line (codes "pages") (decimal tour.pages)
    ++ (made_line (codes "ok") (decimal tour.accepted)
    ++ (made_line (codes "lines") (decimal tour.played.lines)
    ++ made_line (codes "t") tour.played.sum.items))
