-- Pages among which scripts are, of any kind: units, or units and sources. This project's own.
use Rattle.std.specs.Prelude.{ℕ, List, Option, Some, None, unwrap_or, option_and_then}
use Rattle.std.specs.Map.{lookup}
use Rattle.wap_base.specs.Texts.{is_same_text}
use Rattle.wap_tokens.specs.declared.markup.deck.Deck.{Deck}
use Rattle.wap_execution.specs.Outcomes.{HostingOf}
use Rattle.wap_execution.specs.laws.Keyed.{answered_in}
use Rattle.wap_world.specs.Shelves.{Entrance, Shelf, Shelved, deck_page, script_page, text_page}
use Rattle.wap_world.specs.Shelves.{refused_page, no_page}
use Rattle.wap_world.specs.World.{place_now}
use Rattle.wap_world.specs.Steps.{Step}
use Rattle.wap_world.specs.Sites.{External}
use Rattle.wap_world.specs.scripting.Dialogs.{by_keys}
use Rattle.wap_world.specs.scripting.Hosting.{hosting}

-- ---- pages

-- a page as a browser judges it, where U are the scripts
pub data PageOf (U : Type 0) : Type 0 where
  deck : Deck → PageOf U
  script : U → PageOf U
  words : List ℕ → PageOf U
  refused : PageOf U

-- names of a site, each with its page
abbrev pub PagesOf : Type 0 → Type 0
PagesOf U = List (List ℕ × PageOf U)

-- the page of a name, if there is one
abbrev pub page_under : {U : Type 0} → List ℕ → PagesOf U → Option (PageOf U)
page_under name pages = lookup (λ other. is_same_text other name) pages

-- the script that stands there, if one does
abbrev pub script_in : {U : Type 0} → Option (PageOf U) → Option U
script_in (Some (script one)) = Some one
script_in other = None

-- ---- what a browser asks of scripts

-- who may call a script, and its external functions by their names; and a script that has none,
-- which stands where no script is
pub record Scripts (U : Type 0) : Type 0 where
  pub entrance : U → Option Entrance
  pub external : U → List ℕ → Option External
  pub empty : U

module _ {U : Type 0} (scripts : Scripts U) where
  -- a page, as it stands on a shelf
  abbrev pub shelved : Option (PageOf U) → Shelved
  shelved (Some (deck one)) = deck_page one
  shelved (Some (script one)) = script_page (scripts.entrance one)
  shelved (Some (words text)) = text_page text
  shelved (Some refused) = refused_page
  shelved None = no_page

  -- each name has its page, and any other name none
  abbrev pub shelf_by : PagesOf U → Shelf
  shelf_by pages name = shelved (page_under name pages)

  -- the script under a name
  abbrev pub script_under : PagesOf U → List ℕ → U
  script_under pages name = unwrap_or (script_in (page_under name pages)) scripts.empty

  -- the external function of a page's name and its own
  abbrev pub externals_by : PagesOf U → List ℕ → List ℕ → Option External
  externals_by pages name function =
      option_and_then (λ one. scripts.external one function) (script_in (page_under name pages))

  -- what a browser over these pages does for scripts
  abbrev pub host_by : PagesOf U → HostingOf U Step
  host_by pages =
      let shelf = shelf_by pages in
      hosting shelf (place_now shelf) (externals_by pages) (script_under pages)

  -- the same, where dialogs are answered by the keys that are left
  abbrev pub keyed_by : PagesOf U → HostingOf U Step
  keyed_by pages =
      let host = host_by pages in record {
        external = host.external;
        library = λ step base referer number index arguments.
            let gave = host.library step base referer number index arguments in
            answered_in (by_keys (shelf_by pages)) gave.0 gave.1;
      }
