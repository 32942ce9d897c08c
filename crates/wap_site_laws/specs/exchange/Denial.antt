-- Scripts to which nobody was let in. This project's own.
use Rattle.std.specs.Prelude.{◌≡◌, ℕ, Bool, true, false, ◌&&◌, ◌||◌, List, [], ◌∷◌, Option}
use Rattle.wap_base.specs.Contents.{Contents, page_named}
use Rattle.wap_world.specs.Shelves.{Entrance, script_page}
use Rattle.wap_world.specs.Steps.{AccessTest}
use Rattle.wap_world.specs.scripting.ScriptPages.{shelf_by}
use Rattle.wap_world.specs.scripting.Sources.{AllPages, both}
use Rattle.wap_site_laws.specs.programs.Programs.{Accepted, programs}
use Rattle.wap_site_laws.specs.pages.SourcePages.{ArePages}

-- a test of one of these names that wasn't a denial
abbrev pub is_let_in : (List ℕ → Bool) → List AccessTest → Bool
is_let_in among [] = false
is_let_in among (one ∷ tests) = (among one.page && one.allowed) || is_let_in among tests

-- what two stores hold, and their pages: the bytes are the same, but under some names, where both
-- have scripts, which let the same in
pub record DifferInScripts (among : List ℕ → Bool) (one other : Contents)
    (pages others : AllPages Accepted) : Type 0 where
  pub are : ArePages one pages
  pub others_are : ArePages other others
  pub bytes : (name : List ℕ) → among name ≡ false → page_named name one ≡ page_named name other
  pub scripts : (name : List ℕ) → among name ≡ true → (entrance : Option Entrance)
      × (shelf_by (both programs) pages name ≡ script_page entrance)
      × (shelf_by (both programs) others name ≡ script_page entrance)
