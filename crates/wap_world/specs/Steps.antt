-- What one step comes to. This project's own.
use Rattle.std.specs.Prelude.{ℕ, Bool, false, ◌||◌, List, [], ◌++◌, Option, None}
use Rattle.wap_base.specs.declared.key.Key.{Key}
use Rattle.wap_url.specs.declared.url.Url.{Url}
use Rattle.wap_cardrules.specs.declared.task.Task.{Task}
use Rattle.wap_world.specs.World.{World}

-- ---- lines

-- a world, and the lines that led there
pub record Scene : Type 0 where
  pub world : World
  pub lines : List (List ℕ)

-- nothing happens
abbrev pub still : World → Scene
still world = record { world = world; lines = [] }

-- some lines, and then a scene
abbrev pub behind : List (List ℕ) → Scene → Scene
behind lines scene = record scene { lines = lines ++ scene.lines }

-- one rule, and then another in the world that it leaves
abbrev pub and_then : Scene → (World → Scene) → Scene
and_then first next = behind first.lines (next first.world)

-- ---- steps

-- a decision whether a page may be entered: its name, the URL from which, if from one, and the
-- answer
pub record AccessTest : Type 0 where
  pub page : List ℕ
  pub caller : Option Url
  pub allowed : Bool

-- a world, the keys that are left, and what the step adds: lines, the names of pages that were
-- asked for with whether they were to be fetched anew, and access tests; and whether the keys ended
-- in a dialog
pub record Step : Type 0 where
  pub world : World
  pub keys : List Key
  pub lines : List (List ℕ)
  pub asked : List (List ℕ × Bool)
  pub tests : List AccessTest
  pub is_open : Bool

-- a scene in which nothing was asked, and no key was used
abbrev pub quiet : List Key → Scene → Step
quiet keys scene = record {
  world = scene.world;
  keys = keys;
  lines = scene.lines;
  asked = [];
  tests = [];
  is_open = false;
}

-- one step, and then another
abbrev pub then_step : Step → Step → Step
then_step one others = record {
  world = others.world;
  keys = others.keys;
  lines = one.lines ++ others.lines;
  asked = one.asked ++ others.asked;
  tests = one.tests ++ others.tests;
  is_open = one.is_open || others.is_open;
}

-- one step, and then what follows in its world with the keys that it left
abbrev pub followed : Step → (List Key → World → Step) → Step
followed one next = then_step one (next one.keys one.world)

-- ---- navigation

-- a task that is next, and the URL that stands for the current deck's where there is no card: that
-- of the script that asked for it
pub record Next : Type 0 where
  pub task : Task
  pub from : Option Url

-- a task of the current card
abbrev pub then_task : Task → Next
then_task task = record { task = task; from = None }

-- what one navigation comes to: it is settled, or a task is next
pub record Once : Type 0 where
  pub step : Step
  pub next : Option Next

-- a navigation that leads to no other
abbrev pub settled : Step → Once
settled step = record { step = step; next = None }

-- a step, and then a navigation
abbrev pub after_step : Step → Once → Once
after_step step once = record once { step = then_step step once.step }
