-- The site of decks, units and sources, where units and sources call each other. A source means
-- what its program means, and has no frames that wait. Programs are any type here, with what one of
-- their functions comes to by what its calls come to (WAP-193, sections 6 and 10).
use Rattle.std.specs.Prelude.{◌≡◌, ℕ, zero, suc, ◌-◌, List, map, Option}
use Rattle.wap_base.specs.declared.limits.TheConstants.{MOST_DEPTH}
use Rattle.wap_url.specs.declared.url.Url.{Url}
use Rattle.wap_value.specs.declared.value.Value.{Value}
use Rattle.wap_unit.specs.declared.unit.Unit.{Unit}
use Rattle.wap_execution.specs.declared.fatal.Fatal.TheVariants.{Depth}
use Rattle.wap_execution.specs.Frames.{FunctionOf}
use Rattle.wap_execution.specs.Outcomes.{fatal, Ended, SettingOf}
use Rattle.wap_execution.specs.Running.{ended, EnterOf, Calls, called}
use Rattle.wap_meaning.specs.Functions.{unit_runs}
use Rattle.wap_meaning.specs.Keeping.{GiveNoTurns}
use Rattle.wap_world.specs.Shelves.{Entrance}
use Rattle.wap_world.specs.Steps.{Step}
use Rattle.wap_world.specs.Sites.{External, Call, Ran, Site}
use Rattle.wap_world.specs.scripting.Units.{entrance_in, external_in}
use Rattle.wap_world.specs.scripting.ScriptPages.{PageOf, deck, script, words, refused, PagesOf}
use Rattle.wap_world.specs.scripting.ScriptPages.{Scripts}
use Rattle.wap_world.specs.scripting.ScriptPages.{shelf_by, script_under, externals_by, keyed_by}
use Rattle.wap_world.specs.scripting.UnitSites.{Pages, no_unit, ran_of}

-- ---- programs

-- what programs are to a browser: what a function comes to, by the limit of Strings, what its calls
-- come to, its index, its arguments, the turns and the step; who may call them; and their external
-- functions
pub record LanguageOf (P : Type 0) : Type 0 where
  pub runs : ℕ → Calls Step → P → ℕ → List Value → ℕ → Step → Ended Step
  pub entrance : P → Option Entrance
  pub external : P → List ℕ → Option External

-- a script of either kind
pub data Script (P : Type 0) : Type 0 where
  of_unit : Unit → Script P
  of_source : P → Script P

-- pages whose scripts are of either kind
abbrev pub AllPages : Type 0 → Type 0
AllPages P = PagesOf (Script P)

module _ {P : Type 0} (language : LanguageOf P) where
  -- who may call a script
  abbrev pub script_entrance : Script P → Option Entrance
  script_entrance (of_unit one) = entrance_in one
  script_entrance (of_source one) = language.entrance one

  -- its external function of a name
  abbrev pub script_external : Script P → List ℕ → Option External
  script_external (of_unit one) name = external_in one name
  script_external (of_source one) name = language.external one name

  -- what a browser asks of scripts of either kind
  abbrev pub both : Scripts (Script P)
  both = record {
    entrance = script_entrance;
    external = script_external;
    empty = of_unit no_unit;
  }

  -- ---- scripts that call each other

  -- what a function of a script comes to, by what its calls come to
  abbrev pub script_runs : ℕ → Calls Step → FunctionOf (Script P) → Script P → List Value → ℕ → Step
      → Ended Step
  script_runs string call function (of_unit one) arguments turns step =
      unit_runs string call (record {
        unit = one;
        base = function.base;
        referer = function.referer;
        index = function.index;
      }) arguments turns step
  script_runs string call function (of_source one) arguments turns step =
      language.runs string call one function.index arguments turns step

  -- a function is entered, and after it so many more may be
  unfoldable pub meant : SettingOf (Script P) Step → ℕ → EnterOf (Script P) Step
  meant setting zero function arguments turns step = ended (fatal Depth) turns step
  meant setting (suc more) function arguments turns step =
      script_runs setting.limits.string
      (called setting (MOST_DEPTH - more) (meant setting more) function) function function.unit
      arguments turns step

  -- ---- the site

  -- what a function of the script of a name comes to
  abbrev pub run_script : AllPages P → List ℕ → Url → Option Url → ℕ → List Value → ℕ → Step → Ran
  run_script pages name base referer index arguments turns step =
      let setting : SettingOf (Script P) Step = record {
        limits = step.world.limits;
        host = keyed_by both pages;
        tick = λ function state. state;
      } in
      ran_of (meant setting MOST_DEPTH (record {
        unit = script_under both pages name;
        base = base;
        referer = referer;
        index = index;
      }) arguments turns step)

  -- the site of these pages; `call` reads what a fragment calls
  unfoldable pub site_of : (List ℕ → Option Call) → AllPages P → Site
  site_of call pages = record {
    shelf = shelf_by both pages;
    external = externals_by both pages;
    run = run_script pages;
    call = call;
  }

  -- ---- units in place of sources

  -- a unit that agrees with a program: the same may call it, it has the same external functions,
  -- and each function comes to the same, whatever its calls come to that give no turns back
  pub record Agrees (one : P) (compiled : Unit) : Type 0 where
    pub entrances : entrance_in compiled ≡ language.entrance one
    pub names : (name : List ℕ) → external_in compiled name ≡ language.external one name
    pub functions : (string : ℕ) (call : Calls Step) → GiveNoTurns call → (base : Url)
        (referer : Option Url) (index : ℕ) (arguments : List Value) (turns : ℕ) (step : Step)
        → language.runs string call one index arguments turns step
        ≡ unit_runs string call (record {
          unit = compiled;
          base = base;
          referer = referer;
          index = index;
        }) arguments turns step

  -- the unit in place of a script
  abbrev pub compiled_script : (P → Unit) → Script P → Unit
  compiled_script compiler (of_unit one) = one
  compiled_script compiler (of_source one) = compiler one

  -- the page with a unit in place of its script
  abbrev pub compiled_page : (P → Unit) → PageOf (Script P) → PageOf Unit
  compiled_page compiler (deck one) = deck one
  compiled_page compiler (script one) = script (compiled_script compiler one)
  compiled_page compiler (words text) = words text
  compiled_page compiler refused = refused

  -- the pages with units in place of sources
  abbrev pub compiled_pages : (P → Unit) → AllPages P → Pages
  compiled_pages compiler pages = map (λ one. (one.0, compiled_page compiler one.1)) pages
