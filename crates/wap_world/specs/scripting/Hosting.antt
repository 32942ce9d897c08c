-- What a browser does for a script: it finds functions of other scripts (WAP-193, section 6.4.2.2),
-- and has the libraries (WAP-194). Which calls are refused, and in what order, is this project's
-- own. A script is known by its page's name, so that units and sources have the same host.
use Rattle.std.specs.Prelude.{ℕ, Bool, true, false, ◌==◌, nat_le, if◌then◌else◌, List}
use Rattle.std.specs.Prelude.{Option, Some, None, Result, Ok, Err}
use Rattle.wap_url.specs.declared.url.Url.{Url}
use Rattle.wap_url.specs.Printing.{name_for, without_fragment}
use Rattle.wap_value.specs.declared.value.Value.{Value}
use Rattle.wap_value.specs.declared.fault.ValueFault.{ValueFault}
use Rattle.wap_value.specs.TooLong.{kept_within}
use Rattle.wap_execution.specs.declared.fatal.Fatal.TheVariants as fatal
use Rattle.wap_execution.specs.declared.found.Found.{Found}
use Rattle.wap_execution.specs.declared.found.Found.TheVariants.{Callee, Not}
use Rattle.wap_execution.specs.declared.library.HostOut.{HostOut}
use Rattle.wap_execution.specs.declared.library.HostOut.TheVariants as out
use Rattle.wap_libs.specs.declared.fault.LibFault.{LibFault}
use Rattle.wap_libs.specs.declared.outcome.LibOut.{LibOut}
use Rattle.wap_libs.specs.declared.outcome.LibOut.TheVariants as lib
use Rattle.wap_libs.specs.Row.{argument}
use Rattle.wap_libs.specs.Outcome.{outcome, generator_after}
use Rattle.wap_world.specs.declared.refusal.Refusal.{Refusal}
use Rattle.wap_world.specs.Shelves.{Shelf, Shelved, script_page, no_page}
use Rattle.wap_world.specs.World.{World, Place}
use Rattle.wap_world.specs.Steps.{Step}
use Rattle.wap_execution.specs.Outcomes.{HostingOf}
use Rattle.wap_world.specs.Urls.{target_of}
use Rattle.wap_world.specs.Requests.{plain_get, test_of}
use Rattle.wap_world.specs.Sites.{External}
use Rattle.wap_world.specs.Starting.{in_world}
use Rattle.wap_world.specs.scripting.Additions.{with_test, with_request}
use Rattle.wap_world.specs.scripting.Browsing.{on_text, wml_browser, dialogs}
use Rattle.wap_world.specs.scripting.Loading.{load_string, get_base, get_referer}

-- ---- external calls

-- a function that may be entered: refused where there is none, where it takes another number of
-- arguments, and where as many functions as may be are at work, in this order
abbrev pub callable : {U : Type 0} → U → Url → ℕ → ℕ → ℕ → Option External → Found U
callable code url count depth working None = Not fatal.NoFunction
callable code url count depth working (Some one) =
    if one.arguments == count
    then (if nat_le depth working then Not fatal.Depth else Callee code url one.index)
    else Not fatal.Arguments

-- the script's access pragmas come first
abbrev pub callable_if : {U : Type 0} → Bool → Found U → Found U
callable_if true found = found
callable_if false found = Not fatal.Denied

module _ {U : Type 0} (shelf : Shelf) (externals : List ℕ → List ℕ → Option External)
    (code : List ℕ → U) where
  -- the page that answers is no script, or one whose access pragmas decide
  abbrev pub found_under : Url → Url → List ℕ → ℕ → ℕ → Step → Shelved → Found U × Step
  found_under caller url function count working step (script_page entrance) =
      let one = test_of url (Some caller) entrance in
      let name = name_for url in (
        callable_if one.allowed (callable (code name) (without_fragment url) count
            step.world.limits.depth working (externals name function)),
        with_test one step,
      )
  found_under caller url function count working step no_page = (Not fatal.NoUnit, step)
  found_under caller url function count working step other =
      (Not fatal.UnitRefused, step)

  -- the page is asked for, where the target can be one
  abbrev pub found_at : Url → List ℕ → ℕ → ℕ → Step → Result Url Refusal → Found U × Step
  found_at caller function count working step (Ok url) =
      found_under caller url function count working (with_request (plain_get url) step)
      (shelf (name_for url))
  found_at caller function count working step (Err why) = (Not fatal.NoUnit, step)

  -- a function of another script, by its URL as a reference to the caller's, and its name
  abbrev pub external_call : Step → Url → List ℕ → List ℕ → ℕ → ℕ → Found U × Step
  external_call step caller target function count working =
      found_at caller function count working step (target_of (Some caller) target)

-- ---- libraries

-- what a function comes to that needs no browser
abbrev pub pure_out : Result LibOut LibFault → HostOut
pure_out (Ok (lib.Value v)) = out.Value v
pure_out (Ok (lib.Exit v)) = out.Exit v
pure_out (Ok (lib.Abort text)) = out.Fatal (fatal.Aborted text)
pure_out (Err fault) = out.Fatal fatal.TooLong

-- a function of Lang, Float, String or URL that needs no browser
abbrev pub pure_call : ℕ → ℕ → List Value → Step → HostOut × Step
pure_call library function arguments step =
    let world = step.world in (
      pure_out (outcome world.limits.string library function arguments world.generator),
      in_world (record world {
        generator = generator_after library function arguments world.generator;
      }) step,
    )

-- a String that is given must not be longer than the limit
abbrev pub kept_by : Result Value ValueFault → HostOut
kept_by (Ok v) = out.Value v
kept_by (Err fault) = out.Fatal fatal.TooLong

-- whatever a library gives
abbrev pub kept : ℕ → HostOut → HostOut
kept string (out.Value v) = kept_by (kept_within string v)
kept string (out.Exit v) = out.Exit v
kept string (out.Fatal why) = out.Fatal why
kept string (out.Asks dialog) = out.Asks dialog

-- what a call gives, by the limit of Strings
abbrev pub within : HostOut × Step → HostOut × Step
within gave = (kept gave.1.world.limits.string gave.0, gave.1)

-- loadString, by its arguments
abbrev pub load_call : Shelf → List Value → Step → HostOut × Step
load_call shelf arguments step =
    on_text (argument arguments 0) step (λ url.
    on_text (argument arguments 1) step (λ type. load_string shelf url type step))

-- getBase, getReferer and loadString, and the functions of URLs that need no browser
abbrev pub url_call : Shelf → Url → Option Url → ℕ → List Value → Step → HostOut × Step
url_call shelf base referer function arguments step =
    if function == 8 then get_base base step
    else if function == 9 then get_referer base referer step
    else if function == 13 then load_call shelf arguments step
    else pure_call 3 function arguments step

-- a function of a library, by their numbers
abbrev pub library_call : Shelf → (World → Option Place) → Step → Url → Option Url → ℕ → ℕ
    → List Value → HostOut × Step
library_call shelf now step base referer library function arguments =
    if library == 5 then dialogs function arguments step
    else if library == 4 then within (wml_browser now base function arguments step)
    else if library == 3 then within (url_call shelf base referer function arguments step)
    else pure_call library function arguments step

-- ---- both

-- a browser's host, by its pages, the current card of a world, and the external functions and the
-- scripts of pages' names
abbrev pub hosting : {U : Type 0} → Shelf → (World → Option Place)
    → (List ℕ → List ℕ → Option External) → (List ℕ → U) → HostingOf U Step
hosting shelf now externals code = record {
  external = external_call shelf externals code;
  library = library_call shelf now;
}
