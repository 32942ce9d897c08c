-- A call of a script that may not be called.
use Rattle.std.proofs.Common.{◌≡◌, ℕ, Bool, false, List, [], ◌∷◌, ◌++◌, Option, Some, ap, ◌∙◌}
use Rattle.std.proofs.lemmas.List.{append-nil}
use Rattle.std.specs.Prelude.{◌||◌, Ok}
use Rattle.wap_url.specs.declared.url.Url.{Url}
use Rattle.wap_url.specs.Printing.{name_for, without_fragment}
use Rattle.wap_execution.specs.declared.fatal.Fatal.TheVariants.{Denied}
use Rattle.wap_execution.specs.declared.found.Found.TheVariants.{Not}
use Rattle.wap_world.specs.Shelves.{Entrance, script_page}
use Rattle.wap_world.specs.Steps.{AccessTest, Step}
use Rattle.wap_world.specs.Access.{may_enter}
use Rattle.wap_world.specs.Urls.{target_of}
use Rattle.wap_world.specs.Requests.{plain_get, request_line}
use Rattle.wap_world.specs.scripting.Additions.{with_test, with_request}
use Rattle.wap_world.specs.scripting.Hosting.{callable, callable_if, found_under, found_at}
use Rattle.wap_world.proofs.Joining.{or_false}
use Rattle.wap_world.specs.scripting.UnitSites.{Pages, shelf_of, externals_of, unit_under}
use Rattle.wap_world.specs.scripting.UnitSites.{keyed_host}

-- the request's line, name and test are added, and no function is found
pub refuses_call : (pages : Pages) (step : Step) (caller url : Url) (target function : List ℕ)
    (count working : ℕ) (entrance : Option Entrance)
    → target_of (Some caller) target ≡ Ok url
    → shelf_of pages (name_for url) ≡ script_page entrance
    → may_enter url entrance (Some caller) ≡ false
    → (keyed_host pages).external step caller target function count working ≡ (
      Not Denied,
      record step {
        lines = step.lines ++ request_line (plain_get url) ∷ [];
        asked = step.asked ++ (name_for url, false) ∷ [];
        tests = step.tests
            ++ record { page = name_for url; caller = Some caller; allowed = false } ∷ [];
      },
    )
refuses_call pages step caller url target function count working entrance to_page is_script denied =
    let shelf = shelf_of pages in
    let asked = with_request (plain_get url) step in
    let one : AccessTest = record { page = name_for url; caller = Some caller; allowed = false } in
    ap (found_at shelf (externals_of pages) (unit_under pages) caller function count working step)
    to_page
    ∙ ap (found_under shelf (externals_of pages) (unit_under pages) caller url function count
    working asked) is_script
    ∙ ap (λ (b : Bool). (
      callable_if b (callable (unit_under pages (name_for url)) (without_fragment url) count
          asked.world.limits.depth working (externals_of pages (name_for url) function)),
      with_test (record { page = name_for url; caller = Some caller; allowed = b }) asked,
    )) denied
    ∙ (λ i. (
      Not Denied,
      record step {
        lines = append-nil (step.lines ++ request_line (plain_get url) ∷ []) i;
        asked = append-nil (step.asked ++ (name_for url, false) ∷ []) i;
        tests = append-nil step.tests i ++ one ∷ [];
        is_open = (or_false (step.is_open || false) ∙ or_false step.is_open) i;
      },
    ))
