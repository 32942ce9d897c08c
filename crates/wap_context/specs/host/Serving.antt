-- What a call of a script comes to for the stage on which it plays: a row of the definitions, done
-- to a step in which nothing was done yet, and added. This project's own.
use Rattle.std.specs.Prelude.{◌≡◌, false, [], ◌∷◌, ◌++◌, Result, Err, IfOk, OnOk, ◌<◌}
use Rattle.wap_base.specs.declared.fault.RunErr.{RunErr}
use Rattle.wap_base.specs.declared.fault.RunErr.TheVariants.{Store}
use Rattle.wap_url.specs.declared.url.Url.{Url}
use Rattle.wap_url.specs.Printing.{name_for}
use Rattle.wap_execution.specs.declared.library.HostOut.{HostOut}
use Rattle.wap_machine.specs.Hosts.{Gives, Fetches, IsNoBudget}
use Rattle.wap_world.specs.declared.site.page.Page.{Page}
use Rattle.wap_world.specs.site.Pages.{Pages as JudgedPages, page_of, AreSitePages}
use Rattle.wap_world.specs.site.Misses.{Asked as Question}
use Rattle.wap_world.specs.site.Asking.{Seen, MayBe, Stays, Asks, Fails}
use Rattle.wap_world.specs.Requests.{plain_get, request_line}
use Rattle.wap_world.specs.Steps.{Step, still, quiet}
use Rattle.wap_world.specs.scripting.Views.{View, added}
use Rattle.wap_context.specs.host.Stages.{Sight, view_in, fetched_in}

-- ---- without pages

-- a step in which nothing was done yet
abbrev pub begun : Sight → Step
begun sight = quiet [] (still sight.world)

-- a row that asks for no page gave this, and what it adds to a step was added
pub record Gave (row : Step → HostOut × Step) (old new : Sight) (out : HostOut) : Type 0 where
  pub answers : out ≡ (row (begun old)).0
  pub world : new.world ≡ (row (begun old)).1.world
  pub lines : new.lines ≡ old.lines ++ (row (begun old)).1.lines
  pub deck : new.deck ≡ old.deck
  pub unasked : (row (begun old)).1.asked ≡ []
  -- it isn't that turns ran out
  pub no_budget : IsNoBudget out

-- ---- with pages

-- what a row gives from a view, and the view with what it adds
abbrev pub done_by : {A : Type 0} → (View → A × Step) → View → A × View
done_by row view = added view (row view)

-- a row gave this, and what it adds to the view with any pages that these may be then was added;
-- where the store failed nothing is said but how often it was asked
pub record Serves {A : Type 0} (row : View → A × Step) (old new : Sight) (before after : Seen)
    (result : Result A RunErr) : Type 0 where
  pub told : IfOk result (λ answer. (judged : JudgedPages) → MayBe after judged
      → Gives (done_by row (view_in old before judged)) answer (view_in new after judged))
  pub steady : OnOk result (after.faults ≡ before.faults)
  pub failed : result ≡ Err Store → before.faults < after.faults
  pub fetched : result ≡ Err Store → (judged : JudgedPages) → MayBe after judged
      → Fetches (fetched_in (view_in old before judged)) after.fetches
      (fetched_in (done_by row (view_in old before judged)).1)
  pub stays : Stays before after

-- ---- a page is asked for

-- what the store of pages is asked
abbrev pub question : Url → Question
question url = (name_for url, false)

-- the line of a plain request for a page was added, and the page was asked for
pub record AsksFor (url : Url) (old new : Sight) (before after : Seen) (result : Result Page RunErr)
    : Type 0 where
  pub page : IfOk result (λ page. (judged : JudgedPages) → MayBe after judged
      → page ≡ page_of (name_for url) judged)
  pub line : OnOk result
      (new ≡ record old { lines = old.lines ++ request_line (plain_get url) ∷ [] })
  pub site : OnOk result ((judged : JudgedPages) → MayBe after judged → AreSitePages judged)
  pub failed_site : result ≡ Err Store
      → (judged : JudgedPages) → MayBe after judged → AreSitePages judged
  pub asks : OnOk result (Asks (question url ∷ []) before after)
  pub failed : result ≡ Err Store → Fails (question url ∷ []) before after
  pub stays : Stays before after
