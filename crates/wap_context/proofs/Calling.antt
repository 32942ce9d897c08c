-- Calls of a context: a navigation, and all that it leads to.
use Rattle.std.proofs.Common.{◌≡◌, ℕ, List, [], Ok, Err, refl, sym, subst}
use Rattle.std.specs.Prelude.{Result}
use Rattle.wap_base.specs.declared.fault.RunErr.{RunErr}
use Rattle.wap_value.specs.declared.value.Value.{Value}
use Rattle.wap_base.specs.declared.key.Key.{Key}
use Rattle.wap_world.specs.site.Asking.{Seen}
use Rattle.wap_world.specs.World.{World}
use Rattle.wap_world.specs.Tasks.{open_by, visit}
use Rattle.wap_world.specs.scripting.UnitSites.{Pages}
use Rattle.wap_state.specs.Scenes.{Line}
use Rattle.wap_context.specs.declared.waiting.Went.{Went}
use Rattle.wap_context.specs.declared.waiting.Step.{Step as Did}
use Rattle.wap_context.specs.Browsers.{Browser, place_held}
use Rattle.wap_context.specs.Sites.{site_of}
use Rattle.wap_context.specs.Pausing.{Paused}
use Rattle.wap_context.specs.Acting.{Acts, answer, stop}
use Rattle.wap_context.specs.inside.Moving.{Takes, pursued, Pursues}
use Rattle.wap_context.proofs.Takings.{Rule}
use Rattle.wap_context.proofs.Beginning.{Answers, Stops}
use Rattle.wap_context.proofs.Pursuing.{StepRule, Onward, taken, taken_err, pursues_after, acts}
use Rattle.wap_context.proofs.Passing.{pursues_from}

-- the rule of a call is that of its navigation, and of all that this leads to
abbrev Leads : Rule → StepRule → Type 0
Leads rule whole = (pages : Pages) (keys : List Key) (world : World)
    → Onward rule pages keys world ≡ whole pages keys world

-- what was left to do is done
after_ok : (rule : Rule) (whole : StepRule) (seen now after : Seen) (old mid new : Browser)
    (before shown : List Line) (went : Went) (result : Result Did RunErr)
    → Leads rule whole → before ≡ [] → Takes rule seen now old mid before shown (Ok went)
    → Pursues (pursued went) now after mid new shown result
    → Acts whole seen after old new result
after_ok rule whole seen now after old mid new before shown went result leads none takes pursues =
    acts whole seen after old new before result none
    (pursues_from whole (Onward rule) seen after old new before result
    (λ pages over keys. leads pages keys old.world)
    (pursues_after (Onward rule) seen now after old mid new before shown went result
    (taken rule seen now old mid before shown went takes) pursues))

-- the navigation failed
after_err : (rule : Rule) (whole : StepRule) (seen now : Seen) (old mid : Browser)
    (before shown : List Line) (err : RunErr) (result : Result Did RunErr)
    → Leads rule whole → result ≡ Err err → before ≡ []
    → Takes rule seen now old mid before shown (Err err)
    → Acts whole seen now old mid result
after_err rule whole seen now old mid before shown err result leads is none takes =
    acts whole seen now old mid before result none
    (pursues_from whole (Onward rule) seen now old mid before result
    (λ pages over keys. leads pages keys old.world)
    (subst (λ (r : Result Did RunErr). Pursues (Onward rule) seen now old mid before r) (sym is)
    (taken_err rule seen now old mid before shown err takes)))

-- ---- open

-- a URL that a user opens
abbrev pub Visits : List ℕ → Browser → StepRule
Visits text old pages keys world = visit (site_of pages) (place_held old) keys world text

abbrev pub Opening : List ℕ → Browser → Rule
Opening text old pages keys = open_by (site_of pages) (place_held old) keys text

visit_is : (text : List ℕ) (old : Browser) → Leads (Opening text old) (Visits text old)
unfolding visit
visit_is text old pages keys world = refl

pub open_ok : (text : List ℕ) (seen now after : Seen) (old mid new : Browser)
    (before shown : List Line) (went : Went) (result : Result Did RunErr) → before ≡ []
    → Takes (Opening text old) seen now old mid before shown (Ok went)
    → Pursues (pursued went) now after mid new shown result
    → Acts (Visits text old) seen after old new result
open_ok text seen now after old mid new before shown went result =
    after_ok (Opening text old) (Visits text old) seen now after old mid new before shown went
    result (visit_is text old)

pub open_err : (text : List ℕ) (seen now : Seen) (old mid : Browser) (before shown : List Line)
    (err : RunErr) (result : Result Did RunErr) → result ≡ Err err → before ≡ []
    → Takes (Opening text old) seen now old mid before shown (Err err)
    → Acts (Visits text old) seen now old mid result
open_err text seen now old mid before shown err result =
    after_err (Opening text old) (Visits text old) seen now old mid before shown err result
    (visit_is text old)

-- ---- answer and stop

pub answer_ok : (paused : Paused) (v : Value) (seen now after : Seen) (old mid new : Browser)
    (before shown : List Line) (went : Went) (result : Result Did RunErr) → before ≡ []
    → Takes (Answers paused v) seen now old mid before shown (Ok went)
    → Pursues (pursued went) now after mid new shown result
    → Acts (answer paused v) seen after old new result
answer_ok paused v seen now after old mid new before shown went result =
    after_ok (Answers paused v) (answer paused v) seen now after old mid new before shown went
    result (λ pages keys world. refl)

pub answer_err : (paused : Paused) (v : Value) (seen now : Seen) (old mid : Browser)
    (before shown : List Line) (err : RunErr) (result : Result Did RunErr) → result ≡ Err err
    → before ≡ [] → Takes (Answers paused v) seen now old mid before shown (Err err)
    → Acts (answer paused v) seen now old mid result
answer_err paused v seen now old mid before shown err result =
    after_err (Answers paused v) (answer paused v) seen now old mid before shown err result
    (λ pages keys world. refl)

pub stop_ok : (paused : Paused) (seen now after : Seen) (old mid new : Browser)
    (before shown : List Line) (went : Went) (result : Result Did RunErr) → before ≡ []
    → Takes (Stops paused.base) seen now old mid before shown (Ok went)
    → Pursues (pursued went) now after mid new shown result
    → Acts (stop paused) seen after old new result
stop_ok paused seen now after old mid new before shown went result =
    after_ok (Stops paused.base) (stop paused) seen now after old mid new before shown went result
    (λ pages keys world. refl)
