-- What the parts of a navigation come to. Contracts inside the crate cite it; those of its public
-- calls don't. This project's own.
use Rattle.std.specs.Prelude.{◌≡◌, ◌≤◌, ◌+◌, false, List, [], ◌++◌, ◌∷◌, Option, Some, None, ◌<◌}
use Rattle.std.specs.Prelude.{IfSome, IfOk, OnOk, Result, Ok, Err}
use Rattle.wap_base.specs.declared.fault.RunErr.{RunErr}
use Rattle.wap_base.specs.declared.fault.RunErr.TheVariants.{Store}
use Rattle.wap_url.specs.declared.url.Url.{Url}
use Rattle.wap_url.specs.Printing.{name_for}
use Rattle.wap_tokens.specs.declared.markup.deck.Deck.{Deck}
use Rattle.wap_unit.specs.declared.unit.Unit.{Unit}
use Rattle.wap_base.specs.declared.key.Key.{Key}
use Rattle.wap_world.specs.declared.site.page.Page.{Page}
use Rattle.wap_world.specs.declared.site.page.Page.TheVariants as page
use Rattle.wap_world.specs.site.Pages.{Pages as JudgedPages, page_of, AreSitePages}
use Rattle.wap_world.specs.site.Asking.{Seen, MayBe, Stays, Asks, Fails}
use Rattle.wap_world.specs.declared.refusal.Refusal.{Refusal}
use Rattle.wap_world.specs.Shelves.{Shelf}
use Rattle.wap_world.specs.World.{World, deck_at}
use Rattle.wap_world.specs.Steps.{Step, Once, Next, still, quiet}
use Rattle.wap_world.specs.Requests.{Request, request_line}
use Rattle.wap_world.specs.Tasks.{deck_or_refusal, act}
use Rattle.wap_world.specs.scripting.UnitSites.{Pages, shelf_of}
use Rattle.wap_world.specs.scripting.Waiting.{Waits, resumed_step}
use Rattle.wap_world.specs.scripting.Halves.{once_by}
use Rattle.wap_world.specs.scripting.Feeding.{Means}
use Rattle.wap_state.specs.Scenes.{Line}
use Rattle.wap_context.specs.declared.waiting.Went.{Went}
use Rattle.wap_context.specs.declared.waiting.Went.TheVariants.{Settled, Leads, Asks as AsksUser}
use Rattle.wap_context.specs.declared.waiting.Step.{Step as Did}
use Rattle.wap_context.specs.Browsers.{Browser, IsOver}
use Rattle.wap_context.specs.Pausing.{waits_of}
use Rattle.wap_context.specs.Sites.{fragment_call, site_of, IfOver}
use Rattle.wap_context.specs.Acting.{lines_in, waiting_in}
use Rattle.wap_context.specs.host.Finding.{shelved_page}

-- ---- what a navigation leaves to do

-- the task that is next
abbrev pub next_in : Went → Option Next
next_in (Leads task from) = Some (record { task = task; from = from })
next_in other = None

-- the dialog that waits, with the script that asks
abbrev pub waits_in : Went → Option Waits
waits_in (AsksUser dialog paused) = Some (waits_of dialog paused)
waits_in other = None

-- ---- navigations that start no script

-- a navigation for which nothing more is asked, and what waits after it, where such shelves are
pub record Moves (once : Once) (waiting : Option Waits) (IsSuch : Shelf → Type 0)
    (old new : Browser) (before after : List Line) (went : Went) : Type 0 where
  pub world : new.world ≡ once.step.world
  pub lines : after ≡ before ++ once.step.lines
  pub leads : next_in went ≡ once.next
  pub waits : waits_in went ≡ waiting
  pub closed : once.step.is_open ≡ false
  pub asked : once.step.asked ≡ []
  pub turns : new.world.turns ≡ old.world.turns
  pub over : (shelf : Shelf) → IsSuch shelf → IsOver shelf new

-- the shelf has this deck there
abbrev pub HasDeck : Url → Deck → Shelf → Type 0
HasDeck url deck shelf = deck_at shelf url ≡ Some deck

-- the deck that a page is, or why none is entered; or the script that it is
abbrev pub page_answer : Page → Result (Result Deck Refusal) Unit
page_answer (page.Script unit) = Err unit
page_answer other = Ok (deck_or_refusal (shelved_page other))

-- the shelf is the browser's, and has the deck that answers
abbrev pub Answers : Url → Result Deck Refusal → Browser → Shelf → Type 0
Answers url answer browser shelf =
    IsOver shelf browser × IfOk answer (λ deck. HasDeck url deck shelf)

-- a page that was asked for: the answer, and the line
pub record Asked (request : Request) (seen after : Seen) (before shown : List Line)
    (result : Result Page RunErr) : Type 0 where
  pub answer : IfOk result (λ answer. (pages : JudgedPages) → MayBe after pages
      → answer ≡ page_of (name_for request.url) pages)
  pub site : OnOk result ((pages : JudgedPages) → MayBe after pages → AreSitePages pages)
  pub lines : OnOk result (shown ≡ before ++ request_line request ∷ [])
  pub asks : OnOk result (Asks ((name_for request.url, request.fresh) ∷ []) seen after)
  pub missed : result ≡ Err Store → Fails ((name_for request.url, request.fresh) ∷ []) seen after
  pub stays : Stays seen after

-- ---- navigations with keys after them

-- a rule for the keys after a navigation: what was done without them
pub record Goes (pages : Pages) (rule : List Key → Once) (seen now : Seen) (new : Browser)
    (before after : List Line) (went : Went) : Type 0 where
  pub did : Once
  pub world : new.world ≡ did.step.world
  pub lines : after ≡ before ++ did.step.lines
  pub leads : next_in went ≡ did.next
  pub closed : did.step.is_open ≡ false
  pub over : IsOver (shelf_of pages) new
  pub asks : Asks did.step.asked seen now
  -- with keys it is this, and what is left to them
  pub on : (keys : List Key) → rule keys ≡ once_by pages did (waits_in went) keys

-- a call that follows a rule for one navigation
pub record Takes (rule : Pages → List Key → World → Once) (seen after : Seen) (old new : Browser)
    (before shown : List Line) (result : Result Went RunErr) : Type 0 where
  pub follows : IfOk result (λ went. IfOver after old
      (λ pages. Goes pages (λ keys. rule pages keys old.world) seen after new before shown went))
  pub steady : OnOk result (after.faults ≡ seen.faults)
  pub missed : result ≡ Err Store → IfOver after old
      (λ pages. Fails (rule pages [] old.world).step.asked seen after)
  pub rose : result ≡ Err Store → seen.faults < after.faults
  pub stays : Stays seen after
  pub turns : OnOk result (new.world.turns ≤ old.world.turns)

-- where it leads on, a turn was taken
abbrev pub Spends : Browser → Browser → Went → Type 0
Spends old new went = IfSome (next_in went) (λ next. new.world.turns + 1 ≤ old.world.turns)

-- one turn less, and no turn
pub record SpendsOne (old new : Browser) : Type 0 where
  pub is : new ≡ record old { world = record old.world { turns = new.world.turns } }
  pub one : new.world.turns + 1 ≡ old.world.turns

pub record HasNone (old new : Browser) : Type 0 where
  pub same : new ≡ old
  pub none : old.world.turns ≡ 0

-- the same of a task, which takes a turn
pub record Onces (rule : Pages → List Key → World → Once) (seen after : Seen) (old new : Browser)
    (before shown : List Line) (result : Result Went RunErr) : Type 0 where
  pub takes : Takes rule seen after old new before shown result
  pub spends : IfOk result (Spends old new)

-- ---- all that a navigation leads to

-- what is left to do
abbrev pub pursued : Went → Pages → List Key → World → Step
pursued Settled pages keys world = quiet keys (still world)
pursued (Leads task from) pages keys world =
    act (site_of pages) keys world (record { task = task; from = from })
pursued (AsksUser dialog paused) pages keys world =
    resumed_step fragment_call pages (waits_of dialog paused) keys world

-- a rule for the keys after a call: what was done without them
pub record Ends (pages : Pages) (rule : List Key → Step) (seen now : Seen) (new : Browser)
    (before : List Line) (did : Did) : Type 0 where
  pub step : Step
  pub world : new.world ≡ step.world
  pub lines : lines_in did ≡ before ++ step.lines
  pub closed : step.is_open ≡ false
  pub over : IsOver (shelf_of pages) new
  pub asks : Asks step.asked seen now
  pub on : Means fragment_call pages (record { step = step; waiting = waiting_in did }) rule

-- a call that follows a rule to its end, with the lines that were there before
pub record Pursues (rule : Pages → List Key → World → Step) (seen after : Seen) (old new : Browser)
    (before : List Line) (result : Result Did RunErr) : Type 0 where
  pub follows : IfOk result (λ did. IfOver after old
      (λ pages. Ends pages (λ keys. rule pages keys old.world) seen after new before did))
  pub steady : OnOk result (after.faults ≡ seen.faults)
  pub missed : result ≡ Err Store → IfOver after old
      (λ pages. Fails (rule pages [] old.world).asked seen after)
  pub rose : result ≡ Err Store → seen.faults < after.faults
  pub stays : Stays seen after
