-- One navigation over pages, with any keys after it: from what its parts come to.
use Rattle.std.proofs.Common.{◌≡◌, ◌∙◌, ◌≤◌, ℕ, ◌+◌, Bool, false, List, [], ◌∷◌, ◌++◌, Option, Some}
use Rattle.std.proofs.Common.{None, Ok, Err, refl, sym, ap, ap₂, subst, append_assoc, arith}
use Rattle.std.specs.Prelude.{Result, IfSome, IfOk, OnOk, IsErr, IsErrAnd, ◌||◌, ◌<◌}
use Rattle.std.proofs.lemmas.Bool.{false≢true}
use Rattle.wap_base.specs.declared.fault.RunErr.{RunErr}
use Rattle.wap_base.specs.declared.fault.RunErr.TheVariants.{Store, NoMemory}
use Rattle.wap_url.specs.Printing.{name_for}
use Rattle.wap_base.specs.declared.key.Key.{Key}
use Rattle.wap_world.specs.declared.site.page.Page.{Page}
use Rattle.wap_world.specs.site.Pages.{Pages as JudgedPages, page_of, AreSitePages}
use Rattle.wap_world.specs.site.Asking.{Seen, Stays, Asks, Fails}
use Rattle.wap_world.specs.site.Misses.{Asked as Question}
use Rattle.wap_world.proofs.SiteLemmas.Asking.{Asks-nil, Asks-then, Stays-same, Stays-then}
use Rattle.wap_world.proofs.SiteLemmas.Asking.{Stays-may}
use Rattle.wap_world.specs.Shelves.{Shelf}
use Rattle.wap_world.specs.World.{World}
use Rattle.wap_world.specs.Steps.{Step, Once, Next, after_step}
use Rattle.wap_world.specs.Requests.{Request}
use Rattle.wap_world.proofs.Joining.{once_before}
use Rattle.wap_world.specs.scripting.UnitSites.{Pages, shelf_of, unit_pages}
use Rattle.wap_world.specs.scripting.Waiting.{Waits}
use Rattle.wap_world.specs.scripting.Halves.{once_by}
use Rattle.wap_world.proofs.ScriptingLawsLemmas.Feeding.{after_means}
use Rattle.wap_state.specs.Scenes.{Line}
use Rattle.wap_context.specs.declared.waiting.Went.{Went}
use Rattle.wap_context.specs.Browsers.{Browser, IsOver}
use Rattle.wap_context.specs.Sites.{fragment_call, IfOver}
use Rattle.wap_context.specs.inside.Moving.{Moves, Asked, next_in, waits_in, Goes, Takes, Spends}
use Rattle.wap_context.specs.inside.Moving.{Onces}
use Rattle.wap_world.proofs.SiteLemmas.Failing.{Asks-fails, Fails-more}
use Rattle.wap_context.proofs.Plays.{if_ok, on_ok}

-- a rule for one navigation
abbrev pub Rule : Type 0
Rule = Pages → List Key → World → Once

-- ---- what holds of any pages that may be there

pub over_map : (seen : Seen) (old mid : Browser) {Fact Goal : Pages → Type 0}
    → ((pages : Pages) → IsOver (shelf_of pages) old → IsOver (shelf_of pages) mid)
    → ((pages : Pages) → IsOver (shelf_of pages) old → Fact pages → Goal pages)
    → IfOver seen mid Fact → IfOver seen old Goal
over_map seen old mid onto f so = λ judged may over.
    let pages = unit_pages judged in
    f pages over (so judged may (onto pages over))

-- facts of what may be there first, and later
pub both_told : (mid after : Seen) (old b : Browser) {P Q G : Pages → Type 0}
    → Stays mid after
    → ((pages : Pages) → P pages → IsOver (shelf_of pages) b)
    → ((pages : Pages) → P pages → Q pages → G pages)
    → IfOver mid old P → IfOver after b Q → IfOver after old G
both_told mid after old b stays onto f one two = λ judged may over.
    let pages = unit_pages judged in
    let first = one judged (Stays-may mid after stays judged may) over in
    f pages first (two judged may (onto pages first))

-- ---- ends

-- out of memory before a page was asked for
pub takes_rejected : {rule : Rule} {seen : Seen} {old new : Browser} {before shown : List Line}
    (result : Result Went RunErr) → IsErr result → IsErrAnd result (λ err. err ≡ NoMemory)
    → Takes rule seen seen old new before shown result
takes_rejected (Ok went) is so = absurd (false≢true is)
takes_rejected {rule} {seen} (Err err) is so = record {
  follows = tt;
  steady = tt;
  missed = λ e. absurd (cc (sym so ∙ same err e));
  rose = λ e. absurd (cc (sym so ∙ same err e));
  stays = Stays-same seen;
  turns = tt;
} where
  same : (fault : RunErr) → ◌≡◌ {A = Result Went RunErr} (Err fault) (Err Store) → fault ≡ Store
  same fault e = cc e

-- a navigation that starts no script leaves the keys after it
goes_moves : (pages : Pages) (rule : List Key → Once) (seen : Seen) (old new : Browser)
    (before shown : List Line) (went : Went) (once : Once) (IsSuch : Shelf → Type 0)
    → Moves once None IsSuch old new before shown went → IsSuch (shelf_of pages)
    → ((keys : List Key) → rule keys ≡ once_before keys once)
    → Goes pages rule seen seen new before shown went
goes_moves pages rule seen old new before shown went once IsSuch moves such is = record {
  did = once;
  world = moves.world;
  lines = moves.lines;
  leads = moves.leads;
  closed = moves.closed;
  over = moves.over (shelf_of pages) such;
  asks = subst (λ (asked : List Question). Asks asked seen seen) (sym moves.asked) (Asks-nil seen);
  on = λ keys. is keys ∙ ap (λ (o : Option Waits). once_by pages once o keys) (sym moves.waits);
}

no_more : (old new : Browser) → new.world.turns ≡ old.world.turns
    → new.world.turns ≤ old.world.turns
no_more old new same = omega (arith, same)

pub takes_moves : (rule : Rule) (seen : Seen) (old new : Browser) (before shown : List Line)
    (went : Went) (once : Once) (IsSuch : Shelf → Type 0)
    → Moves once None IsSuch old new before shown went
    → IfOver seen old (λ pages. IsSuch (shelf_of pages)
    × ((keys : List Key) → rule pages keys old.world ≡ once_before keys once))
    → Takes rule seen seen old new before shown (Ok went)
takes_moves rule seen old new before shown went once IsSuch moves is = record {
  follows = λ judged may over.
      let pages = unit_pages judged in
      let so = is judged may over in
      goes_moves pages (λ keys. rule pages keys old.world) seen old new before shown went once
      IsSuch moves so.0 so.1;
  steady = refl;
  missed = λ failed. absurd (cc);
  rose = λ failed. absurd (cc);
  stays = Stays-same seen;
  turns = no_more old new moves.turns;
}

-- ---- by other rules

goes_from : (pages : Pages) (rule other : List Key → Once) (seen after : Seen) (new : Browser)
    (before shown : List Line) (went : Went) → ((keys : List Key) → other keys ≡ rule keys)
    → Goes pages other seen after new before shown went
    → Goes pages rule seen after new before shown went
goes_from pages rule other seen after new before shown went is so = record {
  did = so.did;
  world = so.world;
  lines = so.lines;
  leads = so.leads;
  closed = so.closed;
  over = so.over;
  asks = so.asks;
  on = λ keys. sym (is keys) ∙ so.on keys;
}

-- from another browser, by another rule
pub takes_by : (rule other : Rule) (seen after : Seen) (old mid new : Browser)
    (before shown : List Line) (result : Result Went RunErr)
    → ((pages : Pages) → IsOver (shelf_of pages) old → IsOver (shelf_of pages) mid)
    → ((pages : Pages) → IsOver (shelf_of pages) old → (keys : List Key)
    → other pages keys mid.world ≡ rule pages keys old.world)
    → mid.world.turns ≤ old.world.turns
    → Takes other seen after mid new before shown result
    → Takes rule seen after old new before shown result
takes_by rule other seen after old mid new before shown result onto is fewer so = record {
  follows = if_ok result
      (λ went. over_map after old mid onto (λ pages over goes.
      goes_from pages (λ keys. rule pages keys old.world) (λ keys. other pages keys mid.world) seen
      after new before shown went (is pages over) goes))
      so.follows;
  steady = so.steady;
  missed = λ failed. over_map after old mid onto (λ pages over missed.
      subst (λ (o : Once). Fails o.step.asked seen after) (is pages over []) missed)
      (so.missed failed);
  rose = so.rose;
  stays = so.stays;
  turns = on_ok result (λ (few : new.world.turns ≤ mid.world.turns). omega (arith, few, fewer))
      so.turns;
}

-- from the same browser
pub takes_from : (rule other : Rule) (seen after : Seen) (old new : Browser)
    (before shown : List Line) (result : Result Went RunErr)
    → ((pages : Pages) → IsOver (shelf_of pages) old → (keys : List Key)
    → other pages keys old.world ≡ rule pages keys old.world)
    → Takes other seen after old new before shown result
    → Takes rule seen after old new before shown result
takes_from rule other seen after old new before shown result is so =
    takes_by rule other seen after old old new before shown result (λ pages over. over) is
    (no_more old old refl) so

-- a turn was taken, and the rest goes by another rule
spends_by : (old mid new : Browser) (next : Option Next) → mid.world.turns + 1 ≡ old.world.turns
    → new.world.turns ≤ mid.world.turns
    → IfSome next (λ one. new.world.turns + 1 ≤ old.world.turns)
spends_by old mid new None spent few = tt
spends_by old mid new (Some next) spent few = omega (arith, spent, few)

spends_in : (old mid new : Browser) (result : Result Went RunErr)
    → mid.world.turns + 1 ≡ old.world.turns
    → OnOk result (new.world.turns ≤ mid.world.turns) → IfOk result (Spends old new)
spends_in old mid new (Ok went) spent few = spends_by old mid new (next_in went) spent few
spends_in old mid new (Err err) spent few = tt

pub onces_from : (rule other : Rule) (seen after : Seen) (old mid new : Browser)
    (before shown : List Line) (result : Result Went RunErr)
    → ((pages : Pages) → IsOver (shelf_of pages) old → IsOver (shelf_of pages) mid)
    → ((pages : Pages) → IsOver (shelf_of pages) old → (keys : List Key)
    → other pages keys mid.world ≡ rule pages keys old.world)
    → mid.world.turns + 1 ≡ old.world.turns
    → Takes other seen after mid new before shown result
    → Onces rule seen after old new before shown result
onces_from rule other seen after old mid new before shown result onto is spent so = record {
  takes = takes_by rule other seen after old mid new before shown result onto is
      (omega (arith, spent)) so;
  spends = spends_in old mid new result spent so.turns;
}

-- ---- a step, and then a navigation

module _ (pages : Pages) (first : Step) (seen mid after : Seen) (new : Browser)
    (before line shown : List Line) (lines : line ≡ before ++ first.lines)
    (shut : first.is_open ≡ false) (asks : Asks first.asked seen mid) where
  goes_after : (rule other : List Key → Once) (went : Went)
      → ((keys : List Key) → rule keys ≡ after_step first (other keys))
      → Goes pages other mid after new line shown went
      → Goes pages rule seen after new before shown went
  goes_after rule other went is so = record {
    did = after_step first so.did;
    world = so.world;
    lines = so.lines ∙ ap (λ (l : List Line). l ++ so.did.step.lines) lines
        ∙ append_assoc before first.lines so.did.step.lines;
    leads = so.leads;
    closed = ap₂ (λ (a b : Bool). a || b) shut so.closed;
    over = so.over;
    asks = Asks-then first.asked so.did.step.asked seen mid after asks so.asks;
    on = λ keys. is keys ∙ ap (after_step first) (so.on keys)
        ∙ sym (after_means fragment_call pages first so.did (waits_in went) keys);
  }

-- what is known of pages, of which these were asked for before
abbrev pub After : Rule → Rule → Step → Seen → Seen → Browser → Pages → Type 0
After rule other first seen mid old pages =
    Asks first.asked seen mid × ((keys : List Key)
    → rule pages keys old.world ≡ after_step first (other pages keys old.world))

after_ok : (rule other : Rule) (first : Step) (seen mid after : Seen) (old new : Browser)
    (before line shown : List Line) → line ≡ before ++ first.lines → first.is_open ≡ false
    → Stays mid after → (result : Result Went RunErr)
    → IfOver mid old (After rule other first seen mid old)
    → IfOk result (λ went. IfOver after old
    (λ pages. Goes pages (λ keys. other pages keys old.world) mid after new line shown went))
    → IfOk result (λ went. IfOver after old
    (λ pages. Goes pages (λ keys. rule pages keys old.world) seen after new before shown went))
after_ok rule other first seen mid after old new before line shown lines shut stays (Ok went) law so
    = λ judged may over.
    let pages = unit_pages judged in
    let one = law judged (Stays-may mid after stays judged may) over in
    goes_after pages first seen mid after new before line shown lines shut one.0
    (λ keys. rule pages keys old.world) (λ keys. other pages keys old.world) went one.1
    (so judged may over)
after_ok rule other first seen mid after old new before line shown lines shut stays (Err err) law so
    = tt

pub takes_after : (rule other : Rule) (first : Step) (seen mid after : Seen) (old new : Browser)
    (before line shown : List Line) (result : Result Went RunErr)
    → line ≡ before ++ first.lines → first.is_open ≡ false → Stays seen mid
    → mid.faults ≡ seen.faults
    → IfOver mid old (After rule other first seen mid old)
    → Takes other mid after old new line shown result
    → Takes rule seen after old new before shown result
takes_after rule other first seen mid after old new before line shown result lines shut stays steady
    law so = record {
      follows = after_ok rule other first seen mid after old new before line shown lines shut
          so.stays result law so.follows;
      steady = on_ok result (λ (same : after.faults ≡ mid.faults). same ∙ steady) so.steady;
      missed = λ failed judged may over.
          let one = law judged (Stays-may mid after so.stays judged may) over in
          subst (λ (o : Once). Fails o.step.asked seen after) (sym (one.1 []))
          (Asks-fails first.asked (other (unit_pages judged) [] old.world).step.asked seen mid
          after one.0 (so.missed failed judged may over));
      rose = λ failed. subst (λ (k : ℕ). k < after.faults) steady (so.rose failed);
      stays = Stays-then seen mid after stays so.stays;
      turns = so.turns;
    }

-- ---- a page that was asked for

-- out of memory before that
pub asked_rejected : {one : Request} {seen : Seen} {before shown : List Line}
    (result : Result Page RunErr) → IsErr result → IsErrAnd result (λ err. err ≡ NoMemory)
    → Asked one seen seen before shown result
asked_rejected (Ok page) is so = absurd (false≢true is)
asked_rejected {one} {seen} (Err err) is so = record {
  answer = tt;
  site = tt;
  lines = tt;
  asks = tt;
  missed = λ e. absurd (cc (sym so ∙ same err e));
  stays = Stays-same seen;
} where
  same : (fault : RunErr) → ◌≡◌ {A = Result Page RunErr} (Err fault) (Err Store) → fault ≡ Store
  same fault e = cc e

-- what is known of judged pages that answer
pub told_asked : (one : Request) (seen mid : Seen) (old : Browser) (before line : List Line)
    (page : Page) (Fact : Pages → Type 0) → Asked one seen mid before line (Ok page)
    → ((judged : JudgedPages) → AreSitePages judged → IsOver (shelf_of (unit_pages judged)) old
    → page ≡ page_of (name_for one.url) judged → Fact (unit_pages judged))
    → IfOver mid old Fact
told_asked one seen mid old before line page Fact asked f = λ judged may over.
    f judged (asked.site judged may) over (asked.answer judged may)

page_err : (err : RunErr) → ◌≡◌ {A = Result Went RunErr} (Err err) (Err Store)
    → ◌≡◌ {A = Result Page RunErr} (Err err) (Err Store)
page_err err is = cc

-- the store failed at it
pub takes_missed : (rule : Rule) (one : Request) (seen after : Seen) (old new : Browser)
    (before shown : List Line) (err : RunErr)
    → ((pages : Pages) → (rest : List Question)
    × ((rule pages [] old.world).step.asked ≡ (name_for one.url, one.fresh) ∷ rest))
    → Asked one seen after before shown (Err err)
    → Takes rule seen after old new before shown (Err err)
takes_missed rule one seen after old new before shown err asked so = record {
  follows = tt;
  steady = tt;
  missed = λ failed judged may over.
      let rest = asked (unit_pages judged) in
      subst (λ (a : List Question). Fails a seen after) (sym rest.1)
      (Fails-more ((name_for one.url, one.fresh) ∷ []) rest.0 seen after
      (so.missed (page_err err failed)));
  rose = λ failed. (so.missed (page_err err failed)).rose;
  stays = so.stays;
  turns = tt;
}
