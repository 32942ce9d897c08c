-- Calls of a context, and of what is built on one, by their rules.
use Rattle.std.proofs.Common.{◌≡◌, ℕ, List, [], ◌∷◌, ◌++◌, Option, Result}
use Rattle.std.proofs.Common.{Ok, Err, refl, sym, ap, subst, ◌∙◌}
use Rattle.std.specs.Prelude.{IsErrAnd, OnOk, is_some}
use Rattle.std.proofs.lemmas.Result.{err_from_is_err_and}
use Rattle.wap_base.specs.declared.fault.RunErr.{RunErr}
use Rattle.wap_base.specs.declared.fault.RunErr.TheVariants as run
use Rattle.wap_base.specs.declared.key.Key.{Key}
use Rattle.wap_world.specs.site.Misses.{Asked}
use Rattle.wap_world.specs.site.Asking.{Seen, Stays, Asks, Fails}
use Rattle.wap_world.proofs.SiteLemmas.Asking.{Asks-nil, Stays-same}
use Rattle.wap_world.specs.declared.refusal.Refusal.TheVariants as refusals
use Rattle.wap_world.specs.World.{World, Place}
use Rattle.wap_world.specs.Lines.{refusal_line}
use Rattle.wap_world.specs.Steps.{Scene, Step, then_step, quiet}
use Rattle.wap_world.specs.Keys.{ignored}
use Rattle.wap_world.proofs.Joining.{joined_assoc, joined_nothing}
use Rattle.wap_world.specs.scripting.UnitSites.{Pages, shelf_of, unit_pages}
use Rattle.wap_world.specs.scripting.Waiting.{Waits, left_over}
use Rattle.wap_world.specs.scripting.Feeding.{meaning}
use Rattle.wap_context.specs.declared.waiting.Step.{Step as Did}
use Rattle.wap_context.specs.declared.waiting.Step.TheVariants.{Settled}
use Rattle.wap_context.specs.Browsers.{Browser, IsOver, place_held, Shows}
use Rattle.wap_context.proofs.Plays.{over_shown}
use Rattle.wap_context.specs.Sites.{fragment_call, IfOver}
use Rattle.wap_context.specs.Acting.{waiting_in, Follows, Acts}
use Rattle.wap_session.specs.Feeding.{left_open}
use Rattle.wap_session.specs.inside.Turns.{IsBehind}

-- what a call does over pages, before the keys that would come after it
abbrev pub Rule : Type 0
Rule = Pages → List Key → World → Step

-- ---- a rule after lines

-- lines that come first
abbrev pub first_lines : List (List ℕ) → World → Step
first_lines lines world = quiet [] (record { world = world; lines = lines })

-- a rule from one browser, and another from a browser before, which comes to lines and then to the
-- same
abbrev pub LeadsTo : List (List ℕ) → (one other : Rule) → (mid old : Browser) → Type 0
LeadsTo lines one other mid old = (pages : Pages) → IsOver (shelf_of pages) old
    → IsOver (shelf_of pages) mid × ((keys : List Key) → other pages keys old.world
    ≡ then_step (first_lines lines mid.world) (one pages keys mid.world))

module _ (lines : List (List ℕ)) (one other : Rule) (before after : Seen)
    (mid old new : Browser) (leads : LeadsTo lines one other mid old) where
  -- what was done is the same but for these lines
  follows_one : (pages : Pages) (did further : Did) → IsBehind lines did further
      → ((keys : List Key) → other pages keys old.world
      ≡ then_step (first_lines lines mid.world) (one pages keys mid.world))
      → Follows pages (one pages) mid new did → Follows pages (other pages) old new further
  follows_one pages did further behind same so =
      let front = first_lines lines mid.world in
      let step = one pages [] mid.world in
      let last = same [] in
      record {
        leads = so.leads ∙ sym (ap (λ (s : Step). s.world) last);
        tells = behind.lines_are ∙ ap (λ (l : List (List ℕ)). lines ++ l) so.tells
            ∙ sym (ap (λ (s : Step). s.lines) last);
        over = so.over;
        asks_user = ap (λ (s : Step). s.is_open) last ∙ so.asks_user
            ∙ sym (ap is_some behind.waiting_is);
        on = λ keys. same keys ∙ ap (then_step front) (so.on keys)
            ∙ sym (joined_assoc front (left_open step)
            (left_over fragment_call pages (waiting_in did) keys step.world))
            ∙ sym (ap (λ (s : Step). meaning fragment_call pages
            (record { step = left_open s; waiting = waiting_in did }) keys) last)
            ∙ sym (ap (λ (o : Option Waits). meaning fragment_call pages
            (record { step = left_open (other pages [] old.world); waiting = o }) keys)
            behind.waiting_is);
      }

  -- a fact of the pages that were asked for
  asked_by : (Fact : List Asked → Type 0)
      → IfOver after mid (λ pages. Fact (one pages [] mid.world).asked)
      → IfOver after old (λ pages. Fact (other pages [] old.world).asked)
  asked_by Fact so judged may is =
      let led = leads (unit_pages judged) is in
      subst Fact (sym (ap (λ (s : Step). s.asked) (led.1 []))) (so judged may led.0)

  -- a call that did something
  pub Acts-ok : (did further : Did) → IsBehind lines did further
      → Acts one before after mid new (Ok did) → Acts other before after old new (Ok further)
  Acts-ok did further behind so = record {
    follows = λ judged may is.
        let pages = unit_pages judged in
        let led = leads pages is in
        follows_one pages did further behind led.1 (so.follows judged may led.0);
    asks = asked_by (λ asked. Asks asked before after) so.asks;
    steady = so.steady;
    failed = λ is. absurd cc;
    missed = λ is. absurd cc;
    stays = so.stays;
  }

  -- a call that failed
  pub Acts-err : (fault : RunErr) → Acts one before after mid new (Err fault)
      → Acts other before after old new (Err fault)
  Acts-err fault so = record {
    follows = tt;
    asks = tt;
    steady = tt;
    failed = so.failed;
    missed = λ is. asked_by (λ asked. Fails asked before after) (so.missed is);
    stays = so.stays;
  }

-- however it ended, with no lines first
pub Acts-leads : (one other : Rule) (before after : Seen) (mid old new : Browser)
    → LeadsTo [] one other mid old → (result : Result Did RunErr)
    → Acts one before after mid new result → Acts other before after old new result
Acts-leads one other before after mid old new leads (Ok did) so =
    Acts-ok [] one other before after mid old new leads did did
    (record { lines_are = refl; waiting_is = refl }) so
Acts-leads one other before after mid old new leads (Err fault) so =
    Acts-err [] one other before after mid old new leads fault so

-- two rules that come to the same from a browser
pub Acts-same : (one other : Rule) (before after : Seen) (old new : Browser)
    → ((pages : Pages) → IsOver (shelf_of pages) old → (keys : List Key)
    → other pages keys old.world ≡ one pages keys old.world)
    → (result : Result Did RunErr) → Acts one before after old new result
    → Acts other before after old new result
Acts-same one other before after old new same =
    Acts-leads one other before after old old new (λ pages is. (is, same pages is))

-- what holds anyhow holds where a call did something
pub anyhow : {A B : Type 0} {P : Type 0} (result : Result A B) → P → OnOk result P
anyhow (Ok value) so = so
anyhow (Err fault) so = tt

-- ---- memory ran out

pub Acts-wants : (rule : Rule) (before after : Seen) (old new : Browser)
    (result : Result Did RunErr)
    → Stays before after → IsErrAnd result (λ (fault : RunErr). fault ≡ run.NoMemory)
    → Acts rule before after old new result
Acts-wants rule before after old new result stays wants =
    let (fault, is, none) = err_from_is_err_and result wants in
    subst (λ (last : Result Did RunErr). Acts rule before after old new last)
    (sym (is ∙ ap Err none)) (record {
      follows = tt;
      asks = tt;
      steady = tt;
      failed = λ is. absurd cc;
      missed = λ is. absurd cc;
      stays = stays;
    })

-- ---- a call that asks for no pages

-- it leaves keys as they are, and asks for none
pub Acts-shows : (rule : Option Place → World → Scene) (seen : Seen) (old new : Browser)
    (lines : List (List ℕ)) → Shows rule old new [] lines
    → Acts (λ pages keys world. quiet keys (rule (place_held old) world)) seen seen old new
    (Ok (Settled lines))
Acts-shows rule seen old new lines shows =
    let scene = rule (place_held old) old.world in
    record {
      follows = λ judged may is. record {
        leads = shows.plays.world;
        tells = shows.plays.lines;
        over = over_shown rule old new [] lines shows (shelf_of (unit_pages judged)) is;
        asks_user = refl;
        on = λ keys. sym (joined_nothing (quiet [] scene) keys);
      };
      asks = λ judged may is. Asks-nil seen;
      steady = refl;
      failed = λ is. absurd cc;
      missed = λ is. absurd cc;
      stays = Stays-same seen;
    }

-- lines alone
pub shows_lines : (browser : Browser) (lines shown : List (List ℕ)) → shown ≡ lines
    → Shows (λ place world. record { world = world; lines = lines }) browser browser [] shown
shows_lines browser lines shown is =
    record { plays = record { world = refl; lines = is; kept = refl }; deck = refl }

-- a key that fits nothing
pub Acts-ignored : (rule : Rule) (seen : Seen) (browser : Browser) (did : Did)
    → did ≡ Settled (refusal_line refusals.Ignored ∷ [])
    → ((pages : Pages) → IsOver (shelf_of pages) browser → (keys : List Key)
    → rule pages keys browser.world ≡ quiet keys (ignored browser.world))
    → Acts rule seen seen browser browser (Ok did)
Acts-ignored rule seen browser did is same =
    let lines = refusal_line refusals.Ignored ∷ [] in
    subst (λ (one : Did). Acts rule seen seen browser browser (Ok one)) (sym is)
    (Acts-same (λ pages keys world. quiet keys (ignored world)) rule seen seen browser browser same
    (Ok (Settled lines))
    (Acts-shows (λ place. ignored) seen browser browser lines
    (shows_lines browser lines lines refl)))
