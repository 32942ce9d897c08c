-- A key within a session.
use Rattle.std.proofs.Common.{◌≡◌, ℕ, List, [], ◌∷◌, Option, Some, None, Result, Ok, Err, map}
use Rattle.std.proofs.Common.{false, refl, sym, ap, subst, ◌∙◌}
use Rattle.std.specs.Prelude.{is_some}
use Rattle.wap_base.specs.Controls.{shown_text}
use Rattle.wap_base.specs.declared.fault.RunErr.{RunErr}
use Rattle.wap_base.specs.declared.fault.RunErr.TheVariants as run
use Rattle.wap_base.specs.declared.key.Key.{Key}
use Rattle.wap_push.specs.declared.indication.Indication.{Indication}
use Rattle.wap_push.specs.Inbox.{HaveWinners}
use Rattle.wap_push.specs.Pushes.{push_at}
use Rattle.wap_world.specs.site.Misses.{Asked}
use Rattle.wap_world.specs.site.Asking.{Seen, Asks, Fails}
use Rattle.wap_world.specs.World.{World, Place}
use Rattle.wap_world.specs.Steps.{Step, then_step}
use Rattle.wap_world.specs.Keys.{renewed}
use Rattle.wap_world.specs.inboxes.Winners.{winners_of, Alike}
use Rattle.wap_world.specs.inboxes.Inboxes.{Phone, Stepped}
use Rattle.wap_world.specs.Sessions.{shown_by, StepAlike}
use Rattle.wap_world.proofs.InboxesLemmas.Winning.{exactly}
use Rattle.wap_world.proofs.InboxesLemmas.Alike.{winners_win, plays_alike}
use Rattle.wap_world.specs.scripting.UnitSites.{Pages, shelf_of, unit_pages, units_site}
use Rattle.wap_world.specs.scripting.Waiting.{Waits, left_over, played_from}
use Rattle.wap_world.specs.scripting.Feeding.{turned, meaning}
use Rattle.wap_world.proofs.ScriptingLawsLemmas.Feeding.{feeds}
use Rattle.wap_context.specs.declared.waiting.Step.{Step as Did}
use Rattle.wap_context.specs.Browsers.{Browser, place_held}
use Rattle.wap_context.proofs.Places.{held_now}
use Rattle.wap_context.specs.Sites.{fragment_call, site_of, IfOver}
use Rattle.wap_context.specs.Acting.{lines_in, waiting_in, Follows, Acts}
use Rattle.wap_session.specs.declared.fault.SessionFault.{SessionFault}
use Rattle.wap_session.specs.declared.fault.SessionFault.TheVariants.{Store}
use Rattle.wap_session.specs.Feeding.{State, between, stepped_of, step_of, left_open, TurnsTo}
use Rattle.wap_session.specs.Feeding.{Leads, Plays}
use Rattle.wap_session.specs.declared.standing.Standing.{Standing}
use Rattle.wap_session.specs.inside.Turns.{fault_of, waiting_of, state_of, turn_rule, taken_by}
use Rattle.wap_session.specs.inside.Pressing.{press_rule}
use Rattle.wap_session.proofs.Alone.{alone}
use Rattle.wap_session.proofs.Rules.{LeadsTo}

-- ---- pushes with the same winners

-- pushes, and winners of them that are kept
kept_alike : (pushes winners : List Indication) → HaveWinners pushes winners
    → Alike pushes winners
kept_alike pushes winners have =
    let are : winners ≡ winners_of pushes = (exactly pushes winners).0 have in
    let own : winners ≡ winners_of winners =
    (exactly winners winners).0 (winners_win pushes winners have) in
    sym are ∙ own

-- they come to the same
from_alike : (pages : Pages) (o : Option Waits) (w : World) (a b : List Indication) → Alike a b
    → (keys : List Key)
    → StepAlike (played_from push_at fragment_call pages
    (record { phone = record { world = w; pushes = a }; waiting = o }) keys)
    (played_from push_at fragment_call pages
    (record { phone = record { world = w; pushes = b }; waiting = o }) keys)
from_alike pages o w a b alike keys =
    let left = left_over fragment_call pages o keys w in
    let rest = plays_alike push_at (site_of pages) left.keys left.world a b alike in
    record { step = ap (then_step left) rest.step; pushes = rest.pushes }

pub stands_for : (pages : Pages) (state : State) (pushes : List Indication)
    → HaveWinners pushes state.winners → (keys : List Key)
    → StepAlike (played_from push_at fragment_call pages (between pushes state) keys)
    (stepped_of pages keys state)
stands_for pages state pushes have keys =
    from_alike pages state.waiting state.browser.world pushes state.winners
    (kept_alike pushes state.winners have) keys

-- ---- a key that is played alone

-- what it does and takes
turned_is : (pages : Pages) (o : Option Waits) (phone : Phone) (key : Key) (keys : List Key)
    → turned push_at fragment_call pages o phone key keys
    ≡ record {
      step = turn_rule o phone.pushes key pages keys phone.world;
      pushes = taken_by o phone.pushes key;
    }
turned_is pages None phone key keys = refl
turned_is pages (Some waits) phone key keys = refl

module _ (key : Key) (old : State) where
  abbrev phone : Phone
  phone = record { world = old.browser.world; pushes = old.winners }

  pub stepped_is : (pages : Pages) → stepped_of pages (key ∷ []) old ≡ record {
    step = turn_rule old.waiting old.winners key pages [] old.browser.world;
    pushes = taken_by old.waiting old.winners key;
  }
  stepped_is pages =
      alone pages old.waiting phone key ∙ turned_is pages old.waiting phone key []

  -- a fact of what the key did is one of the key played alone
  asked_by : {after : Seen} (Fact : List Asked → Type 0)
      → IfOver after old.browser
      (λ pages. Fact (turn_rule old.waiting old.winners key pages [] old.browser.world).asked)
      → IfOver after old.browser (λ pages. Fact (step_of pages (key ∷ []) old).asked)
  asked_by Fact so judged may is =
      subst Fact (sym (ap (λ (x : Stepped). x.step.asked) (stepped_is (unit_pages judged))))
      (so judged may is)

  -- ---- where it leads

  module _ (new : State) (did : Did) (waits : new.waiting ≡ waiting_in did) where
    -- what it left to further keys
    pub turns_by : (pages : Pages)
        → Follows pages (turn_rule old.waiting old.winners key pages) old.browser new.browser did
        → TurnsTo key pages old new
    turns_by pages follows keys =
        let step = turn_rule old.waiting old.winners key pages [] old.browser.world in
        let taken = taken_by old.waiting old.winners key in
        turned_is pages old.waiting phone key keys
        ∙ ap (λ (s : Step). record { step = s; pushes = taken }) (follows.on keys)
        ∙ ap (λ (waiting : Option Waits). record {
          step = meaning fragment_call pages
              (record { step = left_open step; waiting = waiting }) keys;
          pushes = taken;
        }) (sym waits)
        ∙ ap (λ (x : Stepped). record {
          step = meaning fragment_call pages
              (record { step = left_open x.step; waiting = new.waiting }) keys;
          pushes = x.pushes;
        }) (sym (stepped_is pages))

    -- and so what these come to
    further : (pages : Pages)
        → Follows pages (turn_rule old.waiting old.winners key pages) old.browser new.browser did
        → HaveWinners (stepped_of pages (key ∷ []) old).pushes new.winners → (others : List Key)
        → StepAlike (stepped_of pages (key ∷ others) old) (record {
          step = then_step (left_open (step_of pages (key ∷ []) old)) (step_of pages others new);
          pushes = (stepped_of pages others new).pushes;
        })
    further pages follows have others =
        let done = stepped_of pages (key ∷ []) old in
        let fed = feeds push_at fragment_call pages (between old.winners old) key
        (record {
          fed = record { step = left_open done.step; waiting = new.waiting };
          pushes = done.pushes;
        }) (turns_by pages follows) others in
        let same = from_alike pages new.waiting done.step.world done.pushes new.winners
        (kept_alike done.pushes new.winners have) others in
        let there : done.step.world ≡ new.browser.world =
        ap (λ (x : Stepped). x.step.world) (stepped_is pages) ∙ sym follows.leads in
        let last : World → Stepped = λ w. played_from push_at fragment_call pages
        (record { phone = record { world = w; pushes = new.winners }; waiting = new.waiting })
        others in
        record {
          step = ap (λ (x : Stepped). x.step) fed
              ∙ ap (then_step (left_open done.step))
              (same.step ∙ ap (λ (w : World). (last w).step) there);
          pushes = ap (λ (x : Stepped). winners_of x.pushes) fed
              ∙ same.pushes
              ∙ ap (λ (w : World). winners_of (last w).pushes) there;
        }

    -- where it leads, with its lines as they are shown
    leads_by : (lines : List (List ℕ)) → lines ≡ map shown_text (lines_in did)
        → HaveWinners (taken_by old.waiting old.winners key) new.winners → (pages : Pages)
        → Follows pages (turn_rule old.waiting old.winners key pages) old.browser new.browser did
        → Leads (key ∷ []) pages old new lines
    leads_by lines shown have pages follows =
        let one = stepped_is pages in
        let inbox = subst (λ (x : Stepped). HaveWinners x.pushes new.winners) (sym one) have in
        record {
          world = follows.leads ∙ sym (ap (λ (x : Stepped). x.step.world) one);
          over = follows.over;
          asks_user = ap is_some waits ∙ sym follows.asks_user
              ∙ sym (ap (λ (x : Stepped). x.step.is_open) one);
          inbox = inbox;
          tells = shown ∙ ap (map shown_text) follows.tells
              ∙ sym (ap (λ (x : Stepped). shown_by x.step) one);
          on = λ others. (further pages follows inbox others).step;
          takes_on = λ others. (further pages follows inbox others).pushes;
        }

    -- a key that was played
    pub played_ok : {before after : Seen} (lines : List (List ℕ))
        → lines ≡ map shown_text (lines_in did) → new.is_over ≡ false → old.is_over ≡ false
        → HaveWinners (taken_by old.waiting old.winners key) new.winners
        → Acts (turn_rule old.waiting old.winners key) before after old.browser new.browser
        (Ok did)
        → Plays (key ∷ []) before after old new (Ok lines)
    played_ok {before} {after} lines shown ready going have so = record {
      leads = λ judged may is.
          leads_by lines shown have (unit_pages judged) (so.follows judged may is);
      asks = asked_by (λ asked. Asks asked before after) so.asks;
      steady = so.steady;
      failed = λ is. absurd cc;
      ended = λ over. absurd cc;
      goes_on = λ is. tt;
      ready = ready;
      over = tt;
      stays = so.stays;
    }

  -- the store failed at one of its pages
  pub missed_at : {before after : Seen} {last : Browser} (fault : RunErr)
      → Acts (turn_rule old.waiting old.winners key) before after old.browser last (Err fault)
      → ◌≡◌ {A = Result (List (List ℕ)) SessionFault} (Err (fault_of fault)) (Err Store)
      → IfOver after old.browser
      (λ pages. Fails (step_of pages (key ∷ []) old).asked before after)
  missed_at {before} {after} run.Store so is =
      asked_by (λ asked. Fails asked before after) (so.missed refl)
  missed_at run.NoMemory so is = absurd cc

-- ---- a key outside a dialog

-- a key that has its turns
rest_first : (key : Key) (pushes : List Indication) (old : Browser)
    → LeadsTo [] (press_rule (place_held old) pushes key) (turn_rule None pushes key)
    (record old { world = renewed old.world }) old
unfolding units_site
rest_first key pushes old pages over = (
  over,
  λ keys.
      ap (λ (p : Option Place). press_rule p pushes key pages keys (renewed old.world))
      (held_now (shelf_of pages) old over),
)

-- where they were given to it
pub rest_leads : (key : Key) (pushes : List Indication) (old mid : Browser) (budget : ℕ)
    → mid ≡ record old { world = record old.world { budget = budget; turns = budget } }
    → budget ≡ old.world.budget
    → LeadsTo [] (press_rule (place_held mid) pushes key) (turn_rule None pushes key) mid old
rest_leads key pushes old mid budget began is =
    subst (λ (browser : Browser).
    LeadsTo [] (press_rule (place_held browser) pushes key) (turn_rule None pushes key) browser old)
    (sym (began ∙ ap (λ (n : ℕ). record old { world = record old.world { budget = n; turns = n } })
    is))
    (rest_first key pushes old)

-- ---- a session by its browser and how it stands

pub in_session : (key : Key) (first : Browser) (winners : List Indication) {before after : Seen}
    {last : Browser} {standing inside : Standing} {old : State} {result : Result Did RunErr}
    → standing ≡ inside → state_of first inside winners ≡ old
    → Acts (turn_rule (waiting_of standing) winners key) before after first last result
    → Acts (turn_rule old.waiting old.winners key) before after old.browser last result
in_session key first winners {before} {after} {last} {result = result} is was =
    subst (λ (state : State). Acts (turn_rule state.waiting state.winners key) before after
    state.browser last result)
    (ap (λ (how : Standing). state_of first how winners) is ∙ was)

-- and what it takes there
pub taken_in : (key : Key) (first : Browser) (winners : List Indication) {last : List Indication}
    {standing inside : Standing} {old : State} → standing ≡ inside
    → state_of first inside winners ≡ old
    → HaveWinners (taken_by (waiting_of standing) winners key) last
    → HaveWinners (taken_by old.waiting old.winners key) last
taken_in key first winners {last} is was =
    subst (λ (state : State). HaveWinners (taken_by state.waiting state.winners key) last)
    (ap (λ (how : Standing). state_of first how winners) is ∙ was)
