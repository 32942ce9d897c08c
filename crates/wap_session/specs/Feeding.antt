-- What a session is seen as, and what keys come to. This project's own.
use Rattle.std.specs.Prelude.{◌≡◌, Bool, true, false, not, ◌&&◌, if◌then◌else◌, ◌<◌}
use Rattle.std.specs.Prelude.{List, [], ◌∷◌, ◌++◌, Option, Some, None, is_some, is_none}
use Rattle.std.specs.Prelude.{IfOk, IfErr, OnOk, OnErr, ◌≢◌, ℕ, Result, Err}
use Rattle.wap_base.specs.declared.key.Key.{Key}
use Rattle.wap_push.specs.declared.indication.Indication.{Indication}
use Rattle.wap_push.specs.Pushes.{push_at}
use Rattle.wap_push.specs.Inbox.{HaveWinners}
use Rattle.wap_world.specs.site.Asking.{Seen, Stays, Asks, Fails}
use Rattle.wap_world.specs.Steps.{Step, then_step}
use Rattle.wap_world.specs.inboxes.Winners.{Alike}
use Rattle.wap_world.specs.inboxes.Inboxes.{Stepped}
use Rattle.wap_world.specs.Sessions.{shown_by, Begun, world_of}
use Rattle.wap_world.specs.scripting.UnitSites.{Pages, shelf_of}
use Rattle.wap_world.specs.scripting.Waiting.{Waits, State as Between, played_from}
use Rattle.wap_world.specs.scripting.Feeding.{Turns}
use Rattle.wap_context.specs.Browsers.{Browser, IsOver}
use Rattle.wap_context.specs.Sites.{fragment_call, IfOver}
use Rattle.wap_session.specs.declared.fault.SessionFault.{SessionFault}
use Rattle.wap_session.specs.declared.fault.SessionFault.TheVariants.{Store, Ended}

-- a session between two keys: its browser, the script that waits for the answer to a dialog, if one
-- does, the winners of the pushes that were taken, and whether it is over: after a fault it gives
-- no more lines
pub record State : Type 0 where
  pub browser : Browser
  pub waiting : Option Waits
  pub winners : List Indication
  pub is_over : Bool

-- a session in which nothing was done
abbrev pub beginning : Begun → State
beginning begun = record {
  browser = record { world = world_of begun; deck = None };
  waiting = None;
  winners = [];
  is_over = false;
}

-- the browser, unless a script waits or a key failed
abbrev pub context_at_rest : State → Option Browser
context_at_rest state =
    if is_none state.waiting && not state.is_over then Some state.browser else None

-- a session that goes on with a browser, with nothing in its inbox, whose keys have so many turns
abbrev pub going_on : Browser → ℕ → State
going_on browser turns = record {
  browser = record browser {
    world = record browser.world { budget = turns; turns = turns };
  };
  waiting = None;
  winners = [];
  is_over = false;
}

-- ---- what keys come to

-- it counts as each session whose pushes have these winners: the world in which keys are played,
-- and the script that waits for them
abbrev pub between : List Indication → State → Between
between pushes state = record {
  phone = record { world = state.browser.world; pushes = pushes };
  waiting = state.waiting;
}

-- the winners are one such list of pushes themselves: what keys come to over these pages, and the
-- pushes then
abbrev pub stepped_of : Pages → List Key → State → Stepped
stepped_of pages keys state =
    played_from push_at fragment_call pages (between state.winners state) keys

abbrev pub step_of : Pages → List Key → State → Step
step_of pages keys state = (stepped_of pages keys state).step

-- the lines that they show
abbrev pub shown_of : Pages → List Key → State → List (List ℕ)
shown_of pages keys state = shown_by (step_of pages keys state)

-- a step whose dialog is left to further keys
abbrev pub left_open : Step → Step
left_open step = record step { is_open = false }

-- ---- what is played

-- what further keys come to after these keys is what they come to in the new session
abbrev pub PlaysOn : List Key → Pages → State → State → Type 0
PlaysOn keys pages old new = (others : List Key) → step_of pages (keys ++ others) old
    ≡ then_step (left_open (step_of pages keys old)) (step_of pages others new)

-- and they leave pushes with the same winners
abbrev pub TakesOn : List Key → Pages → State → State → Type 0
TakesOn keys pages old new = (others : List Key)
    → Alike (stepped_of pages (keys ++ others) old).pushes (stepped_of pages others new).pushes

-- the lines of keys, and then what any further keys show, are what the keys and these show
abbrev pub ShowsOn : List Key → Pages → State → State → List (List ℕ) → Type 0
ShowsOn keys pages old new lines = (others : List Key)
    → lines ++ shown_of pages others new ≡ shown_of pages (keys ++ others) old

-- a key did what its step says without further keys, and left the rest to these: they answer the
-- dialog that waits now, and are played after it, whatever else they may do there
abbrev pub TurnsTo : Key → Pages → State → State → Type 0
TurnsTo key pages old new =
    let done = stepped_of pages (key ∷ []) old in
    Turns push_at fragment_call pages (between old.winners old) key (record {
      fed = record { step = left_open done.step; waiting = new.waiting };
      pushes = done.pushes;
    })

-- keys lead from one session to another, and show these lines
pub record Leads (keys : List Key) (pages : Pages) (old new : State) (lines : List (List ℕ)) : Type
    0
  where
    -- it stands where the step of the keys leads, over the same pages
    pub world : new.browser.world ≡ (step_of pages keys old).world
    pub over : IsOver (shelf_of pages) new.browser
    -- a script waits exactly where the keys end in its dialog
    pub asks_user : is_some new.waiting ≡ (step_of pages keys old).is_open
    -- its winners are those of the pushes that were taken by then
    pub inbox : HaveWinners (stepped_of pages keys old).pushes new.winners
    pub tells : lines ≡ shown_of pages keys old
    -- further keys go on from there
    pub on : PlaysOn keys pages old new
    pub takes_on : TakesOn keys pages old new

-- keys that are played: pages before and after, the session before and after, and the answer
pub record Plays (keys : List Key) (before after : Seen) (old new : State)
    (result : Result (List (List ℕ)) SessionFault) : Type 0 where
  -- the lines and what is new are those of the step
  pub leads : IfOk result
      (λ lines. IfOver after old.browser (λ pages. Leads keys pages old new lines))
  -- the step's pages were asked for, in order
  pub asks : OnOk result
      (IfOver after old.browser (λ pages. Asks (step_of pages keys old).asked before after))
  pub steady : OnOk result (after.faults ≡ before.faults)
  -- the store failed
  pub failed : result ≡ Err Store → before.faults < after.faults
  -- exactly what is over gives no more lines, and it asks for nothing
  pub ended : old.is_over ≡ true → (result ≡ Err Ended) × (after ≡ before)
  pub goes_on : old.is_over ≡ false → IfErr result (λ fault. fault ≢ Ended)
  pub ready : OnOk result (new.is_over ≡ false)
  pub over : OnErr result (new.is_over ≡ true)
  -- however it ends
  pub stays : Stays before after

-- the store failed at a page of the last of these first keys, and those before it were played
pub record MissedAt (keys : List Key) (pages : Pages) (old : State) (before after : Seen) : Type 0
  where
    pub first : List Key
    pub others : List Key
    pub split : keys ≡ first ++ others
    pub missed : Fails (step_of pages first old).asked before after
