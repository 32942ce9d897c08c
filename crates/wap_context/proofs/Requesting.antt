-- Navigations of a browser over pages that are known, with any keys after them: each from what it
-- finds at the place at hand, and from the page that answers.
use Rattle.std.proofs.Common.{◌≡◌, ◌∙◌, ◌≤◌, ℕ, ◌+◌, List, [], ◌∷◌, Option, Some, None, Ok, Err}
use Rattle.std.proofs.Common.{refl, sym, ap, subst, arith, false}
use Rattle.std.specs.Prelude.{Result, IfOk, IfSome, IsErr, IsErrAnd}
use Rattle.std.proofs.lemmas.Bool.{false≢true}
use Rattle.wap_base.proofs.Choices.{ok_same}
use Rattle.wap_base.specs.declared.fault.RunErr.{RunErr}
use Rattle.wap_base.specs.declared.fault.RunErr.TheVariants.{NoMemory}
use Rattle.wap_url.specs.declared.url.Url.{Url}
use Rattle.wap_url.specs.Printing.{name_for}
use Rattle.wap_tokens.specs.declared.markup.deck.Deck.{Deck}
use Rattle.wap_unit.specs.declared.unit.Unit.{Unit}
use Rattle.wap_base.specs.declared.key.Key.{Key}
use Rattle.wap_cardrules.specs.declared.task.Task.{Task}
use Rattle.wap_cardrules.specs.declared.task.Task.TheVariants as task
use Rattle.wap_cardrules.specs.declared.task.Go.{Go}
use Rattle.wap_cardrules.specs.Values.{Pairs}
use Rattle.wap_world.specs.declared.site.page.Page.{Page as JudgedPage}
use Rattle.wap_world.specs.declared.site.page.Page.TheVariants as judged_page
use Rattle.wap_world.specs.site.Pages.{Pages as JudgedPages, page_of, AreSitePages}
use Rattle.wap_world.specs.site.Asking.{Seen, Asks}
use Rattle.wap_world.specs.site.Misses.{Asked as Question}
use Rattle.wap_world.specs.declared.history.Entry.{Entry}
use Rattle.wap_world.specs.declared.refusal.Refusal.{Refusal}
use Rattle.wap_world.specs.declared.refusal.Refusal.TheVariants as refusals
use Rattle.wap_world.specs.Shelves.{Shelf, Shelved, deck_page}
use Rattle.wap_world.specs.World.{Place, deck_in}
use Rattle.wap_world.specs.Steps.{Once, Next, quiet, settled, after_step}
use Rattle.wap_world.specs.Requests.{Request, plain_get, ask, answer_to}
use Rattle.wap_world.specs.Tasks.{refusing, unless_refused, deck_or_refusal, arrive, try_deck}
use Rattle.wap_world.specs.Tasks.{return}
use Rattle.wap_world.specs.Tasks.{request, answered, returned, ask_back, stay_or_ask, base_url}
use Rattle.wap_world.specs.Tasks.{back_from, go, open_url, prev, refresh, task_by, try_script}
use Rattle.wap_world.proofs.Leaving.{found_leaves, arrive_leaves, try_leaves, return_leaves}
use Rattle.wap_world.proofs.Joining.{once_before}
use Rattle.wap_world.specs.scripting.UnitSites.{Pages, shelf_of, unit_pages, unit_script}
use Rattle.wap_world.specs.scripting.UnitSites.{units_site}
use Rattle.wap_context.specs.host.Finding.{shelved_page}
use Rattle.wap_context.proofs.HostLemmas.Shelves.{shelved_is}
use Rattle.wap_state.specs.Scenes.{Line}
use Rattle.wap_context.specs.declared.waiting.Went.{Went}
use Rattle.wap_context.specs.declared.waiting.Went.TheVariants.{Settled}
use Rattle.wap_context.specs.Browsers.{Browser, IsOver, place_held, Shows}
use Rattle.wap_context.specs.Sites.{site_of}
use Rattle.wap_context.specs.inside.AtHand.{page_under, page_here}
use Rattle.wap_context.specs.inside.Moving.{Moves, HasDeck, Answers}
use Rattle.wap_context.specs.inside.Moving.{page_answer, Asked, Takes, Onces}
use Rattle.wap_context.specs.inside.Moving.{SpendsOne, HasNone}
use Rattle.wap_context.specs.inside.Starting.{call_at}
use Rattle.wap_world.specs.scripting.Units.{entrance_in}
use Rattle.wap_context.proofs.HeldDecks.{Page, under_has, here_has}
use Rattle.wap_context.proofs.Arrivals.{entered_deck, moves_settled}
use Rattle.wap_context.proofs.Navigations.{answered_is, stay_by, stay_is, back_by, back_is}
use Rattle.wap_context.proofs.Navigations.{Turned, turned, turn_is, turn_none, over_turn}
use Rattle.wap_context.proofs.Takings.{Rule, takes_moves, takes_from, takes_after}
use Rattle.wap_context.proofs.Takings.{After, told_asked, takes_by, takes_rejected, takes_missed}
use Rattle.wap_context.proofs.Takings.{onces_from}
use Rattle.wap_context.proofs.Scripts.{script_is}

-- ---- the site of known pages has their shelf

-- what stands under a name, as the rules see it
answer_is : (judged : JudgedPages) (one : Request) (page : JudgedPage) → AreSitePages judged
    → page ≡ page_of (name_for one.url) judged
    → shelf_of (unit_pages judged) (name_for one.url) ≡ shelved_page page
answer_is judged one page site is =
    shelved_is (name_for one.url) judged site ∙ ap shelved_page (sym is)

-- a deck that answers stands there
deck_is : (there shown : Shelved) (answer : Result Deck Refusal) → there ≡ shown
    → answer ≡ deck_or_refusal shown → IfOk answer (λ deck. deck_in there ≡ Some deck)
deck_is there (deck_page deck) (Ok other) same is =
    ap deck_in same ∙ ap Some (sym (ok_same other deck is))
deck_is there shown (Err why) same is = tt
deck_is there _ (Ok other) same is = absurd (cc)

-- a page that is a script
is_script : (page : JudgedPage) (unit : Unit) → page_answer page ≡ Err unit
    → page ≡ judged_page.Script unit
is_script (judged_page.Script other) unit is = cc
is_script _ unit is = absurd (cc)

module _ (seen : Seen) (old new : Browser) (before : List Line) where
  -- the place at hand
  abbrev place : Option Place
  place = place_held old

  -- a rule that comes to a navigation that starts no script
  pub moves_takes : (rule : Rule) (shown : List Line) (went : Went) (once : Once)
      (IsSuch : Shelf → Type 0)
      → ((pages : Pages) → IsOver (shelf_of pages) old → IsSuch (shelf_of pages))
      → ((pages : Pages) (keys : List Key) → rule pages keys old.world ≡ once_before keys once)
      → Moves once None IsSuch old new before shown went
      → Takes rule seen seen old new before shown (Ok went)
  moves_takes rule shown went once IsSuch such is moves =
      takes_moves rule seen old new before shown went once IsSuch moves
      (λ judged may over. let pages = unit_pages judged in (such pages over, is pages))

  -- a refusal
  pub refused_takes : (rule : Rule) (shown : List Line) (went : Went) (refusal : Refusal)
      → ((pages : Pages) (keys : List Key)
      → rule pages keys old.world ≡ refusing place keys refusal old.world)
      → Moves (refusing place [] refusal old.world) None (λ shelf. IsOver shelf old) old new before
      shown went
      → Takes rule seen seen old new before shown (Ok went)
  refused_takes rule shown went refusal is moves =
      moves_takes rule shown went (refusing place [] refusal old.world)
      (λ shelf. IsOver shelf old) (λ pages over. over) is moves

  -- ---- a request, and what answers

  -- a rule for a request is its step, and then a rule for the page
  abbrev Asking : Pairs → Option Url → Request → Rule
  Asking sets caller one pages keys world =
      request (site_of pages) place keys sets caller one world

  abbrev Answering : Pairs → Option Url → Request → Rule
  Answering sets caller one pages keys world =
      answered (site_of pages) place keys sets caller one.url world
      (answer_to (shelf_of pages) one)

  asked_after : (sets : Pairs) (caller : Option Url) (one : Request) (mid : Seen) (pages : Pages)
      → Asks ((name_for one.url, one.fresh) ∷ []) seen mid
      → After (Asking sets caller one) (Answering sets caller one) (ask [] one old.world) seen mid
      old pages
  unfolding units_site
  asked_after sets caller one mid pages asks = (asks, λ keys. refl)

  -- what answers, where no script is started
  abbrev tries : Pairs → Option Url → Url → List Key → Deck → Once
  tries sets caller url keys = try_deck place keys sets caller url old.world

  abbrev Answered : Pairs → Option Url → Request → Result Deck Refusal → Pages → Type 0
  Answered sets caller one answer pages = Answers one.url answer old (shelf_of pages)
      × ((keys : List Key) → Answering sets caller one pages keys old.world
      ≡ once_before keys
      (unless_refused place [] old.world (tries sets caller one.url []) answer))

  answered_law : (sets : Pairs) (caller : Option Url) (one : Request) (page : JudgedPage)
      (answer : Result Deck Refusal) → page_answer page ≡ Ok answer
      → (judged : JudgedPages) → AreSitePages judged
      → IsOver (shelf_of (unit_pages judged)) old → page ≡ page_of (name_for one.url) judged
      → Answered sets caller one answer (unit_pages judged)
  unfolding units_site
  answered_law sets caller one page answer entered judged site over answers =
      let pages = unit_pages judged in
      let there = answer_is judged one page site answers in (
        (
          over,
          deck_is (shelf_of pages (name_for one.url)) (shelved_page page) answer there
              (entered_deck page answer entered),
        ),
        λ keys. ap (answered (site_of pages) place keys sets caller one.url old.world) there
            ∙ answered_is (site_of pages) place keys old.world sets caller one.url page answer
            entered
            ∙ found_leaves place old.world (tries sets caller one.url) answer
            (try_leaves place sets caller one.url old.world) keys,
      )

  -- a deck, or a page that isn't entered
  pub request_takes : (sets : Pairs) (caller : Option Url) (one : Request) (after : Seen)
      (mid shown : List Line) (went : Went) (page : JudgedPage)
      (answer : Result Deck Refusal) (url : Url) → url ≡ one.url
      → Asked one seen after before mid (Ok page) → page_answer page ≡ Ok answer
      → Moves (unless_refused place [] old.world (tries sets caller url []) answer) None
      (Answers url answer old) old new mid shown went
      → Takes (Asking sets caller one) seen after old new before shown (Ok went)
  request_takes sets caller one after mid shown went page answer url is asked entered moves =
      takes_after (Asking sets caller one) (Answering sets caller one) (ask [] one old.world)
      seen after after old new before mid shown (Ok went) asked.lines refl asked.stays
      asked.asks.steady
      (λ judged may over. asked_after sets caller one after (unit_pages judged) asked.asks)
      (takes_moves (Answering sets caller one) after old new mid shown went
      (unless_refused place [] old.world (tries sets caller one.url []) answer)
      (Answers one.url answer old)
      (subst (λ (u : Url).
      Moves (unless_refused place [] old.world (tries sets caller u []) answer) None
      (Answers u answer old) old new mid shown went) is moves)
      (told_asked one seen after old before mid page (Answered sets caller one answer) asked
      (answered_law sets caller one page answer entered)))

  -- a script
  abbrev Trying : Pairs → Option Url → Url → Unit → Rule
  Trying sets caller url unit pages keys world =
      try_script (shelf_of pages) (unit_script pages unit) place keys sets caller url world
      (call_at url) (entrance_in unit)

  abbrev Started : Pairs → Option Url → Request → Unit → Pages → Type 0
  Started sets caller one unit pages = (keys : List Key)
      → Trying sets caller one.url unit pages keys old.world
      ≡ Answering sets caller one pages keys old.world

  started_law : (sets : Pairs) (caller : Option Url) (one : Request) (page : JudgedPage)
      (unit : Unit) → page_answer page ≡ Err unit
      → (judged : JudgedPages) → AreSitePages judged
      → IsOver (shelf_of (unit_pages judged)) old → page ≡ page_of (name_for one.url) judged
      → Started sets caller one unit (unit_pages judged)
  unfolding units_site
  started_law sets caller one page unit entered judged site over answers keys =
      let same = is_script page unit entered in
      script_is judged unit (name_for one.url) (sym answers ∙ same) place keys sets caller one.url
      refl old.world
      ∙ ap (answered (site_of (unit_pages judged)) place keys sets caller one.url old.world)
      (sym (answer_is judged one page site answers ∙ ap shelved_page same))

  pub request_starts : (sets : Pairs) (caller : Option Url) (one : Request) (mid after : Seen)
      (line shown : List Line) (result : Result Went RunErr) (page : JudgedPage) (unit : Unit)
      (url : Url) → url ≡ one.url
      → Asked one seen mid before line (Ok page) → page_answer page ≡ Err unit
      → Takes (Trying sets caller url unit) mid after old new line shown result
      → Takes (Asking sets caller one) seen after old new before shown result
  request_starts sets caller one mid after line shown result page unit url is asked entered takes =
      let same = subst (λ (u : Url).
      Takes (Trying sets caller u unit) mid after old new line shown result) is takes in
      takes_after (Asking sets caller one) (Trying sets caller one.url unit)
      (ask [] one old.world) seen mid after old new before line shown result asked.lines refl
      asked.stays asked.asks.steady
      (told_asked one seen mid old before line page
      (After (Asking sets caller one) (Trying sets caller one.url unit) (ask [] one old.world)
      seen mid old) asked
      (λ judged site over answers. (
        asked.asks,
        λ keys. (asked_after sets caller one mid (unit_pages judged) asked.asks).1 keys
            ∙ ap (after_step (ask [] one old.world))
            (sym (started_law sets caller one page unit entered judged site over answers keys)),
      )))
      same

  -- the request is the first that is asked for
  pub request_first : (sets : Pairs) (caller : Option Url) (one : Request) (pages : Pages)
      → (rest : List Question)
      × ((request (site_of pages) place [] sets caller one old.world).step.asked
      ≡ (name_for one.url, one.fresh) ∷ rest)
  request_first sets caller one pages = (_, refl)

  pub back_first : (sets : Pairs) (earlier : Entry) (pages : Pages)
      → (rest : List Question)
      × ((ask_back (shelf_of pages) place [] sets earlier old.world).step.asked
      ≡ (name_for earlier.url, false) ∷ rest)
  back_first sets earlier pages = (_, refl)

  -- ---- stay, or ask

  abbrev pub StaysOrAsks : Pairs → Option Url → Request → Rule
  StaysOrAsks sets caller one pages keys world =
      stay_or_ask (site_of pages) place keys sets caller one world

  pub stay_arrives : (sets : Pairs) (caller : Option Url) (one : Request) (shown : List Line)
      (went : Went) (found : Option Page) (page : Page) (url : Url)
      → found ≡ page_here one place → found ≡ Some page
      → url ≡ record page.0 { fragment = one.url.fragment }
      → Moves (arrive place [] sets url old.world page.1) None (HasDeck url page.1) old new before
      shown went
      → Takes (StaysOrAsks sets caller one) seen seen old new before shown (Ok went)
  stay_arrives sets caller one shown went found page url here is same moves =
      let at = record page.0 { fragment = one.url.fragment } in
      moves_takes (StaysOrAsks sets caller one) shown went
      (arrive place [] sets at old.world page.1) (HasDeck at page.1)
      (λ pages over. here_has old one page (sym is ∙ here) (shelf_of pages) over)
      (λ pages keys. stay_is (site_of pages) keys old.world sets caller one place
      ∙ ap (stay_by (site_of pages) place keys old.world sets caller one) (sym here ∙ is)
      ∙ arrive_leaves place sets at old.world page.1 keys)
      (subst (λ (u : Url). Moves (arrive place [] sets u old.world page.1) None
      (HasDeck u page.1) old new before shown went) same moves)

  pub stay_asks : (sets : Pairs) (caller : Option Url) (one : Request) (after : Seen)
      (shown : List Line) (found : Option Page) (result : Result Went RunErr)
      → found ≡ page_here one place → found ≡ None
      → Takes (Asking sets caller one) seen after old new before shown result
      → Takes (StaysOrAsks sets caller one) seen after old new before shown result
  stay_asks sets caller one after shown found result here is takes =
      takes_from (StaysOrAsks sets caller one) (Asking sets caller one) seen after old new before
      shown result
      (λ pages over keys. sym (stay_is (site_of pages) keys old.world sets caller one place
      ∙ ap (stay_by (site_of pages) place keys old.world sets caller one) (sym here ∙ is))) takes

  -- ---- back

  abbrev pub GoesBack : Pairs → Entry → Rule
  GoesBack sets earlier pages keys world =
      back_from (shelf_of pages) place keys sets earlier world

  abbrev pub AsksBack : Pairs → Entry → Rule
  AsksBack sets earlier pages keys world = ask_back (shelf_of pages) place keys sets earlier world

  abbrev Returning : Pairs → Entry → Rule
  Returning sets earlier pages keys world =
      returned place keys sets earlier world (answer_to (shelf_of pages) (plain_get earlier.url))

  abbrev returns : Pairs → Entry → List Key → Deck → Once
  returns sets earlier keys = return place keys sets earlier old.world

  abbrev Returned : Pairs → Entry → Result Deck Refusal → Pages → Type 0
  Returned sets earlier answer pages = Answers earlier.url answer old (shelf_of pages)
      × ((keys : List Key) → Returning sets earlier pages keys old.world
      ≡ once_before keys (unless_refused place [] old.world (returns sets earlier []) answer))

  returned_law : (sets : Pairs) (earlier : Entry) (page : JudgedPage)
      (answer : Result Deck Refusal) → answer ≡ deck_or_refusal (shelved_page page)
      → (judged : JudgedPages) → AreSitePages judged
      → IsOver (shelf_of (unit_pages judged)) old → page ≡ page_of (name_for earlier.url) judged
      → Returned sets earlier answer (unit_pages judged)
  returned_law sets earlier page answer is judged site over answers =
      let pages = unit_pages judged in
      let there = answer_is judged (plain_get earlier.url) page site answers in (
        (
          over,
          deck_is (shelf_of pages (name_for earlier.url)) (shelved_page page) answer there is,
        ),
        λ keys. ap (unless_refused place keys old.world (returns sets earlier keys))
            (ap deck_or_refusal there ∙ sym is)
            ∙ found_leaves place old.world (returns sets earlier) answer
            (return_leaves place sets earlier old.world) keys,
      )

  pub back_takes : (sets : Pairs) (earlier : Entry) (after : Seen) (mid shown : List Line)
      (went : Went) (page : JudgedPage) (answer : Result Deck Refusal)
      → Asked (plain_get earlier.url) seen after before mid (Ok page)
      → answer ≡ deck_or_refusal (shelved_page page)
      → Moves (unless_refused place [] old.world (returns sets earlier []) answer) None
      (Answers earlier.url answer old) old new mid shown went
      → Takes (AsksBack sets earlier) seen after old new before shown (Ok went)
  back_takes sets earlier after mid shown went page answer asked is moves =
      let get = plain_get earlier.url in
      takes_after (AsksBack sets earlier) (Returning sets earlier) (ask [] get old.world)
      seen after after old new before mid shown (Ok went) asked.lines refl asked.stays
      asked.asks.steady
      (λ judged may over. (asked.asks, λ keys. refl))
      (takes_moves (Returning sets earlier) after old new mid shown went
      (unless_refused place [] old.world (returns sets earlier []) answer)
      (Answers earlier.url answer old) moves
      (told_asked get seen after old before mid page (Returned sets earlier answer) asked
      (returned_law sets earlier page answer is)))

  pub back_returns : (sets : Pairs) (earlier : Entry) (shown : List Line) (went : Went)
      (found : Option Page) (page : Page) (card : Entry)
      → found ≡ page_under earlier.url place → found ≡ Some page
      → card ≡ record earlier { url = page.0 }
      → Moves (return place [] sets card old.world page.1) None
      (HasDeck card.url page.1) old new before shown went
      → Takes (GoesBack sets earlier) seen seen old new before shown (Ok went)
  back_returns sets earlier shown went found page card here is same moves =
      let at = record earlier { url = page.0 } in
      moves_takes (GoesBack sets earlier) shown went (return place [] sets at old.world page.1)
      (HasDeck page.0 page.1)
      (λ pages over. under_has old earlier.url page (sym is ∙ here) (shelf_of pages) over)
      (λ pages keys. back_is (shelf_of pages) keys old.world sets earlier place
      ∙ ap (back_by (shelf_of pages) keys old.world place sets earlier) (sym here ∙ is)
      ∙ return_leaves place sets at old.world page.1 keys)
      (subst (λ (e : Entry). Moves (return place [] sets e old.world page.1) None
      (HasDeck e.url page.1) old new before shown went) same moves)

  pub back_asks : (sets : Pairs) (earlier : Entry) (after : Seen) (shown : List Line)
      (found : Option Page) (result : Result Went RunErr)
      → found ≡ page_under earlier.url place → found ≡ None
      → Takes (AsksBack sets earlier) seen after old new before shown result
      → Takes (GoesBack sets earlier) seen after old new before shown result
  back_asks sets earlier after shown found result here is takes =
      takes_from (GoesBack sets earlier) (AsksBack sets earlier) seen after old new before shown
      result
      (λ pages over keys. sym (back_is (shelf_of pages) keys old.world sets earlier place
      ∙ ap (back_by (shelf_of pages) keys old.world place sets earlier) (sym here ∙ is))) takes

-- ---- what failed

-- the store failed at the page that was asked for
pub page_missed : (rule : Rule) (one : Request) (seen after : Seen) (old new : Browser)
    (before shown : List Line) (err : RunErr) (result : Result Went RunErr) → result ≡ Err err
    → ((pages : Pages) → (rest : List Question)
    × ((rule pages [] old.world).step.asked ≡ (name_for one.url, one.fresh) ∷ rest))
    → Asked one seen after before shown (Err err)
    → Takes rule seen after old new before shown result
page_missed rule one seen after old new before shown err result is first so =
    subst (λ (r : Result Went RunErr). Takes rule seen after old new before shown r) (sym is)
    (takes_missed rule one seen after old new before shown err first so)

-- out of memory
pub onces_rejected : {rule : Rule} {seen : Seen} {old new : Browser} {before shown : List Line}
    (result : Result Went RunErr) → IsErr result → IsErrAnd result (λ err. err ≡ NoMemory)
    → Onces rule seen seen old new before shown result
onces_rejected (Ok went) is so = absurd (false≢true is)
onces_rejected (Err err) is so = record { takes = takes_rejected (Err err) is so; spends = tt }

-- ---- tasks

module _ (seen : Seen) (old new : Browser) (before : List Line) where
  -- a task that is taken where the browser is
  abbrev pub Tasks : Task → Option Url → Rule
  Tasks one from pages keys world =
      task_by (site_of pages) (place_held old) keys world from one

  -- a navigation before which a turn was taken
  pub turn_onces : (rule : Rule) (next : Pages → List Key → Turned) (mid : Browser) (after : Seen)
      (shown : List Line) (result : Result Went RunErr)
      → ((pages : Pages) (keys : List Key)
      → turned keys (next pages keys) old ≡ rule pages keys old.world)
      → SpendsOne old mid
      → Takes (λ pages keys. next pages keys (place_held mid)) seen after mid new before shown
      result
      → Onces rule seen after old new before shown result
  turn_onces rule next mid after shown result is spent takes =
      onces_from rule (λ pages keys. next pages keys (place_held mid)) seen after old mid new before
      shown result (λ pages over. over_turn (shelf_of pages) old mid spent.is over)
      (λ pages over keys. turn_is old mid keys (next pages keys) spent.is spent.one
      ∙ is pages keys) spent.one takes

  -- one for which none was left
  pub budget_onces : (rule : Rule) (next : Pages → List Key → Turned) (mid : Browser)
      (shown : List Line) (went : Went)
      → ((pages : Pages) (keys : List Key)
      → turned keys (next pages keys) old ≡ rule pages keys old.world)
      → HasNone old mid
      → Moves (refusing (place_held mid) [] refusals.Budget mid.world) None
      (λ shelf. IsOver shelf mid) mid new before shown went
      → Onces rule seen seen old new before shown (Ok went)
  budget_onces rule next mid shown went is without moves =
      let refuses : Rule = λ pages keys. refusing (place_held mid) keys refusals.Budget in
      record {
        takes = takes_by rule refuses seen seen old mid new before shown (Ok went)
            (λ pages over. subst (IsOver (shelf_of pages)) (sym without.same) over)
            (λ pages over keys. turn_none old mid keys (next pages keys) without.same without.none
            ∙ is pages keys)
            (omega (arith, ap (λ (b : Browser). b.world.turns) without.same))
            (refused_takes seen mid new before refuses shown went refusals.Budget
            (λ pages keys. refl) moves);
        spends =
            subst (λ (o : Option Next). IfSome o (λ one. new.world.turns + 1 ≤ old.world.turns))
            (sym moves.leads) tt;
      }

  -- the turns of each task
  abbrev pub goes : Go → Option Url → Pages → List Key → Turned
  goes one from pages keys place = go (site_of pages) place keys (base_url place from) one

  abbrev pub prevs : Pairs → Pages → List Key → Turned
  prevs sets pages keys place = prev (shelf_of pages) place keys sets

  abbrev pub opens : List ℕ → Pages → List Key → Turned
  opens text pages keys place = open_url (site_of pages) place keys text

  pub go_turns : (taken : Task) (one : Go) (from : Option Url) → taken ≡ task.Go one
      → (pages : Pages) (keys : List Key)
      → turned keys (goes one from pages keys) old ≡ Tasks taken from pages keys old.world
  go_turns taken one from is pages keys =
      sym (ap (λ (t : Task). Tasks t from pages keys old.world) is)

  pub prev_turns : (taken : Task) (sets : Pairs) (from : Option Url) → taken ≡ task.Prev sets
      → (pages : Pages) (keys : List Key)
      → turned keys (prevs sets pages keys) old ≡ Tasks taken from pages keys old.world
  unfolding units_site
  prev_turns taken sets from is pages keys =
      sym (ap (λ (t : Task). Tasks t from pages keys old.world) is)

  -- a refresh takes no turn, and leads to no other task
  pub refresh_onces : (shown : List Line) (taken : Task) (sets : Pairs) (from : Option Url)
      → taken ≡ task.Refresh sets → Shows (λ place. refresh place sets) old new before shown
      → Onces (Tasks taken from) seen seen old new before shown (Ok Settled)
  refresh_onces shown taken sets from is plays = record {
    takes = moves_takes seen old new before (Tasks taken from) shown Settled
        (settled (quiet [] (refresh (place_held old) sets old.world)))
        (λ shelf. IsOver shelf old) (λ pages over. over)
        (λ pages keys. ap (λ (t : Task). Tasks t from pages keys old.world) is)
        (moves_settled (λ place. refresh place sets) old new before shown plays);
    spends = tt;
  }
