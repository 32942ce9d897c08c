-- The walk through all rules, over two sites at once: over both a key comes to the same, and leaves
-- an invariant of the keys that are left and of the world, or over both it is lost. What holds over
-- one site is the case where both are this one, and nothing is lost (Invariants).
use Rattle.std.proofs.Common.{◌≡◌, ℕ, zero, suc, Bool, true, false, List, [], cond, ltb}
use Rattle.std.proofs.Common.{Option, Some, None, refl, ◌∙◌, subst, ◌≢◌, ◌⊎◌, inl, inr, ◌∷◌}
use Rattle.std.proofs.Common.{◌++◌, sym, ap}
use Rattle.std.specs.Prelude.{Result, Ok, Err, ◌-◌}
use Rattle.std.specs.Option.{option_and_then}
use Rattle.std.specs.List.{flat_map}
use Rattle.wap_cardrules.specs.Timers.{timer_in, timer_variable}
use Rattle.wap_cardrules.specs.Dos.{do_task}
use Rattle.wap_cardrules.specs.Fields.{link_task}
use Rattle.wap_vars.specs.Variables.{Variables}
use Rattle.wap_base.specs.declared.key.Key.{Key}
use Rattle.wap_base.specs.declared.key.Key.TheVariants as key
use Rattle.wap_url.specs.declared.url.Url.{Url}
use Rattle.wap_url.specs.Printing.{name_for, without_fragment}
use Rattle.wap_value.specs.declared.value.Value.{Value}
use Rattle.wap_tokens.specs.declared.markup.deck.Deck.{Deck}
use Rattle.wap_tokens.specs.declared.markup.deck.Node.{Node}
use Rattle.wap_execution.specs.declared.fatal.Fatal.TheVariants as fatal
use Rattle.wap_cardrules.specs.declared.answers.Entered.{Entered}
use Rattle.wap_cardrules.specs.declared.answers.Entered.TheVariants as entered
use Rattle.wap_cardrules.specs.declared.answers.Chosen.{Chosen}
use Rattle.wap_cardrules.specs.declared.answers.Chosen.TheVariants as chosen
use Rattle.wap_cardrules.specs.declared.event.Event.{Event}
use Rattle.wap_cardrules.specs.declared.event.Event.TheVariants as event
use Rattle.wap_cardrules.specs.declared.task.Task.{Task}
use Rattle.wap_cardrules.specs.declared.task.Task.TheVariants as task
use Rattle.wap_cardrules.specs.declared.task.Go.{Go}
use Rattle.wap_cardrules.specs.Values.{Pairs}
use Rattle.wap_cardrules.specs.Entering.{enter_text, choose}
use Rattle.wap_world.specs.declared.history.Entry.{Entry}
use Rattle.wap_world.specs.declared.refusal.Refusal.{Refusal}
use Rattle.wap_world.specs.declared.refusal.Refusal.TheVariants as refusals
use Rattle.wap_world.specs.declared.timer.Timer.{Timer}
use Rattle.wap_world.specs.declared.timer.Timer.TheVariants.{NotStarted, Running, Off, Expired}
use Rattle.wap_world.specs.Shelves.{Shelf, Shelved, deck_page, script_page}
use Rattle.wap_world.specs.Shelves.{no_page}
use Rattle.wap_world.specs.Sites.{Call, End, done, failed, unanswered, Site, Ran, script_of}
use Rattle.wap_world.specs.World.{World, Place, place_in, place_now, deck_in, deck_at}
use Rattle.wap_world.specs.Steps.{Scene, Step, Once, Next, then_task, still, quiet, AccessTest}
use Rattle.wap_world.specs.Steps.{after_step, settled, behind}
use Rattle.wap_world.specs.Access.{entrance_of}
use Rattle.wap_world.specs.Setting.{set_variables, fault_lines}
use Rattle.wap_world.specs.History.{pushed, earlier_entry, in_deck, back_at, entry_of}
use Rattle.wap_world.specs.Timers.{start_timer, timer_started as started_in, store_under}
use Rattle.wap_world.specs.Timers.{store_left, end_timer, settled_timer, timer_from}
use Rattle.wap_world.specs.Screens.{show, apply_defaults}
use Rattle.wap_world.specs.Entering.{leave_place, or_show, enter, event_task}
use Rattle.wap_world.specs.Urls.{target_of, is_same_page}
use Rattle.wap_world.specs.Requests.{Request, answer_to, test_of, request_of, plain_get, ask, test}
use Rattle.wap_world.specs.Starting.{not_started, in_world, rest, end_done, end_by}
use Rattle.wap_world.specs.Starting.{ended_script, prepared, external_started}
use Rattle.wap_world.specs.Starting.{Start, start_of, start_by, started, start_if, script_line}
use Rattle.wap_world.specs.Tasks.{refusing, leave_and_set, unless_refused, with_turn, in_context}
use Rattle.wap_world.specs.Tasks.{is_new_context, card_for, arrive, arrive_if, answered, request}
use Rattle.wap_world.specs.Tasks.{is_here, here_with, stay_or_ask, go, open_url, return, returned}
use Rattle.wap_world.specs.Tasks.{ask_back, card_here, back_from, back_to, prev, deck_url, open_by}
use Rattle.wap_world.specs.Tasks.{refresh, base_url, task_by, task_once, onward, act_in, act, visit}
use Rattle.wap_world.specs.Keys.{ignored, act_or, after_text, after_choice}
use Rattle.wap_world.specs.Keys.{expire, pass_time, at_card, apply, renewed, react}
use Rattle.wap_world.proofs.Places.{deck_there, left_there, pushed_there, back_there}
use Rattle.wap_execution.specs.declared.fatal.Fatal.{Fatal}
use Rattle.wap_world.specs.Lines.{refusal_line}
use Rattle.wap_world.proofs.Alike.{Fact, Loss, Losing, IsLost, StepAlike, OnceAlike, first}
use Rattle.wap_world.proofs.Alike.{joined_alike, after_alike, step_alike, ActsAlike, onward_alike}
use Rattle.wap_world.proofs.Alike.{AlikeBy}

-- ---- what is asked of two sites

-- what is said of the names of pages
abbrev pub Names : Type 1
Names = List ℕ → Type 0

-- each change of a world keeps the invariant I: a timer is started or ends where there is a card,
-- and cards are those of decks that stand under fine names. Scripts keep J instead, and at their
-- end I is so again.
pub record Kept (I J : Fact) (Fine : Names) (shelf : Shelf) : Type 0 where
  pub vars : (k : List Key) (w : World) (v : Variables) → I k w → I k (record w { vars = v })
  pub reset : (k : List Key) (w : World) → I k w → I k (record w { timer = NotStarted })
  pub timer : (k : List Key) (w : World) (t : Timer) (place : Place) → t ≢ Expired
      → place_now shelf w ≡ Some place → I k w → I k (record w { timer = t })
  pub turn : (k : List Key) (w : World) (n : ℕ) → w.turns ≡ suc n → I k w
      → I k (record w { turns = n })
  pub clear : (k : List Key) (w : World) → I k w
      → I k (record w { vars = []; history = []; timer = NotStarted })
  pub push : (k : List Key) (w : World) (url : Url) (deck : Deck) → Fine (name_for url)
      → deck_at shelf url ≡ Some deck → I k w → I k (pushed w (entry_of url (card_for deck url)))
  pub pop : (k : List Key) (w : World) (e : Entry) (deck : Deck) → Fine (name_for e.url)
      → deck_at shelf e.url ≡ Some deck → I k w → I k (back_at w (in_deck deck e))
  pub begins : (k : List Key) (w : World) → I k w → J k (record w { pending = None })
  pub ends : (k : List Key) (w : World) → J k w
      → I k (record w { pending = None; timer = settled_timer w.timer })

-- the same ends of scripts, with the turns that are left, or both are lost
abbrev pub RanAlike : Fact → Loss → Ran → Ran → Type 0
RanAlike J Lost a b = ((a ≡ b) × J a.step.keys (record a.step.world { turns = a.turns }))
    ⊎ (IsLost Lost a.step × IsLost Lost b.step)

-- two sites: under fine names they have the same pages, and under some of these the same scripts
pub record SitesAlike (I J : Fact) (Lost : Loss) (Fine Runs : Names) (one other : Site) : Type 0
  where
    pub losing : Losing Lost
    pub kept : Kept I J Fine one.shelf
    -- a dialog may stay open, or what ends in one is lost
    pub unanswered : (step : Step) → J step.keys step.world
        → I step.keys step.world ⊎ Lost step.asked step.tests true
    pub call : one.call ≡ other.call
    -- the current card is the same, and its deck's name is fine
    pub place : (k : List Key) (w : World) → I k w
        → place_now one.shelf w ≡ place_now other.shelf w
    pub fine : (k : List Key) (w : World) (place : Place) → I k w
        → place_now one.shelf w ≡ Some place → Fine (name_for place.url)
    -- who asks for a page that is not fine is lost
    pub asks : (name : List ℕ) (fresh : Bool) → Fine name ⊎ Lost ((name, fresh) ∷ []) [] false
    pub pages : (name : List ℕ) → Fine name → one.shelf name ≡ other.shelf name
    -- and who is let in to a script that is not the same
    pub lets_in : (name : List ℕ) (caller : Option Url) → Fine name
        → Runs name
        ⊎ Lost [] (record { page = name; caller = caller; allowed = true } ∷ []) false
    pub externals : (name function : List ℕ) → Runs name
        → one.external name function ≡ other.external name function
    pub runs : (name : List ℕ) (base : Url) (referer : Option Url) (index : ℕ)
        (arguments : List Value) (turns : ℕ) (step : Step) → Runs name
        → J step.keys (record step.world { turns = turns })
        → RanAlike J Lost (one.run name base referer index arguments turns step)
        (other.run name base referer index arguments turns step)

-- a timer that starts hasn't run out
started_runs : (start : Option (Option (List ℕ) × ℕ)) → timer_from start ≢ Expired
started_runs None is = cc is
started_runs (Some (name, zero)) is = cc is
started_runs (Some (name, suc time)) is = cc is

-- ---- the walk

module _ (I J : Fact) (Lost : Loss) (Fine Runs : Names) (one other : Site)
    (alike : SitesAlike I J Lost Fine Runs one other) where
  -- what each change keeps
  abbrev kept : Kept I J Fine one.shelf
  kept = alike.kept

  -- what is made of a site is the same of both, by these steps
  abbrev By : {S : Type 0} → (S → Step) → (Site → S) → Type 0
  By step f = AlikeBy I Lost step (f one) (f other)

  -- a navigation, and a step
  abbrev pub Same : (Site → Once) → Type 0
  Same f = OnceAlike I Lost (f one) (f other)

  abbrev pub Plays : (Site → Step) → Type 0
  Plays f = StepAlike I Lost (f one) (f other)

  -- a step before both navigations
  after : (step : Step) (f : Site → Once) → Same f → Same (λ site. after_step step (f site))
  after step f = after_alike I Lost alike.losing step (f one) (f other)

  -- a world is at this place
  abbrev At : Option Place → World → Type 0
  At place w = place_now one.shelf w ≡ place

  -- by the place where a world is over each
  placed : {S : Type 0} (step : S → Step) (keys : List Key) (w : World)
      (f : Site → Option Place → S)
      → ((place : Option Place) → At place w → By step (λ site. f site place)) → I keys w
      → By step (λ site. f site (place_now site.shelf w))
  placed step keys w f each i =
      subst (λ (o : Option Place). AlikeBy I Lost step (f one (place_now one.shelf w)) (f other o))
      (alike.place keys w i) (each (place_now one.shelf w) refl)

  -- ---- scenes

  -- a timer that is started, unless it has
  started_keeps : (keys : List Key) (t : Timer) (w : World) (place : Place) → At (Some place) w
      → I keys w → I keys (started_in t place.card w)
  started_keeps keys NotStarted w place is i = kept.timer keys w _ place (started_runs _) is i
  started_keeps keys _ w place is i = i

  -- a time that is stored, where there is a name
  under_keeps : (keys : List Key) (name : Option (List ℕ)) (time : ℕ) (w : World) → I keys w
      → I keys (store_under name time w).world
  under_keeps keys None time w i = i
  under_keeps keys (Some name) time w i = kept.vars keys w _ i

  -- what remains of a timer that is left
  stored_keeps : (keys : List Key) (t : Timer) (card : Node) (w : World) → I keys w
      → I keys (store_left t card w).world
  stored_keeps keys (Running time) card w i =
      under_keeps keys (option_and_then timer_variable (timer_in card)) time w i
  stored_keeps keys _ card w i = i

  -- a timer that has run out
  end_keeps : (keys : List Key) (w : World) (place : Place) → At (Some place) w
      → I keys w → I keys (end_timer place.card w).world
  end_keeps keys w place is i =
      under_keeps keys (option_and_then timer_variable (timer_in place.card)) 0
      (record w { timer = Off }) (kept.timer keys w Off place (λ e. cc e) is i)

  -- the card is shown
  show_keeps : (keys : List Key) (place : Option Place) (w : World) → At place w → I keys w
      → I keys (show place w).world
  show_keeps keys None w is i = i
  show_keeps keys (Some place) w is i =
      let given = apply_defaults place w in
      started_keeps keys given.world.timer given.world place is
      (kept.vars keys w given.world.vars i)

  -- the card is left, and variables are set
  left_keeps : (keys : List Key) (place : Option Place) (sets : Pairs) (w : World) → I keys w
      → I keys (leave_and_set place sets w).world
  left_keeps keys None sets w i = kept.vars keys w _ i
  left_keeps keys (Some place) sets w i =
      let left = leave_place place w in
      kept.vars keys left.world _ (stored_keeps keys w.timer place.card w i)

  -- ---- navigations

  -- the card is shown after some lines
  shows : (keys : List Key) (lines : List (List ℕ)) (place : Option Place) (w : World)
      → At place w → I keys w → Same (λ site. settled (quiet keys (behind lines (show place w))))
  shows keys lines place w is i = inl (refl, show_keeps keys place w is i)

  -- one that is refused
  refuses : (keys : List Key) (why : Refusal) (place : Option Place) (w : World) → At place w
      → I keys w → Same (λ site. refusing place keys why w)
  refuses keys why = shows keys (refusal_line why ∷ [])

  -- and one to a script that isn't started
  unstarted : (keys : List Key) (why : Fatal) (place : Option Place) (w : World) → At place w
      → I keys w → Same (λ site. not_started place keys why w)
  unstarted keys why = shows keys (script_line why ∷ [])

  -- by a target that is a page's, or not
  url_alike : (keys : List Key) (place : Option Place) (w : World) (f : Site → Url → Once)
      (r : Result Url Refusal) → ((url : Url) → Same (λ site. f site url)) → At place w → I keys w
      → Same (λ site. unless_refused place keys w (f site) r)
  url_alike keys place w f (Ok url) each is i = each url
  url_alike keys place w f (Err why) each is i = refuses keys why place w is i

  -- where a turn is left, or not
  turn_alike : (keys : List Key) (place : Option Place) (w : World) (turns : ℕ)
      (f : Site → World → Once)
      → ((v : World) → At place v → I keys v → Same (λ site. f site v)) → w.turns ≡ turns
      → At place w → I keys w → Same (λ site. with_turn place keys w turns (f site))
  turn_alike keys place w zero f each some is i = refuses keys refusals.Budget place w is i
  turn_alike keys place w (suc turns) f each some is i =
      each (record w { turns = turns }) is (kept.turn keys w turns some i)

  -- a task that is next, or the card is shown
  or_show_alike : (keys : List Key) (place : Option Place) (w : World) → At place w → I keys w
      → (o : Option Task) → Same (λ site. or_show place keys o w)
  or_show_alike keys place w is i None = shows keys [] place w is i
  or_show_alike keys place w is i (Some next) = inl (refl, i)

  -- a card that is entered
  enter_alike : (keys : List Key) (place : Option Place) (event : Event) (w : World)
      → At place w → I keys w → Same (λ site. enter place keys event w)
  enter_alike keys place event w is i =
      let inside = record w { timer = NotStarted } in
      or_show_alike keys place inside is (kept.reset keys w i) (event_task place event inside)

  -- a new context
  context_keeps : (keys : List Key) (new : Bool) (w : World) → I keys w
      → I keys (cond new (record w { vars = []; history = []; timer = NotStarted }) w)
  context_keeps keys true w i = kept.clear keys w i
  context_keeps keys false w i = i

  -- a deck is entered
  arrive_alike : (keys : List Key) (place : Option Place) (sets : Pairs) (url : Url) (w : World)
      (deck : Deck) → Fine (name_for url) → deck_at one.shelf url ≡ Some deck → I keys w
      → Same (λ site. arrive place keys sets url w deck)
  arrive_alike keys place sets url w deck fine has i =
      let number = card_for deck url in
      let left = leave_and_set place sets w in
      let inside = in_context deck number left.world in
      after (quiet keys left) (λ site. enter (place_in (entry_of url number) deck) keys
      event.Forward (pushed inside (entry_of url number)))
      (enter_alike keys (place_in (entry_of url number) deck) event.Forward
      (pushed inside (entry_of url number)) (pushed_there one.shelf inside url number deck has)
      (kept.push keys inside url deck fine has
      (context_keeps keys (is_new_context deck number) left.world
      (left_keeps keys place sets w i))))

  -- or denied
  arrive_if_alike : (keys : List Key) (place : Option Place) (sets : Pairs) (url : Url) (w : World)
      (deck : Deck) (allowed : Bool) → Fine (name_for url) → deck_at one.shelf url ≡ Some deck
      → At place w → I keys w → Same (λ site. arrive_if place keys sets url w deck allowed)
  arrive_if_alike keys place sets url w deck true fine has is =
      arrive_alike keys place sets url w deck fine has
  arrive_if_alike keys place sets url w deck false fine has is =
      refuses keys refusals.Denied place w is

  -- an earlier card is entered
  return_alike : (keys : List Key) (place : Option Place) (sets : Pairs) (earlier : Entry)
      (w : World) (deck : Deck) → Fine (name_for earlier.url)
      → deck_at one.shelf earlier.url ≡ Some deck → I keys w
      → Same (λ site. return place keys sets earlier w deck)
  return_alike keys place sets earlier w deck fine has i =
      let entry = in_deck deck earlier in
      let left = leave_and_set place sets w in
      let inside = back_at left.world entry in
      after (quiet keys left) (λ site. enter (place_in entry deck) keys event.Backward inside)
      (enter_alike keys (place_in entry deck) event.Backward inside
      (back_there one.shelf left.world earlier deck has)
      (kept.pop keys left.world earlier deck fine has (left_keeps keys place sets w i)))

  -- by the page that answers
  returned_alike : (keys : List Key) (place : Option Place) (sets : Pairs) (earlier : Entry)
      (w : World) (page : Shelved) → Fine (name_for earlier.url)
      → deck_at one.shelf earlier.url ≡ deck_in page → At place w → I keys w
      → Same (λ site. returned place keys sets earlier w page)
  returned_alike keys place sets earlier w (deck_page deck) fine has is =
      return_alike keys place sets earlier w deck fine has
  returned_alike keys place sets earlier w no_page fine has is =
      refuses keys refusals.Missing place w is
  returned_alike keys place sets earlier w _ fine has is = refuses keys refusals.Refused place w is

  -- a page that is asked for is fine, or it is lost
  asked_alike : (keys : List Key) (asked : Request) (w : World) (f : Site → Shelved → Once)
      → (Fine (name_for asked.url) → Same (λ site. f site (answer_to one.shelf asked)))
      → Same (λ site. after_step (ask keys asked w) (f site (answer_to site.shelf asked)))
  asked_alike keys asked w f same = by (alike.asks name asked.fresh)
    where
      name : List ℕ
      name = name_for asked.url

      answer : Site → Shelved → Once
      answer site page = after_step (ask keys asked w) (f site page)

      by : Fine name ⊎ Lost ((name, asked.fresh) ∷ []) [] false
          → Same (λ site. answer site (site.shelf name))
      by (inl fine) =
          subst (λ (page : Shelved).
          OnceAlike I Lost (answer one (one.shelf name)) (answer other page))
          (alike.pages name fine)
          (after (ask keys asked w) (λ site. f site (one.shelf name)) (same fine))
      by (inr lost) = inr (
        first I Lost alike.losing (ask keys asked w) (f one (one.shelf name)).step lost,
        first I Lost alike.losing (ask keys asked w) (f other (other.shelf name)).step lost,
      )

  -- its deck is asked for
  ask_back_alike : (keys : List Key) (place : Option Place) (sets : Pairs) (earlier : Entry)
      (w : World) → At place w → I keys w
      → Same (λ site. ask_back site.shelf place keys sets earlier w)
  ask_back_alike keys place sets earlier w is i =
      asked_alike keys (plain_get earlier.url) w (λ site. returned place keys sets earlier w)
      (λ fine. returned_alike keys place sets earlier w (one.shelf (name_for earlier.url)) fine refl
      is i)

  -- or is the current one
  back_from_alike : (keys : List Key) (place : Option Place) (sets : Pairs) (earlier : Entry)
      (w : World) → At place w → I keys w
      → Same (λ site. back_from site.shelf place keys sets earlier w)
  back_from_alike keys None sets earlier w is i = ask_back_alike keys None sets earlier w is i
  back_from_alike keys (Some place) sets earlier w is i = by (is_same_page earlier.url place.url)
    where
      by : (b : Bool) → Same (λ site. cond b
          (return (Some place) keys sets (card_here place earlier) w place.deck)
          (ask_back site.shelf (Some place) keys sets earlier w))
      by true =
          return_alike keys (Some place) sets (card_here place earlier) w place.deck
          (alike.fine keys w place i is) (deck_there one.shelf w place is) i
      by false = ask_back_alike keys (Some place) sets earlier w is i

  -- an earlier entry, or none
  back_to_alike : (keys : List Key) (place : Option Place) (sets : Pairs) (w : World)
      (earlier : Option Entry) → At place w → I keys w
      → Same (λ site. back_to site.shelf place keys sets w earlier)
  back_to_alike keys place sets w None = refuses keys refusals.First place w
  back_to_alike keys place sets w (Some earlier) = back_from_alike keys place sets earlier w

  -- prev
  pub prev_alike : (keys : List Key) (place : Option Place) (sets : Pairs) (w : World)
      → At place w → I keys w → Same (λ site. prev site.shelf place keys sets w)
  prev_alike keys place sets w = back_to_alike keys place sets w (earlier_entry w)

  -- the current card is left and drawn again
  refresh_keeps : (keys : List Key) (place : Option Place) (sets : Pairs) (w : World)
      → At place w → I keys w → I keys (refresh place sets w).world
  refresh_keeps keys None sets w is i = i
  refresh_keeps keys (Some place) sets w is i =
      let v = (leave_and_set (Some place) sets w).world in
      kept.timer keys v (start_timer place.card v).timer place (started_runs _)
      (left_there one.shelf (Some place) sets w ∙ is) (left_keeps keys (Some place) sets w i)

  -- ---- the end of a script

  -- a timer that is settled already
  is_settled : (keys : List Key) (t : Timer) (w : World) → w.timer ≡ t
      → I keys (record w { timer = t }) → I keys w
  is_settled keys t w is i = subst (λ (s : Timer). I keys (record w { timer = s })) (sym is) i

  -- by the timer that is left, which is settled
  rest_alike : (keys : List Key) (place : Option Place) (t : Timer) (w : World) → w.timer ≡ t
      → At place w → I keys (record w { timer = settled_timer t })
      → Same (λ site. rest place keys t w)
  rest_alike keys place Expired w has is i =
      let late = record w { timer = Off } in
      or_show_alike keys place late is i (event_task place event.Timer late)
  rest_alike keys place t w has is i = shows keys [] place w is (is_settled keys t w has i)

  -- what the script asked for, or none
  done_alike : (place : Option Place) (base : Url) (o : Option Task) (step : Step)
      → step.world.pending ≡ o → At place step.world → J step.keys step.world
      → Same (λ site. end_done place base o step)
  done_alike place base None step has is j =
      let w = step.world in
      after step (λ site. rest place step.keys w.timer w)
      (rest_alike step.keys place w.timer w refl is (subst (λ (o : Option Task).
      I step.keys (record w { pending = o; timer = settled_timer w.timer })) (sym has)
      (kept.ends step.keys w j)))
  done_alike place base (Some next) step has is j =
      inl (refl, kept.ends step.keys step.world j)

  -- by how it ended
  end_alike : (place : Option Place) (base : Url) (end : End) (step : Step)
      → At place step.world → J step.keys step.world → Same (λ site. end_by place base end step)
  end_alike place base done step is j = done_alike place base step.world.pending step refl is j
  end_alike place base (failed why) step is j =
      let w = record step.world { pending = None } in
      after (record step { world = w; lines = step.lines ++ script_line why ∷ [] })
      (λ site. rest place step.keys w.timer w)
      (rest_alike step.keys place w.timer w refl is (kept.ends step.keys step.world j))
  end_alike place base unanswered step is j = by (alike.unanswered step j)
    where
      by : I step.keys step.world ⊎ Lost step.asked step.tests true
          → Same (λ site. settled (record step { is_open = true }))
      by (inl i) = inl (refl, i)
      by (inr lost) = inr (lost, lost)

  -- a lost step stays lost at the end of a script
  done_lost : (place : Option Place) (base : Url) (o : Option Task) (step : Step)
      → IsLost Lost step → IsLost Lost (end_done place base o step).step
  done_lost place base None step =
      first I Lost alike.losing step (rest place step.keys step.world.timer step.world).step
  done_lost place base (Some next) step = λ lost. lost

  -- at any end
  end_lost : (place : Option Place) (base : Url) (end : End) (step : Step) → IsLost Lost step
      → IsLost Lost (end_by place base end step).step
  end_lost place base done step = done_lost place base step.world.pending step
  end_lost place base (failed why) step =
      let w = record step.world { pending = None } in
      first I Lost alike.losing
      (record step { world = w; lines = step.lines ++ script_line why ∷ [] })
      (rest place step.keys w.timer w).step
  end_lost place base unanswered step = alike.losing.opens step.asked step.tests step.is_open

  -- a run, whose end is at the place where its world is over each
  ran_alike : (base : Url) (ran : Ran)
      → J ran.step.keys (record ran.step.world { turns = ran.turns })
      → Same (λ site. ended_script site.shelf base ran)
  ran_alike base ran j =
      let w = record ran.step.world { turns = ran.turns } in
      let settled = record w { pending = None; timer = settled_timer w.timer } in
      placed (λ (once : Once). once.step) ran.step.keys settled
      (λ site place. end_by place base ran.end (in_world w ran.step))
      (λ place is. end_alike place base ran.end (in_world w ran.step) is j)
      (kept.ends ran.step.keys w j)

  -- runs that are alike
  pub ended_alike : (base : Url) (a b : Ran) → RanAlike J Lost a b
      → OnceAlike I Lost (ended_script one.shelf base a) (ended_script other.shelf base b)
  ended_alike base a b (inl is) =
      subst (λ (c : Ran).
      OnceAlike I Lost (ended_script one.shelf base a) (ended_script other.shelf base c)) is.0
      (ran_alike base a is.1)
  ended_alike base a b (inr lost) = inr (is_lost one.shelf a lost.0, is_lost other.shelf b lost.1)
    where
      is_lost : (shelf : Shelf) (ran : Ran) → IsLost Lost ran.step
          → IsLost Lost (ended_script shelf base ran).step
      is_lost shelf ran =
          let w = record ran.step.world { turns = ran.turns } in
          end_lost (place_now shelf w) base ran.end (in_world w ran.step)

  -- ---- rules that start scripts

  -- a script is started
  begun_alike : (keys : List Key) (sets : Pairs) (caller : Option Url) (url : Url) (w : World)
      (index : ℕ) (arguments : List Value) → Runs (name_for url) → I keys w
      → Same (λ site. external_started site.shelf (script_of site (name_for url)) keys sets caller
      url w index arguments)
  begun_alike keys sets caller url w index arguments runs i =
      let base = without_fragment url in
      let set = set_variables sets w in
      let s = quiet keys (record set { world = prepared set.world }) in
      let ran : Site → Ran = λ site.
      site.run (name_for url) base caller index arguments set.world.turns s in
      ended_alike base (ran one) (ran other)
      (alike.runs (name_for url) base caller index arguments set.world.turns s runs
      (kept.begins keys set.world (kept.vars keys w set.world.vars i)))

  -- or why none is, is told
  started_alike : (keys : List Key) (place : Option Place) (sets : Pairs) (caller : Option Url)
      (url : Url) (w : World) (start : Start) → Runs (name_for url) → At place w → I keys w
      → Same (λ site. started site.shelf (script_of site (name_for url)) place keys sets caller url
      w start)
  started_alike keys place sets caller url w (Err why) runs is i =
      unstarted keys why place w is i
  started_alike keys place sets caller url w (Ok found) runs is i =
      begun_alike keys sets caller url w found.0 found.1 runs i

  -- what a call starts, by the functions of both
  call_alike : (string : ℕ) (url : Url) (o : Option Call) → Runs (name_for url)
      → start_by (one.external (name_for url)) string o
      ≡ start_by (other.external (name_for url)) string o
  call_alike string url None runs = refl
  call_alike string url (Some call) runs =
      ap (start_of string call.arguments) (alike.externals (name_for url) call.function runs)

  -- a script that lets in is the same, or it is lost
  start_alike : (keys : List Key) (place : Option Place) (sets : Pairs) (caller : Option Url)
      (url : Url) (w : World) (allowed : Bool) → Fine (name_for url) → At place w → I keys w
      → Same (λ site. after_step
      (test keys (record { page = name_for url; caller = caller; allowed = allowed }) w)
      (start_if site.shelf (script_of site (name_for url)) place keys sets caller url w
      (option_and_then site.call url.fragment) allowed))
  start_alike keys place sets caller url w false fine is i =
      after (test keys (record { page = name_for url; caller = caller; allowed = false }) w)
      (λ site. not_started place keys fatal.Denied w) (unstarted keys fatal.Denied place w is i)
  start_alike keys place sets caller url w true fine is i =
      by (alike.lets_in (name_for url) caller fine)
    where
      let_in : AccessTest
      let_in = record { page = name_for url; caller = caller; allowed = true }

      string : ℕ
      string = w.limits.string

      start : Site → Start → Once
      start site =
          started site.shelf (script_of site (name_for url)) place keys sets caller url w

      called : Site → Start
      called site =
          start_by (site.external (name_for url)) string (option_and_then site.call url.fragment)

      by : Runs (name_for url) ⊎ Lost [] (let_in ∷ []) false
          → Same (λ site. after_step (test keys let_in w) (start site (called site)))
      by (inl runs) =
          let same : called one ≡ called other =
          ap (λ (call : List ℕ → Option Call).
          start_by (one.external (name_for url)) string (option_and_then call url.fragment))
          alike.call
          ∙ call_alike string url (option_and_then other.call url.fragment) runs in
          after (test keys let_in w) (λ site. start site (called site))
          (subst (λ (s : Start). OnceAlike I Lost (start one (called one)) (start other s)) same
          (started_alike keys place sets caller url w (called one) runs is i))
      by (inr lost) = inr (
        first I Lost alike.losing (test keys let_in w) (start one (called one)).step lost,
        first I Lost alike.losing (test keys let_in w) (start other (called other)).step lost,
      )

  -- a request by the page that answers
  answered_alike : (keys : List Key) (place : Option Place) (sets : Pairs) (caller : Option Url)
      (url : Url) (w : World) (page : Shelved) → Fine (name_for url)
      → deck_at one.shelf url ≡ deck_in page → At place w → I keys w
      → Same (λ site. answered site place keys sets caller url w page)
  answered_alike keys place sets caller url w (deck_page deck) fine has is i =
      let tested = test_of url caller (entrance_of deck) in
      after (test keys tested w) (λ site. arrive_if place keys sets url w deck tested.allowed)
      (arrive_if_alike keys place sets url w deck tested.allowed fine has is i)
  answered_alike keys place sets caller url w (script_page entrance) fine has is i =
      start_alike keys place sets caller url w (test_of url caller entrance).allowed fine is i
  answered_alike keys place sets caller url w no_page fine has is i =
      refuses keys refusals.Missing place w is i
  answered_alike keys place sets caller url w _ fine has is i =
      refuses keys refusals.Refused place w is i

  -- a request
  request_alike : (keys : List Key) (place : Option Place) (sets : Pairs) (caller : Option Url)
      (asked : Request) (w : World) → At place w → I keys w
      → Same (λ site. request site place keys sets caller asked w)
  request_alike keys place sets caller asked w is i =
      asked_alike keys asked w (λ site. answered site place keys sets caller asked.url w)
      (λ fine. answered_alike keys place sets caller asked.url w (answer_to one.shelf asked) fine
      refl is i)

  -- the current deck anew, or a request
  stay_alike : (keys : List Key) (place : Option Place) (sets : Pairs) (caller : Option Url)
      (asked : Request) (w : World) → At place w → I keys w
      → Same (λ site. stay_or_ask site place keys sets caller asked w)
  stay_alike keys None sets caller asked w is i = request_alike keys None sets caller asked w is i
  stay_alike keys (Some place) sets caller asked w is i = by (is_here asked place)
    where
      by : (b : Bool) → Same (λ site. cond b
          (arrive (Some place) keys sets (here_with place asked.url) w place.deck)
          (request site (Some place) keys sets caller asked w))
      by true =
          arrive_alike keys (Some place) sets (here_with place asked.url) w place.deck
          (alike.fine keys w place i is) (deck_there one.shelf w place is) i
      by false = request_alike keys (Some place) sets caller asked w is i

  -- a go
  pub go_alike : (keys : List Key) (place : Option Place) (base : Option Url) (wanted : Go)
      (w : World) → At place w → I keys w → Same (λ site. go site place keys base wanted w)
  go_alike keys place base wanted w is i =
      let stay : Site → Url → Once = λ site url.
      stay_or_ask site place keys wanted.sets base (request_of base wanted url) w in
      url_alike keys place w stay (target_of base wanted.href)
      (λ url. stay_alike keys place wanted.sets base (request_of base wanted url) w is i) is i

  -- one task
  task_alike : (keys : List Key) (place : Option Place) (w : World) (from : Option Url)
      (next : Task) → At place w → I keys w
      → Same (λ site. task_by site place keys w from next)
  task_alike keys place w from (task.Go wanted) is i =
      turn_alike keys place w w.turns (λ site. go site place keys (base_url place from) wanted)
      (go_alike keys place (base_url place from) wanted) refl is i
  task_alike keys place w from (task.Prev sets) is i =
      turn_alike keys place w w.turns (λ site. prev site.shelf place keys sets)
      (prev_alike keys place sets) refl is i
  task_alike keys place w from (task.Refresh sets) is i =
      inl (refl, refresh_keeps keys place sets w is i)

  -- where the world is
  once_alike : (keys : List Key) (w : World) (next : Next) → I keys w
      → Same (λ site. task_once site keys w next)
  once_alike keys w next i =
      placed (λ (once : Once). once.step) keys w
      (λ site place. task_by site place keys w next.from next.task)
      (λ place is. task_alike keys place w next.from next.task is i) i

  -- ---- tasks, and all that they lead to

  -- within so many turns
  act_in_alike : (turns : ℕ) → ActsAlike I Lost alike.losing (act_in turns one) (act_in turns other)
  act_in_alike zero keys w next i =
      step_alike I Lost alike.losing (task_once one keys w next) (task_once other keys w next)
      (once_alike keys w next i)
  act_in_alike (suc turns) keys w next i =
      onward_alike I Lost alike.losing (act_in turns one) (act_in turns other) (act_in_alike turns)
      (task_once one keys w next) (task_once other keys w next)
      (once_alike keys w next i)

  -- within those of the world
  act_alike : ActsAlike I Lost alike.losing (act one) (act other)
  unfolding act
  act_alike keys w = act_in_alike w.turns keys w

  -- what navigations lead to
  pub leads_alike : (a b : Once) → OnceAlike I Lost a b
      → StepAlike I Lost (onward (act one) a) (onward (act other) b)
  leads_alike = onward_alike I Lost alike.losing (act one) (act other) act_alike

  -- a URL that is opened
  opened_alike : (keys : List Key) (place : Option Place) (text : List ℕ) (w : World)
      → At place w → I keys w → Same (λ site. open_by site place keys text w)
  opened_alike keys place text w is i =
      turn_alike keys place w w.turns (λ site. open_url site place keys text)
      (λ v at j. url_alike keys place v
      (λ site url. request site place keys [] None (plain_get url) v)
      (target_of (deck_url place) text)
      (λ url. request_alike keys place [] None (plain_get url) v at j) at j) refl is i

  visit_alike : (keys : List Key) (place : Option Place) (w : World) (text : List ℕ)
      → At place w → I keys w → Plays (λ site. visit site place keys w text)
  unfolding visit
  visit_alike keys place w text is i =
      leads_alike (open_by one place keys text w) (open_by other place keys text w)
      (opened_alike keys place text w is i)

  -- ---- keys

  -- a task, or what happens without one
  or_alike : (keys : List Key) (scene : Scene) (w : World) → I keys scene.world → I keys w
      → (o : Option Task) → Plays (λ site. act_or scene site keys w o)
  or_alike keys scene w shown i None = inl (refl, shown)
  or_alike keys scene w shown i (Some next) = act_alike keys w (then_task next) i

  -- a text that is entered
  text_keeps : (keys : List Key) (place : Option Place) (w : World) (answer : Entered)
      → At place w → I keys w → I keys (after_text place w answer).world
  text_keeps keys place w entered.NoInput is i = i
  text_keeps keys None w entered.Refused is i = i
  text_keeps keys (Some place) w entered.Refused is i = i
  text_keeps keys place w entered.Full is i = show_keeps keys place w is i
  text_keeps keys place w entered.Set is i = show_keeps keys place w is i

  -- an option that is chosen
  choice_alike : (keys : List Key) (place : Option Place) (w : World) (answer : Chosen)
      → At place w → I keys w → Plays (λ site. after_choice site keys place w answer)
  choice_alike keys place w chosen.NoOption is i = inl (refl, i)
  choice_alike keys place w (chosen.Set faults o) is i =
      let acts : Site → Step = λ site. act_or (show place w) site keys w o in
      joined_alike I Lost alike.losing
      (quiet keys (record { world = w; lines = flat_map fault_lines faults }))
      (acts one) (acts other)
      (or_alike keys (show place w) w (show_keeps keys place w is i) i o)

  -- a timer that runs out
  expire_alike : (keys : List Key) (place : Place) (w : World) → At (Some place) w → I keys w
      → Plays (λ site. expire site keys place w)
  expire_alike keys place w is i =
      let late = end_timer place.card w in
      let v = late.world in
      let j = end_keeps keys w place is i in
      let acts : Site → Step = λ site.
      act_or (still v) site keys v (event_task (Some place) event.Timer v) in
      joined_alike I Lost alike.losing (quiet keys late) (acts one) (acts other)
      (or_alike keys (still v) v j j (event_task (Some place) event.Timer v))

  -- time that passes
  time_alike : (keys : List Key) (n : ℕ) (t : Timer) (place : Place) (w : World)
      → At (Some place) w → I keys w → Plays (λ site. pass_time site keys n t place w)
  time_alike keys n NotStarted place w is i = inl (refl, i)
  time_alike keys n (Running time) place w is i = by (ltb n time)
    where
      by : (b : Bool) → Plays (λ site. cond b
          (quiet keys (still (record w { timer = Running (time - n) })))
          (expire site keys place w))
      by true = inl (refl, kept.timer keys w (Running (time - n)) place (λ e. cc e) is i)
      by false = expire_alike keys place w is i
  time_alike keys n Off place w is i = inl (refl, i)
  time_alike keys n Expired place w is i = inl (refl, i)

  -- a task of the card, if there is one
  card_task_alike : (keys : List Key) (w : World) (found : Place → Option Task)
      (place : Option Place) → I keys w
      → Plays (λ site. at_card keys w (λ one. act_or (ignored w) site keys w (found one)) place)
  card_task_alike keys w found None i = inl (refl, i)
  card_task_alike keys w found (Some place) i = or_alike keys (ignored w) w i i (found place)

  -- a key at a place
  apply_alike : (keys : List Key) (place : Option Place) (w : World) (pressed : Key)
      → At place w → I keys w → Plays (λ site. apply site place keys w pressed)
  apply_alike keys place w (key.Open url) is i = visit_alike keys place w url is i
  apply_alike keys place w (key.Do name) is i =
      card_task_alike keys w (λ one. do_task w.vars one.deck one.card name) place i
  apply_alike keys place w (key.Pick n) is i =
      card_task_alike keys w (λ one. link_task w.vars one.card n) place i
  apply_alike keys None w (key.Enter n text) is i = inl (refl, i)
  apply_alike keys (Some place) w (key.Enter n text) is i =
      let typed = enter_text w.vars place.card n text in
      inl (
        refl,
        text_keeps keys (Some place) (record w { vars = typed.vars }) typed.answer is
            (kept.vars keys w typed.vars i),
      )
  apply_alike keys None w (key.Choose n m) is i = inl (refl, i)
  apply_alike keys (Some place) w (key.Choose n m) is i =
      let made = choose w.vars place.card n m in
      choice_alike keys (Some place) (record w { vars = made.vars }) made.answer is
      (kept.vars keys w made.vars i)
  apply_alike keys None w key.Back is i = inl (refl, i)
  apply_alike keys (Some place) w key.Back is i = act_alike keys w (then_task (task.Prev [])) i
  apply_alike keys None w (key.Tick n) is i = inl (refl, i)
  apply_alike keys (Some place) w (key.Tick n) is i = time_alike keys n w.timer place w is i
  apply_alike keys place w _ is i = inl (refl, i)

  -- a key, which has its turns
  pub react_alike : (pressed : Key) (keys : List Key) (w : World) → I keys (renewed w)
      → Plays (λ site. react site pressed keys w)
  unfolding react
  react_alike pressed keys w i =
      placed (λ (step : Step). step) keys (renewed w)
      (λ site place. apply site place keys (renewed w) pressed)
      (λ place is. apply_alike keys place (renewed w) pressed is i) i
