-- Rules that start no script see none of the keys after them, and leave these.
use Rattle.std.proofs.Common.{◌≡◌, zero, suc, ℕ, Bool, true, false, List, [], cond, ltb, Option}
use Rattle.std.proofs.Common.{Some, None, refl, sym, ap, ◌∙◌}
use Rattle.std.specs.Prelude.{Result, Ok, Err, ◌-◌}
use Rattle.std.specs.List.{flat_map}
use Rattle.wap_base.specs.declared.key.Key.{Key}
use Rattle.wap_base.specs.declared.key.Key.TheVariants as key
use Rattle.std.specs.Option.{option_and_then}
use Rattle.wap_url.specs.declared.url.Url.{Url}
use Rattle.wap_url.specs.Printing.{name_for}
use Rattle.wap_tokens.specs.declared.markup.deck.Deck.{Deck}
use Rattle.wap_cardrules.specs.declared.answers.Chosen.{Chosen}
use Rattle.wap_cardrules.specs.declared.answers.Chosen.TheVariants as chosen
use Rattle.wap_cardrules.specs.declared.event.Event.{Event}
use Rattle.wap_cardrules.specs.declared.event.Event.TheVariants as event
use Rattle.wap_cardrules.specs.declared.task.Task.{Task}
use Rattle.wap_cardrules.specs.declared.task.Task.TheVariants as task
use Rattle.wap_cardrules.specs.Dos.{do_task}
use Rattle.wap_cardrules.specs.Fields.{link_task}
use Rattle.wap_cardrules.specs.Values.{Pairs}
use Rattle.wap_cardrules.specs.Entering.{choose}
use Rattle.wap_world.specs.declared.history.Entry.{Entry}
use Rattle.wap_world.specs.declared.refusal.Refusal.{Refusal}
use Rattle.wap_world.specs.declared.timer.Timer.{Timer}
use Rattle.wap_world.specs.declared.timer.Timer.TheVariants.{NotStarted, Running, Off, Expired}
use Rattle.wap_world.specs.Shelves.{Shelf, Shelved, script_page}
use Rattle.wap_world.specs.Sites.{Site, script_of}
use Rattle.wap_world.specs.World.{World, Place, place_in, place_now}
use Rattle.wap_world.specs.Steps.{Scene, Step, Once, Next, then_task, still, quiet, then_step}
use Rattle.wap_world.specs.Steps.{after_step}
use Rattle.wap_world.specs.History.{pushed, entry_of, earlier_entry, in_deck, back_at}
use Rattle.wap_world.specs.Setting.{fault_lines}
use Rattle.wap_world.specs.Timers.{end_timer}
use Rattle.wap_world.specs.Screens.{show}
use Rattle.wap_world.specs.Entering.{or_show, enter, event_task}
use Rattle.wap_world.specs.Access.{entrance_of}
use Rattle.wap_world.specs.Urls.{target_of, is_same_page}
use Rattle.wap_world.specs.Requests.{Request, plain_get, request_of, test_of, test, ask, answer_to}
use Rattle.wap_world.specs.Starting.{start_if}
use Rattle.wap_world.specs.Tasks.{leave_and_set, unless_refused, with_turn, card_for, in_context}
use Rattle.wap_world.specs.Tasks.{arrive}
use Rattle.wap_world.specs.Tasks.{arrive_if, try_deck, deck_or_refusal, answered, request, is_here}
use Rattle.wap_world.specs.Tasks.{here_with}
use Rattle.wap_world.specs.Tasks.{stay_or_ask, go, open_url, return, returned, ask_back, card_here}
use Rattle.wap_world.specs.Tasks.{back_from, back_to, prev, deck_url, base_url, task_by, task_once}
use Rattle.wap_world.specs.Tasks.{go_on, onward, act_in, act, open_by, visit}
use Rattle.wap_world.specs.Keys.{ignored, act_or, type_text, after_choice, choose_option, expire}
use Rattle.wap_world.specs.Keys.{pass_time, at_card, apply, renewed, react}
use Rattle.wap_world.proofs.Joining.{before, once_before}

-- ---- rules, by the keys after them

-- a navigation that sees none of them, and leaves them
abbrev pub Leaves : (List Key → Once) → Type 0
Leaves f = (keys : List Key) → f keys ≡ once_before keys (f [])

-- and a step
abbrev pub StepLeaves : (List Key → Step) → Type 0
StepLeaves f = (keys : List Key) → f keys ≡ before keys (f [])

-- ---- rules at a place, that ask pages alone

module _ (place : Option Place) where
  or_show_leaves : (w : World) (o : Option Task) → Leaves (λ keys. or_show place keys o w)
  or_show_leaves w None keys = refl
  or_show_leaves w (Some one) keys = refl

  enter_leaves : (event : Event) (w : World) → Leaves (λ keys. enter place keys event w)
  enter_leaves event w =
      let inside = record w { timer = NotStarted } in
      or_show_leaves inside (event_task place event inside)

module _ (place : Option Place) where
  pub arrive_leaves : (sets : Pairs) (url : Url) (w : World) (deck : Deck)
      → Leaves (λ keys. arrive place keys sets url w deck)
  arrive_leaves sets url w deck keys =
      let number = card_for deck url in
      let left = leave_and_set place sets w in
      ap (after_step (quiet keys left)) (enter_leaves (place_in (entry_of url number) deck)
      event.Forward (pushed (in_context deck number left.world) (entry_of url number)) keys)

  arrive_if_leaves : (sets : Pairs) (url : Url) (w : World) (deck : Deck) (b : Bool)
      → Leaves (λ keys. arrive_if place keys sets url w deck b)
  arrive_if_leaves sets url w deck true = arrive_leaves sets url w deck
  arrive_if_leaves sets url w deck false = λ keys. refl

  pub try_leaves : (sets : Pairs) (caller : Option Url) (url : Url) (w : World) (deck : Deck)
      → Leaves (λ keys. try_deck place keys sets caller url w deck)
  try_leaves sets caller url w deck keys =
      let one = test_of url caller (entrance_of deck) in
      ap (after_step (test keys one w)) (arrive_if_leaves sets url w deck one.allowed keys)

  pub return_leaves : (sets : Pairs) (earlier : Entry) (w : World) (deck : Deck)
      → Leaves (λ keys. return place keys sets earlier w deck)
  return_leaves sets earlier w deck keys =
      let entry = in_deck deck earlier in
      let left = leave_and_set place sets w in
      ap (after_step (quiet keys left))
      (enter_leaves (place_in entry deck) event.Backward (back_at left.world entry) keys)

  pub found_leaves : {A : Type 0} (w : World) (f : List Key → A → Once) (r : Result A Refusal)
      → ((found : A) → Leaves (λ keys. f keys found))
      → Leaves (λ keys. unless_refused place keys w (f keys) r)
  found_leaves w f (Ok found) each = each found
  found_leaves w f (Err why) each = λ keys. refl

  returned_leaves : (sets : Pairs) (earlier : Entry) (w : World) (page : Shelved)
      → Leaves (λ keys. returned place keys sets earlier w page)
  returned_leaves sets earlier w page =
      found_leaves w (λ keys. return place keys sets earlier w) (deck_or_refusal page)
      (return_leaves sets earlier w)

  ask_back_leaves : (shelf : Shelf) (sets : Pairs) (earlier : Entry) (w : World)
      → Leaves (λ keys. ask_back shelf place keys sets earlier w)
  ask_back_leaves shelf sets earlier w keys =
      let one = plain_get earlier.url in
      ap (after_step (ask keys one w)) (returned_leaves sets earlier w (answer_to shelf one) keys)

  turn_leaves : (w : World) (turns : ℕ) (f : List Key → World → Once)
      → ((v : World) → Leaves (λ keys. f keys v))
      → Leaves (λ keys. with_turn place keys w turns (f keys))
  turn_leaves w zero f each = λ keys. refl
  turn_leaves w (suc turns) f each = each (record w { turns = turns })

module _ (shelf : Shelf) where
  back_from_leaves : (place : Option Place) (sets : Pairs) (earlier : Entry) (w : World)
      → Leaves (λ keys. back_from shelf place keys sets earlier w)
  back_from_leaves None sets earlier w = ask_back_leaves None shelf sets earlier w
  back_from_leaves (Some place) sets earlier w = by (is_same_page earlier.url place.url)
    where
      by : (b : Bool) → Leaves (λ keys. cond b
          (return (Some place) keys sets (card_here place earlier) w place.deck)
          (ask_back shelf (Some place) keys sets earlier w))
      by true = return_leaves (Some place) sets (card_here place earlier) w place.deck
      by false = ask_back_leaves (Some place) shelf sets earlier w

  back_to_leaves : (place : Option Place) (sets : Pairs) (w : World) (earlier : Option Entry)
      → Leaves (λ keys. back_to shelf place keys sets w earlier)
  back_to_leaves place sets w None = λ keys. refl
  back_to_leaves place sets w (Some earlier) = back_from_leaves place sets earlier w

  prev_leaves : (place : Option Place) (sets : Pairs) (w : World)
      → Leaves (λ keys. prev shelf place keys sets w)
  prev_leaves place sets w = back_to_leaves place sets w (earlier_entry w)

-- ---- rules that would start scripts

-- no script that is started sees the keys after it, or uses one
abbrev pub LeavesKeys : Site → Type 0
LeavesKeys site =
    (place : Option Place) (sets : Pairs) (caller : Option Url) (url : Url) (w : World) (b : Bool)
    → Leaves (λ keys. start_if site.shelf (script_of site (name_for url)) place keys sets caller
    url w (option_and_then site.call url.fragment) b)

module _ (site : Site) (leaves : LeavesKeys site) where
  answered_leaves : (place : Option Place) (sets : Pairs) (caller : Option Url) (url : Url)
      (w : World) (page : Shelved)
      → Leaves (λ keys. answered site place keys sets caller url w page)
  answered_leaves place sets caller url w (script_page entrance) keys =
      let one = test_of url caller entrance in
      ap (after_step (test keys one w)) (leaves place sets caller url w one.allowed keys)
  answered_leaves place sets caller url w page keys =
      found_leaves place w (λ k. try_deck place k sets caller url w) (deck_or_refusal page)
      (try_leaves place sets caller url w) keys

  request_leaves : (place : Option Place) (sets : Pairs) (caller : Option Url) (one : Request)
      (w : World) → Leaves (λ keys. request site place keys sets caller one w)
  request_leaves place sets caller one w keys =
      ap (after_step (ask keys one w))
      (answered_leaves place sets caller one.url w (answer_to site.shelf one) keys)

  stay_leaves : (place : Option Place) (sets : Pairs) (caller : Option Url) (one : Request)
      (w : World) → Leaves (λ keys. stay_or_ask site place keys sets caller one w)
  stay_leaves None sets caller one w = request_leaves None sets caller one w
  stay_leaves (Some place) sets caller one w = by (is_here one place)
    where
      by : (b : Bool) → Leaves (λ keys. cond b
          (arrive (Some place) keys sets (here_with place one.url) w place.deck)
          (request site (Some place) keys sets caller one w))
      by true = arrive_leaves (Some place) sets (here_with place one.url) w place.deck
      by false = request_leaves (Some place) sets caller one w

  task_leaves : (place : Option Place) (w : World) (from : Option Url) (one : Task)
      → Leaves (λ keys. task_by site place keys w from one)
  task_leaves place w from (task.Go one) =
      let base = base_url place from in
      turn_leaves place w w.turns (λ keys. go site place keys base one)
      (λ v.
      found_leaves place v (λ keys url.
      stay_or_ask site place keys one.sets base (request_of base one url) v)
      (target_of base one.href)
      (λ url. stay_leaves place one.sets base (request_of base one url) v))
  task_leaves place w from (task.Prev sets) =
      turn_leaves place w w.turns (λ keys. prev site.shelf place keys sets)
      (prev_leaves site.shelf place sets)
  task_leaves place w from (task.Refresh sets) = λ keys. refl

  once_leaves : (w : World) (next : Next) → Leaves (λ keys. task_once site keys w next)
  once_leaves w next = task_leaves (place_now site.shelf w) w next.from next.task

  -- ---- steps

  -- a rule for a task that leaves the keys after it
  abbrev ActsLeave : (List Key → World → Next → Step) → Type 0
  ActsLeave f = (w : World) (next : Next) → StepLeaves (λ keys. f keys w next)

  go_on_leaves : (f : List Key → World → Next → Step) → ActsLeave f → (keys : List Key)
      (step : Step) (o : Option Next)
      → go_on f (before keys step) o ≡ before keys (go_on f step o)
  go_on_leaves f acts keys step None = refl
  go_on_leaves f acts keys step (Some next) =
      ap (then_step step) (acts step.world next keys)
      ∙ sym (ap (λ others. before keys (then_step step others)) (acts step.world next step.keys))

  onward_leaves : (f : List Key → World → Next → Step) → ActsLeave f → (once : List Key → Once)
      → Leaves once → StepLeaves (λ keys. onward f (once keys))
  onward_leaves f acts once each keys =
      ap (onward f) (each keys) ∙ go_on_leaves f acts keys (once []).step (once []).next

  act_in_leaves : (turns : ℕ) → ActsLeave (act_in turns site)
  act_in_leaves zero w next keys =
      ap (λ (once : Once). once.step) (once_leaves w next keys)
  act_in_leaves (suc turns) w next keys =
      onward_leaves (act_in turns site) (act_in_leaves turns)
      (λ k. task_once site k w next) (once_leaves w next) keys

  act_leaves : ActsLeave (act site)
  unfolding act
  act_leaves w = act_in_leaves w.turns w

  visit_leaves : (place : Option Place) (w : World) (text : List ℕ)
      → StepLeaves (λ keys. visit site place keys w text)
  unfolding visit
  visit_leaves place w text =
      onward_leaves (act site) act_leaves (λ keys. open_by site place keys text w)
      (turn_leaves place w w.turns (λ keys. open_url site place keys text)
      (λ v. found_leaves place v (λ keys url. request site place keys [] None (plain_get url) v)
      (target_of (deck_url place) text)
      (λ url. request_leaves place [] None (plain_get url) v)))

  -- ---- keys

  or_leaves : (otherwise : Scene) (w : World) (one : Option Task)
      → StepLeaves (λ keys. act_or otherwise site keys w one)
  or_leaves otherwise w None = λ keys. refl
  or_leaves otherwise w (Some one) = act_leaves w (then_task one)

  choice_leaves : (place : Option Place) (w : World) (answer : Chosen)
      → StepLeaves (λ keys. after_choice site keys place w answer)
  choice_leaves place w chosen.NoOption keys = refl
  choice_leaves place w (chosen.Set faults one) keys =
      ap (then_step (quiet keys (record { world = w; lines = flat_map fault_lines faults })))
      (or_leaves (show place w) w one keys)

  expire_leaves : (place : Place) (w : World) → StepLeaves (λ keys. expire site keys place w)
  expire_leaves place w keys =
      let late = end_timer place.card w in
      ap (then_step (quiet keys late))
      (or_leaves (still late.world) late.world (event_task (Some place) event.Timer late.world)
      keys)

  time_leaves : (n : ℕ) (t : Timer) (place : Place) (w : World)
      → StepLeaves (λ keys. pass_time site keys n t place w)
  time_leaves n NotStarted place w = λ keys. refl
  time_leaves n (Running time) place w = by (ltb n time)
    where
      by : (b : Bool) → StepLeaves (λ keys. cond b
          (quiet keys (still (record w { timer = Running (time - n) })))
          (expire site keys place w))
      by true = λ keys. refl
      by false = expire_leaves place w
  time_leaves n Off place w = λ keys. refl
  time_leaves n Expired place w = λ keys. refl

  card_leaves : (w : World) (rule : List Key → Place → Step)
      → ((place : Place) → StepLeaves (λ keys. rule keys place)) → (o : Option Place)
      → StepLeaves (λ keys. at_card keys w (rule keys) o)
  card_leaves w rule each None = λ keys. refl
  card_leaves w rule each (Some place) = each place

  apply_leaves : (place : Option Place) (w : World) (one : Key)
      → StepLeaves (λ keys. apply site place keys w one)
  apply_leaves place w (key.Open url) = visit_leaves place w url
  apply_leaves place w (key.Do name) =
      card_leaves w (λ k p. act_or (ignored w) site k w (do_task w.vars p.deck p.card name))
      (λ p. or_leaves (ignored w) w (do_task w.vars p.deck p.card name)) place
  apply_leaves place w (key.Pick n) =
      card_leaves w (λ k p. act_or (ignored w) site k w (link_task w.vars p.card n))
      (λ p. or_leaves (ignored w) w (link_task w.vars p.card n)) place
  apply_leaves place w (key.Enter n text) =
      card_leaves w (λ k p. quiet k (type_text n text p w)) (λ p keys. refl) place
  apply_leaves place w (key.Choose n m) =
      card_leaves w (λ k p. choose_option site k n m p w)
      (λ p.
      let made = choose w.vars p.card n m in
      choice_leaves (Some p) (record w { vars = made.vars }) made.answer) place
  apply_leaves place w key.Back =
      card_leaves w (λ k p. act site k w (then_task (task.Prev [])))
      (λ p. act_leaves w (then_task (task.Prev []))) place
  apply_leaves place w (key.Tick n) =
      card_leaves w (λ k p. pass_time site k n w.timer p w) (λ p. time_leaves n w.timer p w) place
  apply_leaves place w _ = λ keys. refl

  -- a key
  pub react_leaves : (one : Key) (w : World) → StepLeaves (λ keys. react site one keys w)
  unfolding react
  react_leaves one w = apply_leaves (place_now site.shelf (renewed w)) (renewed w) one
