-- Entering cards.
use Rattle.std.proofs.Common.{◌≡◌, ◌∙◌, Bool, true, false, List, [], ◌∷◌, ◌++◌, Option, Some, None}
use Rattle.std.proofs.Common.{Ok, Err, refl, sym, ap, ap₂, subst, append_assoc, append-nil}
use Rattle.std.specs.Prelude.{Result, if◌then◌else◌, nat_lt, length, drop}
use Rattle.wap_tokens.specs.markup.Cards.{cards_of}
use Rattle.std.specs.Option.{option_and_then}
use Rattle.wap_tokens.specs.declared.markup.deck.Deck.{Deck}
use Rattle.wap_url.specs.declared.url.Url.{Url}
use Rattle.wap_cardrules.specs.declared.event.Event.{Event}
use Rattle.wap_cardrules.specs.declared.event.Event.TheVariants.{Forward, Backward}
use Rattle.wap_cardrules.specs.declared.task.Task.{Task}
use Rattle.wap_cardrules.specs.Values.{Pairs}
use Rattle.wap_world.specs.Shelves.{Shelf}
use Rattle.wap_world.specs.declared.site.page.Page.{Page}
use Rattle.wap_world.specs.declared.site.page.Page.TheVariants as page
use Rattle.wap_world.specs.declared.history.Entry.{Entry}
use Rattle.wap_world.specs.declared.refusal.Refusal.{Refusal}
use Rattle.wap_world.specs.declared.timer.Timer.TheVariants.{NotStarted}
use Rattle.wap_world.specs.World.{World, Place, place_in, deck_at, last_entry}
use Rattle.wap_world.specs.Steps.{Scene, Once, quiet, settled, after_step}
use Rattle.wap_context.specs.host.Finding.{shelved_page}
use Rattle.wap_world.specs.Requests.{test, test_of}
use Rattle.wap_world.specs.Access.{entrance_of, may_enter}
use Rattle.wap_world.specs.declared.refusal.Refusal.TheVariants as refusals
use Rattle.wap_world.specs.History.{pushed, entry_of, in_deck, back_at, all_but_last}
use Rattle.wap_world.specs.Screens.{show}
use Rattle.wap_world.specs.Entering.{event_task, or_show, begin_event, enter}
use Rattle.wap_world.specs.Tasks.{card_for, is_new_context, in_context, leave_and_set, refusing}
use Rattle.wap_world.specs.Tasks.{unless_refused, deck_or_refusal, arrive, arrive_if, return}
use Rattle.wap_context.specs.host.Finding.{shelved_page}
use Rattle.wap_context.specs.Browsers.{Browser, IsOver, place_held, Shows}
use Rattle.wap_state.specs.Scenes.{Line}
use Rattle.wap_context.specs.declared.waiting.Went.{Went}
use Rattle.wap_context.specs.declared.waiting.Went.TheVariants.{Settled, Leads}
use Rattle.wap_context.specs.inside.Moving.{Moves, HasDeck, Answers}
use Rattle.wap_context.specs.inside.Moving.{page_answer}
use Rattle.wap_world.proofs.Entries.{last_pushed, earlier_url}
use Rattle.wap_context.proofs.Plays.{history_kept, turns_kept, over_kept}

-- the answer of a page that is entered is one of a page that is gone back to
pub entered_deck : (one : Page) (answer : Result Deck Refusal) → page_answer one ≡ Ok answer
    → answer ≡ deck_or_refusal (shelved_page one)
entered_deck (page.Script unit) answer is = absurd (cc)
entered_deck _ answer is = cc

-- a scene that settles a navigation
pub moves_settled : (rule : Option Place → World → Scene) (old new : Browser)
    (before after : List Line)
    → Shows rule old new before after
    → Moves (settled (quiet [] (rule (place_held old) old.world))) None
    (λ shelf. IsOver shelf old) old new before after Settled
moves_settled rule old new before after one =
    let scene = rule (place_held old) old.world in
    record {
      world = one.plays.world;
      lines = one.plays.lines;
      leads = refl;
      waits = refl;
      closed = refl;
      asked = refl;
      turns = turns_kept scene old.world new.world before after one.plays;
      over =
          λ shelf over. over_kept shelf old new one.deck
          (history_kept scene old.world new.world before after one.plays) over;
    }

-- what an event begins at the place at hand, by its task
abbrev Begun : Event → Browser → Browser → List Line → List Line → Went → Option Task → Type 0
Begun event old new before after went task =
    Moves (or_show (place_held old) [] task old.world) None
    (λ shelf. IsOver shelf old) old new before after went

-- an event that has a task
pub begin_some : (event : Event) (old : Browser) (lines : List Line) (found : Option Task)
    (task : Task) → found ≡ event_task (place_held old) event old.world → found ≡ Some task
    → Moves (begin_event (place_held old) [] event old.world) None (λ shelf. IsOver shelf old) old
    old lines lines (Leads task None)
begin_some event old lines found task is there =
    subst (Begun event old old lines lines (Leads task None)) (sym there ∙ is)
    (record {
      world = refl;
      lines = sym (append-nil lines);
      leads = refl;
      waits = refl;
      closed = refl;
      asked = refl;
      turns = refl;
      over = λ shelf over. over;
    })

-- one that has none
pub begin_none : (event : Event) (old new : Browser) (before after : List Line)
    (found : Option Task) → found ≡ event_task (place_held old) event old.world → found ≡ None
    → Shows show old new before after
    → Moves (begin_event (place_held old) [] event old.world) None
    (λ shelf. IsOver shelf old) old new before after Settled
begin_none event old new before after found is there shown =
    subst (Begun event old new before after Settled) (sym there ∙ is)
    (moves_settled show old new before after shown)

-- the timer is not started before
pub enters_by : (event : Event) (old mid new : Browser) (before after : List Line)
    (went : Went)
    → mid ≡ record old { world = record old.world { timer = NotStarted } }
    → Moves (begin_event (place_held mid) [] event mid.world) None (λ shelf. IsOver shelf mid) mid
    new before after went
    → Moves (enter (place_held old) [] event old.world) None (λ shelf. IsOver shelf old) old new
    before after went
enters_by event old mid new before after went is moves =
    let one = subst (λ (b : Browser).
    Moves (begin_event (place_held b) [] event b.world) None (λ shelf. IsOver shelf b) b new before
    after went)
    is moves in
    record {
      world = one.world;
      lines = one.lines;
      leads = one.leads;
      waits = one.waits;
      closed = one.closed;
      asked = one.asked;
      turns = one.turns;
      over = one.over;
    }

-- a card that is left, and another that is entered
module _ (sets : Pairs) (event : Event) (old left mid new : Browser)
    (before shown after : List Line)
    (went : Went) (entry : Entry) (deck : Deck)
    (leaves : Shows (λ place. leave_and_set place sets) old left before shown)
    (there : place_held mid ≡ place_in entry deck)
    (enters : Moves (enter (place_held mid) [] event mid.world) None
    (λ shelf. IsOver shelf mid) mid new shown after went) where
  abbrev scene : Scene
  scene = leave_and_set (place_held old) sets old.world

  abbrev entered : World → Once
  entered world = enter (place_in entry deck) [] event world

  pub moves_on : (url : Url) (inside : World → World) → mid.world ≡ inside left.world
      → mid.world.turns ≡ left.world.turns
      → ((shelf : Shelf) → HasDeck url deck shelf → IsOver shelf mid)
      → Moves (after_step (quiet [] scene) (entered (inside scene.world))) None
      (HasDeck url deck) old new before after went
  moves_on url inside mid_is turns over =
      let world : mid.world ≡ inside scene.world = mid_is ∙ ap inside leaves.plays.world in
      let onces : enter (place_held mid) [] event mid.world ≡ entered (inside scene.world) =
      ap₂ (λ (p : Option Place) (w : World). enter p [] event w) there world in
      record {
        world = enters.world ∙ ap (λ (o : Once). o.step.world) onces;
        lines = enters.lines
            ∙ ap₂ (λ (l m : List Line). l ++ m) leaves.plays.lines
            (ap (λ (o : Once). o.step.lines) onces)
            ∙ append_assoc before scene.lines (entered (inside scene.world)).step.lines;
        leads = enters.leads ∙ ap (λ (o : Once). o.next) onces;
        waits = enters.waits;
        closed = sym (ap (λ (o : Once). o.step.is_open) onces) ∙ enters.closed;
        asked = sym (ap (λ (o : Once). o.step.asked) onces) ∙ enters.asked;
        turns =
            enters.turns ∙ turns ∙ turns_kept scene old.world left.world before shown leaves.plays;
        over = λ shelf has. enters.over shelf (over shelf has);
      }

-- ---- the place after a push

pub place_pushed : (history : List Entry) (entry : Entry) (mid : Browser) (deck : Deck)
    → mid.world.history ≡ history ++ entry ∷ [] → mid.deck ≡ Some deck
    → place_held mid ≡ place_in entry deck
place_pushed history entry mid deck is held =
    let last : last_entry mid.world ≡ Some entry =
    ap (λ (h : List Entry). last_entry (record mid.world { history = h })) is
    ∙ last_pushed None history entry in
    ap₂ (λ (d : Option Deck) (e : Option Entry).
    option_and_then (λ (one : Entry). option_and_then (place_in one) d) e) held last

pub over_pushed : (history : List Entry) (entry : Entry) (mid : Browser)
    (deck : Deck) (shelf : Shelf)
    → mid.world.history ≡ history ++ entry ∷ [] → mid.deck ≡ Some deck
    → deck_at shelf entry.url ≡ Some deck → IsOver shelf mid
over_pushed history entry mid deck shelf is held has =
    let last : last_entry mid.world ≡ Some entry =
    ap (λ (h : List Entry). last_entry (record mid.world { history = h })) is
    ∙ last_pushed None history entry in
    ap (option_and_then (λ (one : Entry). deck_at shelf one.url)) last ∙ has ∙ sym held

pub context_turns : (new : Bool) (w : World)
    → (if new then record w { vars = []; history = []; timer = NotStarted } else w).turns ≡ w.turns
context_turns true w = refl
context_turns false w = refl

pub arrives : (sets : Pairs) (url : Url) (deck : Deck) (old left mid new : Browser)
    (before shown after : List Line) (went : Went)
    → Shows (λ place. leave_and_set place sets) old left before shown
    → mid ≡ record {
      world =
          pushed (in_context deck (card_for deck url) left.world)
          (entry_of url (card_for deck url));
      deck = Some deck;
    }
    → Moves (enter (place_held mid) [] Forward mid.world) None
    (λ shelf. IsOver shelf mid) mid new shown after went
    → Moves (arrive (place_held old) [] sets url old.world deck) None
    (HasDeck url deck) old new before after went
arrives sets url deck old left mid new before shown after went leaves mid_is enters =
    let number = card_for deck url in
    let entry = entry_of url number in
    let context = in_context deck number left.world in
    let kept =
    if nat_lt (length context.history) context.limits.history then context.history
    else drop 1 context.history in
    let history : mid.world.history ≡ kept ++ entry ∷ [] =
    ap (λ (b : Browser). b.world.history) mid_is in
    let held : mid.deck ≡ Some deck = ap (λ (b : Browser). b.deck) mid_is in
    moves_on sets Forward old left mid new before shown after went entry deck leaves
    (place_pushed kept entry mid deck history held) enters url
    (λ w. pushed (in_context deck number w) entry) (ap (λ (b : Browser). b.world) mid_is)
    (ap (λ (b : Browser). b.world.turns) mid_is
    ∙ context_turns (is_new_context deck number) left.world)
    (λ shelf has. over_pushed kept entry mid deck shelf history held has)

pub returns_to : (sets : Pairs) (earlier : Entry) (deck : Deck) (old left mid new : Browser)
    (before shown after : List Line) (went : Went)
    → Shows (λ place. leave_and_set place sets) old left before shown
    → mid ≡ record { world = back_at left.world (in_deck deck earlier); deck = Some deck }
    → Moves (enter (place_held mid) [] Backward mid.world) None
    (λ shelf. IsOver shelf mid) mid new shown after went
    → Moves (return (place_held old) [] sets earlier old.world deck) None
    (HasDeck earlier.url deck) old new before after went
returns_to sets earlier deck old left mid new before shown after went leaves mid_is enters =
    let entry = in_deck deck earlier in
    let kept = all_but_last (all_but_last left.world.history) in
    let history : mid.world.history ≡ kept ++ entry ∷ [] =
    ap (λ (b : Browser). b.world.history) mid_is in
    let held : mid.deck ≡ Some deck = ap (λ (b : Browser). b.deck) mid_is in
    let url : entry.url ≡ earlier.url =
    earlier_url (nat_lt earlier.card (length (cards_of deck))) earlier in
    moves_on sets Backward old left mid new before shown after went entry deck leaves
    (place_pushed kept entry mid deck history held) enters earlier.url
    (λ w. back_at w entry) (ap (λ (b : Browser). b.world) mid_is)
    (ap (λ (b : Browser). b.world.turns) mid_is)
    (λ shelf has. over_pushed kept entry mid deck shelf history held (ap (deck_at shelf) url ∙ has))

-- ---- answers

pub moves_where : (once : Once) (These Others : Shelf → Type 0) (old new : Browser)
    (before after : List Line) (went : Went)
    → ((shelf : Shelf) → Others shelf → These shelf)
    → Moves once None These old new before after went
    → Moves once None Others old new before after went
moves_where once These Others old new before after went onto moves = record {
  world = moves.world;
  lines = moves.lines;
  leads = moves.leads;
  waits = moves.waits;
  closed = moves.closed;
  asked = moves.asked;
  turns = moves.turns;
  over = λ shelf so. moves.over shelf (onto shelf so);
}

module _ (rule : Deck → Once) (url : Url) (old new : Browser) (before after : List Line)
    (went : Went)
    (answer : Result Deck Refusal) where
  abbrev MovesBy : Result Deck Refusal → Type 0
  MovesBy one =
      Moves (unless_refused (place_held old) [] old.world rule one) None
      (Answers url one old) old new before after went

  pub moves_ok : (deck : Deck) (These : Shelf → Type 0) → answer ≡ Ok deck
      → ((shelf : Shelf) → IsOver shelf old → HasDeck url deck shelf → These shelf)
      → Moves (rule deck) None These old new before after went → MovesBy answer
  moves_ok deck These is onto moves = subst MovesBy (sym is)
      (moves_where (rule deck) These (Answers url (Ok deck) old) old new before after went
      (λ shelf so. onto shelf so.0 so.1) moves)

  pub moves_no : (refusal : Refusal) → answer ≡ Err refusal
      → Moves (refusing (place_held old) [] refusal old.world) None
      (λ shelf. IsOver shelf old) old new before after went
      → MovesBy answer
  moves_no refusal is moves = subst MovesBy (sym is)
      (moves_where (refusing (place_held old) [] refusal old.world) (λ shelf. IsOver shelf old)
      (Answers url (Err refusal) old) old new before after went
      (λ shelf so. so.0) moves)

module _ (sets : Pairs) (caller : Option Url) (url : Url) (deck : Deck) (old new : Browser)
    (before after : List Line) (went : Went) where
  abbrev Tries : Bool → Type 0
  Tries b =
      Moves (after_step (test [] (test_of url caller (entrance_of deck)) old.world)
      (arrive_if (place_held old) [] sets url old.world deck b)) None
      (λ shelf. IsOver shelf old × HasDeck url deck shelf) old new before after went

  pub tries_allowed : may_enter url (entrance_of deck) caller ≡ true
      → Moves (arrive (place_held old) [] sets url old.world deck) None
      (HasDeck url deck) old new before after went
      → Tries (may_enter url (entrance_of deck) caller)
  tries_allowed is moves = subst Tries (sym is) (record {
    world = moves.world;
    lines = moves.lines;
    leads = moves.leads;
    waits = moves.waits;
    closed = moves.closed;
    asked = moves.asked;
    turns = moves.turns;
    over = λ shelf so. moves.over shelf so.1;
  })

  pub tries_denied : may_enter url (entrance_of deck) caller ≡ false
      → Moves (refusing (place_held old) [] refusals.Denied old.world) None
      (λ shelf. IsOver shelf old) old new before after went
      → Tries (may_enter url (entrance_of deck) caller)
  tries_denied is moves = subst Tries (sym is) (record {
    world = moves.world;
    lines = moves.lines;
    leads = moves.leads;
    waits = moves.waits;
    closed = moves.closed;
    asked = moves.asked;
    turns = moves.turns;
    over = λ shelf so. moves.over shelf so.0;
  })
