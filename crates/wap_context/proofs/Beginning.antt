-- Scripts that are started: what the decision and the start come to.
use Rattle.std.proofs.Common.{◌≡◌, Err, ◌∙◌, ℕ, Bool, true, false, List, [], ◌∷◌, Option, Some}
use Rattle.std.proofs.Common.{None, Ok, refl, sym, ap, ap₂, subst, cond, eqb, arith, append-nil}
use Rattle.std.specs.Prelude.{Result, length, slice_get}
use Rattle.std.specs.Option.{option_map, option_and_then}
use Rattle.std.specs.List.{list_any}
use Rattle.std.proofs.lemmas.Bool.{eqb-true, eq-eqb}
use Rattle.wap_base.specs.declared.fault.RunErr.{RunErr}
use Rattle.wap_base.specs.declared.limits.Limits.{Limits}
use Rattle.wap_url.specs.declared.url.Url.{Url}
use Rattle.wap_url.specs.Printing.{without_fragment}
use Rattle.wap_value.specs.declared.value.Value.{Value}
use Rattle.wap_unit.specs.declared.unit.Unit.{Unit}
use Rattle.wap_unit.specs.declared.unit.Code.{Code}
use Rattle.wap_base.specs.declared.key.Key.{Key}
use Rattle.wap_execution.specs.declared.fatal.Fatal.{Fatal}
use Rattle.wap_execution.specs.declared.fatal.Fatal.TheVariants as fatal
use Rattle.wap_execution.specs.Frames.{Function, Frame, code_at, begun}
use Rattle.wap_execution.specs.Running.{finished, resumed}
use Rattle.wap_execution.specs.laws.Settings.{uncounted}
use Rattle.wap_machine.specs.Standing.{CanEnter}
use Rattle.wap_machine.specs.Stacks.{Stack, stack, answered, IsEntered}
use Rattle.wap_cardrules.specs.Values.{Pairs}
use Rattle.wap_world.specs.site.Asking.{Seen}
use Rattle.wap_world.proofs.SiteLemmas.Asking.{Asks-nil, Stays-same}
use Rattle.wap_world.specs.Shelves.{Shelf}
use Rattle.wap_world.specs.World.{World, Place}
use Rattle.wap_world.specs.Steps.{Scene, Step, Once, still, quiet, after_step}
use Rattle.wap_world.specs.Setting.{set_variables}
use Rattle.wap_world.specs.Sites.{failed as failed_by, External, Call}
use Rattle.wap_world.specs.Access.{may_enter}
use Rattle.wap_world.specs.Requests.{test, test_of}
use Rattle.wap_world.specs.Starting.{Start, is_too_long, not_started, end_by, ended_script}
use Rattle.wap_world.specs.Starting.{start_of, start_by, started, start_if, external_started}
use Rattle.wap_world.specs.Tasks.{try_script}
use Rattle.wap_base.proofs.Choices.{ok_same}
use Rattle.wap_world.specs.scripting.Units.{entrance_in, index_named, external_in}
use Rattle.wap_world.specs.scripting.UnitSites.{Pages, shelf_of, unit_pages, keyed_host, ran_of}
use Rattle.wap_world.specs.scripting.UnitSites.{started_at, unit_script}
use Rattle.wap_world.specs.scripting.Waiting.{inside}
use Rattle.wap_state.specs.Scenes.{Line}
use Rattle.wap_context.specs.declared.waiting.Went.{Went}
use Rattle.wap_context.specs.Browsers.{Browser, IsOver, place_held, Shows}
use Rattle.wap_context.specs.Pausing.{Paused}
use Rattle.wap_context.specs.inside.Moving.{Moves, Takes}
use Rattle.wap_context.specs.inside.Starting.{call_at, run_with}
use Rattle.wap_context.specs.inside.Starting.{end_at}
use Rattle.wap_machine.specs.declared.machine.Outcome.TheVariants.{Fatal as Died}
use Rattle.wap_world.proofs.ScriptingLawsLemmas.Runs.{keys_end}
use Rattle.wap_context.proofs.Places.{held_now}
use Rattle.wap_context.proofs.Plays.{history_kept, over_kept, turns_kept}
use Rattle.wap_context.proofs.Takings.{Rule, takes_moves, takes_by, takes_from, takes_after}

-- ---- what is started can be entered

-- the code of the function that a name finds
code_found : (unit : Unit) (index : ℕ) (one : External) (found : Option Code)
    → slice_get unit.functions index ≡ found
    → option_map (λ (code : Code). record { index = index; arguments = code.args }) found ≡ Some one
    → (code : Code) × ((slice_get unit.functions one.index ≡ Some code)
    × (code.args ≡ one.arguments))
code_found unit index one None at is = absurd (cc)
code_found unit index one (Some code) at is =
    let same : record { index = index; arguments = code.args } ≡ one = cc in (
      code,
      (
        ap (λ (e : External). slice_get unit.functions e.index) (sym same) ∙ at,
        ap (λ (e : External). e.arguments) same,
      ),
    )

external_code : (unit : Unit) (one : External) (index : Option ℕ)
    → option_and_then (λ (i : ℕ). option_map
    (λ (code : Code). record { index = i; arguments = code.args }) (slice_get unit.functions i))
    index ≡ Some one
    → (code : Code) × ((slice_get unit.functions one.index ≡ Some code)
    × (code.args ≡ one.arguments))
external_code unit one None is = absurd (cc)
external_code unit one (Some index) is =
    code_found unit index one (slice_get unit.functions index) refl is

long_starts : (given arguments : List Value) (one : External) (index : ℕ) (b : Bool)
    → ◌≡◌ {A = Start} (cond b (Err fatal.TooLong) (Ok (one.index, given))) (Ok (index, arguments))
    → (one.index ≡ index) × (given ≡ arguments)
long_starts given arguments one index true is = absurd (cc)
long_starts given arguments one index false is =
    let same = ok_same {E = Fatal} (one.index, given) (index, arguments) is in (
      ap (λ (s : ℕ × List Value). s.0) same,
      ap (λ (s : ℕ × List Value). s.1) same,
    )

module _ (unit : Unit) (string : ℕ) (base : Url) (referer : Option Url) (index : ℕ)
    (arguments : List Value) where
  abbrev function : Function
  function = record { unit = unit; base = base; referer = referer; index = index }

  -- this is started
  abbrev Starts : Start → Type 0
  Starts start = start ≡ Ok (index, arguments)

  many_enters : (given : List Value) (name : List ℕ) (one : External) (b : Bool)
      → external_in unit name ≡ Some one → eqb one.arguments (length given) ≡ b
      → Starts (cond b (cond (list_any (is_too_long string) given) (Err fatal.TooLong)
      (Ok (one.index, given))) (Err fatal.Arguments))
      → CanEnter function arguments
  many_enters given name one false is many starts = absurd (cc)
  many_enters given name one true is many starts =
      let same = long_starts given arguments one index (list_any (is_too_long string) given) starts
      in
      let there = external_code unit one (index_named unit name) is in
      record {
        code = there.0;
        found = ap (slice_get unit.functions) (sym same.0) ∙ there.1.0;
        as_many = ap (λ (a : List Value). length a) (sym same.1)
            ∙ sym (eqb-true one.arguments (length given) many) ∙ sym there.1.1;
      }

  found_enters : (given : List Value) (name : List ℕ) (external : Option External)
      → external_in unit name ≡ external → Starts (start_of string given external)
      → CanEnter function arguments
  found_enters given name None is starts = absurd (cc)
  found_enters given name (Some one) is starts =
      many_enters given name one (eqb one.arguments (length given)) is refl starts

  pub start_enters : (call : Option Call) (found : Start)
      → found ≡ start_by (external_in unit) string call → Starts found
      → CanEnter function arguments
  start_enters None found is starts = absurd (cc)
  start_enters (Some call) found is starts =
      found_enters call.arguments call.function (external_in unit call.function) refl
      (sym is ∙ starts)

-- ---- what is started, or why nothing is

module _ (seen : Seen) (old new : Browser) (before shown : List Line) (unit : Unit) (sets : Pairs)
    (caller : Option Url) (url : Url) where
  -- the place at hand
  abbrev place : Option Place
  place = place_held old

  -- whatever is started
  abbrev starts : Pages → List Key → World → Start → Once
  starts pages keys = started (shelf_of pages) (unit_script pages unit) place keys sets caller url

  -- its rule
  abbrev pub Starting : Rule
  Starting pages keys world = starts pages keys world
      (start_by (external_in unit) world.limits.string (call_at url))

  -- what is found starts in the browser's world
  starts_found : (found : Start) (string : ℕ)
      → found ≡ start_by (external_in unit) string (call_at url)
      → string ≡ old.world.limits.string → (pages : Pages) (keys : List Key)
      → starts pages keys old.world found ≡ Starting pages keys old.world
  starts_found found string is limit pages keys =
      ap (starts pages keys old.world)
      (is ∙ ap (λ (n : ℕ). start_by (external_in unit) n (call_at url)) limit)

  pub start_rejects : (why : Fatal) (found : Start) (string : ℕ) (went : Went)
      → found ≡ start_by (external_in unit) string (call_at url)
      → string ≡ old.world.limits.string → found ≡ Err why
      → Moves (not_started (place_held old) [] why old.world) None (λ shelf. IsOver shelf old) old
      new before shown went
      → Takes Starting seen seen old new before shown (Ok went)
  start_rejects why found string went is limit rejected moves =
      takes_moves Starting seen old new before shown went
      (not_started (place_held old) [] why old.world) (λ shelf. IsOver shelf old) moves
      (λ judged may over.
      let pages = unit_pages judged in (
        over,
        λ keys. sym (starts_found found string is limit pages keys)
            ∙ ap (starts pages keys old.world) rejected,
      ))

  -- the rule for a function
  abbrev pub Begins : ℕ → List Value → Rule
  Begins index arguments pages keys world =
      external_started (shelf_of pages) (unit_script pages unit) keys sets caller url world index
      arguments

  pub start_begins : (after : Seen) (result : Result Went RunErr) (found : Start) (string : ℕ)
      (index : ℕ) (arguments : List Value)
      → found ≡ start_by (external_in unit) string (call_at url)
      → string ≡ old.world.limits.string → found ≡ Ok (index, arguments)
      → Takes (Begins index arguments) seen after old new before shown result
      → Takes Starting seen after old new before shown result
  start_begins after result found string index arguments is limit runs takes =
      takes_from Starting (Begins index arguments) seen after old new before shown result
      (λ pages over keys. ap (starts pages keys old.world) (sym runs)
      ∙ starts_found found string is limit pages keys) takes

  -- ---- the access decision

  -- the rule after the test
  abbrev Allowed : Bool → Rule
  Allowed b pages keys world =
      start_if (shelf_of pages) (unit_script pages unit) place keys sets caller url world
      (call_at url) b

  -- and with it
  abbrev pub Tries : Rule
  Tries pages keys world =
      try_script (shelf_of pages) (unit_script pages unit) place keys sets caller url world
      (call_at url) (entrance_in unit)

  tested : (after : Seen) (result : Result Went RunErr) (b : Bool)
      → b ≡ may_enter url (entrance_in unit) caller
      → Takes (Allowed b) seen after old new before shown result
      → Takes Tries seen after old new before shown result
  tested after result b is takes =
      let one = test_of url caller (entrance_in unit) in
      takes_after Tries (Allowed b) (test [] one old.world) seen seen
      after old new before before shown result (sym (append-nil before)) refl (Stays-same seen) refl
      (λ judged may over. (
        Asks-nil seen,
        λ keys.
            ap (λ (c : Bool). after_step (test keys one old.world)
            (Allowed c (unit_pages judged) keys old.world)) (sym is),
      ))
      takes

  pub script_allowed : (after : Seen) (result : Result Went RunErr) (b : Bool)
      → b ≡ may_enter url (entrance_in unit) caller → b ≡ true
      → Takes Starting seen after old new before shown result
      → Takes Tries seen after old new before shown result
  script_allowed after result b is allowed takes =
      tested after result true (sym allowed ∙ is) takes

  pub script_denied : (went : Went) (b : Bool)
      → b ≡ may_enter url (entrance_in unit) caller → b ≡ false
      → Moves (not_started (place_held old) [] fatal.Denied old.world) None
      (λ shelf. IsOver shelf old)
      old
      new before shown went
      → Takes Tries seen seen old new before shown (Ok went)
  script_denied went b is denied moves =
      tested seen (Ok went) false (sym denied ∙ is)
      (takes_moves (Allowed false) seen old new before shown went
      (not_started (place_held old) [] fatal.Denied old.world) (λ shelf. IsOver shelf old) moves
      (λ judged may over. (over, λ keys. refl)))

-- ---- the start

-- a function that takes so many arguments, at its beginning
frames_is : (function : Function) (arguments : List Value) (code : Code)
    → code_at function ≡ Some code → length arguments ≡ code.args
    → begun function code arguments ∷ [] ≡ started_at function arguments (code_at function)
frames_is function arguments code found many =
    sym (ap (started_at function arguments) found
    ∙ ap (λ (b : Bool). cond b (begun function code arguments ∷ []) [])
    (eq-eqb (length arguments) code.args many))

-- nothing is pending
abbrev pub cleared : Browser → Browser
cleared b = record b { world = record b.world { pending = None } }

module _ (unit : Unit) (sets : Pairs) (caller : Option Url) (url : Url) (index : ℕ)
    (arguments : List Value) (old left mid : Browser) (first : List Line) (machine : Stack)
    (base : Url) (limits : Limits)
    (plays : Shows (λ place. set_variables sets) old left [] first) (mid_is : mid ≡ cleared left)
    (base_is : base ≡ without_fragment url) (limits_are : limits ≡ mid.world.limits)
    (entered : IsEntered limits
    (record { unit = unit; base = base; referer = caller; index = index }) arguments [] machine)
  where
    abbrev set : Scene
    set = set_variables sets old.world

    world_is : mid.world ≡ record set.world { pending = None }
    world_is = ap (λ (b : Browser). b.world) mid_is
        ∙ ap (λ (w : World). record w { pending = None }) plays.plays.world

    begin_is : (pages : Pages) (keys : List Key)
        → run_with machine base first pages keys mid.world
        ≡ external_started (shelf_of pages) (unit_script pages unit) keys sets caller url old.world
        index arguments
    begin_is pages keys =
        let function : Function =
        record { unit = unit; base = base; referer = caller; index = index } in
        let machine_is : machine
        ≡ stack old.world.limits (started_at function arguments (code_at function)) =
        entered.is
        ∙ ap₂ stack (limits_are ∙ ap (λ (w : World). w.limits) world_is)
        (frames_is function arguments entered.code entered.found entered.many) in
        ap (λ (m : Stack). run_with m base first pages keys mid.world) machine_is
        ∙ ap (λ (f : List Line). run_with
        (stack old.world.limits (started_at function arguments (code_at function))) base f pages
        keys
        mid.world) plays.plays.lines
        ∙ ap (λ (w : World). run_with
        (stack old.world.limits (started_at function arguments (code_at function))) base set.lines
        pages keys w) world_is
        ∙ ap (λ (b : Url).
        let one : Function = record { unit = unit; base = b; referer = caller; index = index } in
        run_with (stack old.world.limits (started_at one arguments (code_at one))) b set.lines
        pages keys (record set.world { pending = None })) base_is

    left_over : (shelf : Shelf) → IsOver shelf old → IsOver shelf mid
    left_over shelf over = subst (IsOver shelf) (sym mid_is)
        (over_kept shelf old left plays.deck
        (history_kept set old.world left.world [] first plays.plays) over)

    pub begin_takes : (seen after : Seen) (new : Browser) (before shown : List Line)
        (result : Result Went RunErr)
        → Takes (run_with machine base first) seen after mid new before shown result
        → Takes (λ pages keys world. external_started (shelf_of pages) (unit_script pages unit) keys
        sets caller url world index arguments) seen after old new before shown result
    begin_takes seen after new before shown result takes =
        takes_by (λ pages keys world. external_started (shelf_of pages) (unit_script pages unit)
        keys sets caller url world index arguments) (run_with machine base first) seen
        after old mid new before shown result (λ pages over. left_over (shelf_of pages) over)
        (λ pages over keys. begin_is pages keys)
        (omega (
          arith,
          ap (λ (b : Browser). b.world.turns) mid_is,
          turns_kept set old.world left.world [] first plays.plays,
        )) takes

-- ---- scripts that wait

-- the machine with an answer is that of the definition
answer_is : (limits : Limits) (pages : Pages) (frames : List Frame) (v : Value) (turns : ℕ)
    (step : Step)
    → ran_of (finished (uncounted limits (keyed_host pages)) (answered v frames) turns step)
    ≡ ran_of (resumed (uncounted limits (keyed_host pages)) frames v turns step)
unfolding finished resumed
answer_is limits pages [] v turns step = refl
answer_is limits pages (frame ∷ outer) v turns step = refl

-- the rule for the navigation of an answer, and of a stop
abbrev pub Answers : Paused → Value → Rule
Answers paused v pages keys world = ended_script (shelf_of pages) paused.base
    (ran_of (resumed (uncounted paused.limits (keyed_host pages)) paused.frames v world.turns
    (quiet keys (still (inside world)))))

pub answer_takes : (paused : Paused) (v : Value) (machine : Stack) (base : Url) (first : List Line)
    (seen after : Seen) (old new : Browser) (before shown : List Line) (result : Result Went RunErr)
    → machine ≡ stack paused.limits (answered v paused.frames) → base ≡ paused.base → first ≡ []
    → Takes (run_with machine base first) seen after old new before shown result
    → Takes (Answers paused v) seen after old new before shown result
answer_takes paused v machine base first seen after old new before shown result is base_is none
    takes =
    takes_from (Answers paused v) (run_with machine base first) seen after old new before shown
    result
    (λ pages over keys.
    ap (λ (m : Stack). run_with m base first pages keys old.world) is
    ∙ ap (λ (b : Url). run_with (stack paused.limits (answered v paused.frames)) b first pages keys
    old.world) base_is
    ∙ ap (λ (f : List Line). run_with (stack paused.limits (answered v paused.frames)) paused.base f
    pages keys old.world) none
    ∙ ap (ended_script (shelf_of pages) paused.base)
    (answer_is paused.limits pages paused.frames v old.world.turns
    (quiet keys (still (inside old.world))))) takes

abbrev pub Stops : Url → Rule
Stops base pages keys world = ended_script (shelf_of pages) base (record {
  end = failed_by fatal.Stopped;
  turns = world.turns;
  step = quiet keys (still (inside world));
})

pub stop_takes : (seen : Seen) (old new : Browser) (before shown : List Line) (base at : Url)
    (went : Went) → at ≡ base
    → Moves (end_at (place_held old) at (Died fatal.Stopped) old.world) None
    (λ shelf. IsOver shelf old)
    old new before shown went
    → Takes (Stops base) seen seen old new before shown (Ok went)
stop_takes seen old new before shown base at went at_is moves =
    takes_moves (Stops base) seen old new before shown went
    (end_at (place_held old) at (Died fatal.Stopped) old.world) (λ shelf. IsOver shelf old) moves
    (λ judged may over.
    let stopped = failed_by fatal.Stopped in (
      over,
      λ keys.
          ap (λ (p : Option Place). end_by p base stopped (quiet keys (still old.world)))
          (held_now (shelf_of (unit_pages judged)) old over)
          ∙ keys_end (place_held old) base stopped keys (quiet [] (still old.world)),
    ))
