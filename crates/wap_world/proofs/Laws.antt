-- What a reader expects of the definitions.
use Rattle.std.proofs.Common.{◌≡◌, ℕ, ◌≤◌, Bool, true, false, List, [], ◌∷◌, ◌++◌, Option, Some}
use Rattle.std.proofs.Common.{None, refl, sym, ap, ◌∙◌, arith}
use Rattle.std.proofs.lemmas.List.{length-append, length-drop, length-take}
use Rattle.std.specs.Prelude.{length, drop, nat_lt, if◌then◌else◌}
use Rattle.std.specs.Option.{option_and_then}
use Rattle.wap_base.specs.declared.key.Key.{Key}
use Rattle.wap_url.specs.declared.url.Url.{Url}
use Rattle.wap_url.specs.Printing.{name_for}
use Rattle.wap_tokens.specs.declared.markup.deck.Deck.{Deck}
use Rattle.wap_execution.specs.declared.fatal.Fatal.TheVariants as fatal
use Rattle.wap_cardrules.specs.Values.{Pairs}
use Rattle.wap_world.specs.site.Pages.{Pages}
use Rattle.wap_world.specs.declared.history.Entry.{Entry}
use Rattle.wap_world.specs.declared.refusal.Refusal.TheVariants as refusals
use Rattle.wap_world.specs.Shelves.{Entrance, deck_page, script_page}
use Rattle.wap_world.specs.Sites.{Site, Call, Ran, script_of}
use Rattle.wap_world.specs.Decks.{decks_site}
use Rattle.wap_world.specs.World.{World, Place, place_now}
use Rattle.wap_world.specs.Steps.{Once, settled, after_step}
use Rattle.wap_world.specs.History.{entry_of, in_deck, all_but_last, KeepsToLimit}
use Rattle.wap_world.specs.Screens.{refuse, show}
use Rattle.wap_world.specs.Access.{may_enter, entrance_of}
use Rattle.wap_world.specs.Requests.{Request, request_line, answer_to, ask, test}
use Rattle.wap_world.specs.Starting.{script_line, start_if, ended_script}
use Rattle.wap_world.specs.Tasks.{request, answered, arrive_if, card_for, go, prev, onward, act}
use Rattle.wap_world.specs.Keys.{react}
use Rattle.wap_cardrules.specs.declared.task.Go.{Go}
use Rattle.wap_world.specs.session_laws.Scripts.{MakesNoKeys, GivesNoTurns, ScriptsKeep}
use Rattle.wap_world.proofs.Alike.{Fact}
use Rattle.wap_world.proofs.Invariants.{Keeps, RunsKeep, go_keeps, prev_keeps, ended_keeps}
use Rattle.wap_world.proofs.Invariants.{react_keeps}
use Rattle.wap_world.proofs.Joining.{before, once_before}
use Rattle.wap_world.proofs.Leaving.{LeavesKeys, react_leaves}

-- ---- keys

-- no more keys are left than so many
abbrev FewKeys : ℕ → Fact
FewKeys n keys w = length keys ≤ n

keys_few : (n : ℕ) (site : Site) → Keeps (FewKeys n) site
keys_few n site = record {
  vars = λ k w v few. few;
  reset = λ k w few. few;
  timer = λ k w t place e is few. few;
  turn = λ k w m e few. few;
  clear = λ k w few. few;
  push = λ k w url deck fine has few. few;
  pop = λ k w e deck fine has few. few;
  begins = λ k w few. few;
  ends = λ k w few. few;
}

runs_few : (n : ℕ) (site : Site) → MakesNoKeys site → RunsKeep (FewKeys n) site
runs_few n site falls name base referer index arguments turns step few =
    omega (falls name base referer index arguments turns step, few, arith)

-- no key makes keys
pub keys_fall : (site : Site) → MakesNoKeys site → (one : Key) (keys : List Key) (world : World)
    → length (react site one keys world).keys ≤ length keys
keys_fall site falls one keys world =
    let n = length keys in
    react_keeps (FewKeys n) site (keys_few n site) (runs_few n site falls) one keys world
    (omega arith)

-- nor does the end of a script, with all that it leads to
pub ended_few : (site : Site) → MakesNoKeys site → (base : Url) (ran : Ran) (n : ℕ)
    → length ran.step.keys ≤ n
    → length (onward (act site) (ended_script site.shelf base ran)).keys ≤ n
ended_few site falls base ran n few =
    ended_keeps (FewKeys n) site (keys_few n site) (runs_few n site falls) base ran few

-- ---- turns

-- no more turns are left than so many
abbrev FewTurns : ℕ → Fact
FewTurns n keys w = w.turns ≤ n

turns_few : (n : ℕ) (site : Site) → Keeps (FewTurns n) site
turns_few n site = record {
  vars = λ k w v few. few;
  reset = λ k w few. few;
  timer = λ k w t place e is few. few;
  turn = λ k w m e few. omega (e, few, arith);
  clear = λ k w few. few;
  push = λ k w url deck fine has few. few;
  pop = λ k w e deck fine has few. few;
  begins = λ k w few. few;
  ends = λ k w few. few;
}

module _ (site : Site) (falls : GivesNoTurns site) where
  turns_given : (n : ℕ) → RunsKeep (FewTurns n) site
  turns_given n name base referer index arguments turns step few =
      omega (falls name base referer index arguments turns step, few, arith)

  -- within a key turns never grow
  pub turns_fall : (one : Key) (keys : List Key) (world : World)
      → (react site one keys world).world.turns ≤ world.budget
  turns_fall one keys world =
      let n = world.budget in
      react_keeps (FewTurns n) site (turns_few n site) (turns_given n) one keys world (omega arith)

  -- nor by a go
  pub go_falls : (keys : List Key) (place : Option Place) (base : Option Url) (one : Go)
      (world : World) → place_now site.shelf world ≡ place
      → (go site place keys base one world).step.world.turns ≤ world.turns
  go_falls keys place base one world is =
      let n = world.turns in
      go_keeps (FewTurns n) site (turns_few n site) (turns_given n) keys place base one world is
      (omega arith)

  -- nor by a prev
  pub prev_falls : (keys : List Key) (place : Option Place) (sets : Pairs) (world : World)
      → place_now site.shelf world ≡ place
      → (prev site.shelf place keys sets world).step.world.turns ≤ world.turns
  prev_falls keys place sets world is =
      let n = world.turns in
      prev_keeps (FewTurns n) site (turns_few n site) (turns_given n) keys place sets world is
      (omega arith)

-- ---- the history

few_pushed : (b : Bool) (limit : ℕ) (history : List Entry) (e : Entry)
    → nat_lt (length history) limit ≡ b → 1 ≤ limit → length history ≤ limit
    → length ((if b then history else drop 1 history) ++ e ∷ []) ≤ limit
few_pushed true limit history e t some few = grind (t, some, few, arith, length-append)
few_pushed false limit history e t some few =
    grind (t, some, few, arith, length-append, length-drop)

-- going back leaves no more entries than the limit
pub few_popped : (limit : ℕ) (history : List Entry) (e : Entry) → 1 ≤ limit → length history ≤ limit
    → length (all_but_last (all_but_last history) ++ e ∷ []) ≤ limit
few_popped limit history e some few = grind (some, few, arith, length-append, length-take)

-- it keeps to its limit
abbrev Bound : Fact
Bound keys w = KeepsToLimit w

bound_kept : (site : Site) → Keeps Bound site
bound_kept site = record {
  vars = λ k w v b. record { some = b.some; few = b.few };
  reset = λ k w b. record { some = b.some; few = b.few };
  timer = λ k w t place e is b. record { some = b.some; few = b.few };
  turn = λ k w n e b. record { some = b.some; few = b.few };
  clear = λ k w b. record { some = b.some; few = omega arith };
  push = λ k w url deck fine has b. record {
    some = b.some;
    few = few_pushed _ w.limits.history w.history (entry_of url (card_for deck url)) refl
        b.some b.few;
  };
  pop = λ k w e deck fine has b. record {
    some = b.some;
    few = few_popped w.limits.history w.history (in_deck deck e) b.some b.few;
  };
  begins = λ k w b. record { some = b.some; few = b.few };
  ends = λ k w b. record { some = b.some; few = b.few };
}

-- no key makes a history longer than its limit
pub history_bound : (site : Site) → ScriptsKeep KeepsToLimit site
    → (one : Key) (keys : List Key) (world : World) → KeepsToLimit world
    → KeepsToLimit (react site one keys world).world
history_bound site runs one keys world bound =
    react_keeps Bound site (bound_kept site) runs one keys world
    (record { some = bound.some; few = bound.few })

-- ---- a page that may not be entered

-- the request's line, name and test are added, and the current card is shown again; nothing is
-- left, set or entered
pub denies : (site : Site) (place : Option Place) (keys : List Key) (sets : Pairs)
    (caller : Option Url) (one : Request) (world : World) (deck : Deck)
    → answer_to site.shelf one ≡ deck_page deck
    → may_enter one.url (entrance_of deck) caller ≡ false
    → request site place keys sets caller one world ≡ settled (record {
      world = (refuse place refusals.Denied world).world;
      keys = keys;
      lines = request_line one ∷ (refuse place refusals.Denied world).lines;
      asked = (name_for one.url, one.fresh) ∷ [];
      tests = record { page = name_for one.url; caller = caller; allowed = false } ∷ [];
      is_open = false;
    })
denies site place keys sets caller one world deck found no_entry =
    ap (λ page. after_step (ask keys one world)
    (answered site place keys sets caller one.url world page)) found
    ∙ ap (λ (b : Bool). after_step (ask keys one world) (after_step (test keys (record {
      page = name_for one.url;
      caller = caller;
      allowed = b;
    }) world) (arrive_if place keys sets one.url world deck b))) no_entry

-- nor is a script started that may not be
pub denies_script : (site : Site) (place : Option Place) (keys : List Key) (sets : Pairs)
    (caller : Option Url) (one : Request) (world : World) (entrance : Option Entrance)
    → answer_to site.shelf one ≡ script_page entrance → may_enter one.url entrance caller ≡ false
    → request site place keys sets caller one world ≡ settled (record {
      world = (show place world).world;
      keys = keys;
      lines = request_line one ∷ script_line fatal.Denied ∷ (show place world).lines;
      asked = (name_for one.url, one.fresh) ∷ [];
      tests = record { page = name_for one.url; caller = caller; allowed = false } ∷ [];
      is_open = false;
    })
denies_script site place keys sets caller one world entrance found no_entry =
    ap (λ page. after_step (ask keys one world)
    (answered site place keys sets caller one.url world page)) found
    ∙ ap (λ (b : Bool). after_step (ask keys one world) (after_step (test keys (record {
      page = name_for one.url;
      caller = caller;
      allowed = b;
    }) world) (start_if site.shelf (script_of site (name_for one.url)) place keys
    sets caller one.url world (option_and_then site.call one.url.fragment) b))) no_entry

-- ---- sites of decks

-- no call is read there
no_call : (pages : Pages) (fragment : Option (List ℕ))
    → option_and_then (decks_site pages).call fragment ≡ None
no_call pages None = refl
no_call pages (Some text) = refl

-- so that no script is started
starts_none : (pages : Pages) → LeavesKeys (decks_site pages)
starts_none pages place sets caller url w true keys =
    let site = decks_site pages in
    let start : List Key → Option Call → Once = λ k call.
    start_if site.shelf (script_of site (name_for url)) place k sets caller url w call true in
    ap (start keys) (no_call pages url.fragment)
    ∙ sym (ap (λ o. once_before keys (start [] o)) (no_call pages url.fragment))
starts_none pages place sets caller url w false keys = refl

-- a key sees none of the keys after it, and leaves them
pub leaves_keys : (pages : Pages) (one : Key) (keys : List Key) (world : World)
    → react (decks_site pages) one keys world
    ≡ before keys (react (decks_site pages) one [] world)
leaves_keys pages one keys world =
    react_leaves (decks_site pages) (starts_none pages) one world keys
