-- The parts of a world keep the rules of parts, and the world is made of them again.
use Rattle.std.proofs.Common.{◌≡◌, ◌≢◌, ◌∙◌, ℕ, suc, ◌+◌, ◌≤◌, ◌<◌, Bool, true, false, not, ◌&&◌}
use Rattle.std.proofs.Common.{cond}
use Rattle.std.proofs.Common.{List, [], ◌∷◌, ◌++◌, length, map, refl, ap, sym, subst, arith}
use Rattle.std.proofs.Common.{length-append}
use Rattle.std.proofs.Common.{Option, Some, None, Result, Ok, Err, append_assoc, drop}
use Rattle.std.specs.Prelude.{IfOk, OnOk, is_some, nat_lt, nat_le}
use Rattle.std.specs.List.{All, AllByRecursion}
use Rattle.std.specs.List.Sorted.{IsStrictlySortedBy}
use Rattle.std.specs.Map.{keys_of, values_of}
use Rattle.std.specs.Ordering.{match_ordering, ordering_reverse}
use Rattle.std.specs.declared.cmp.Ordering.TheVariants.{Less, Greater}
use Rattle.std.specs.Cmp.Lexicographic.{nat_list_cmp_total, nat_list_eq_equiv}
use Rattle.std.proofs.lemmas.Bool.{and_parts, and_from, le-ltb, ltb-true}
use Rattle.std.proofs.lemmas.Bool.Decides.{nat_tests}
use Rattle.std.proofs.lemmas.List.{length-map}
use Rattle.std.proofs.lemmas.List.Elements.{All-head, All-tail}
use Rattle.wap_base.specs.declared.fault.NoMemory.{NoMemory}
use Rattle.wap_base.specs.Names.{is_name}
use Rattle.wap_base.specs.Texts.{is_same_text, text_cmp}
use Rattle.wap_base.specs.Utf8.{utf8_len}
use Rattle.wap_url.specs.declared.url.Url.{Url}
use Rattle.wap_url.specs.declared.fault.UrlFault.{UrlFault}
use Rattle.wap_url.specs.Calculation.{url_at}
use Rattle.wap_url.specs.Printing.{printed, IsNormal}
use Rattle.wap_vars.specs.declared.fault.VarFault.{VarFault}
use Rattle.wap_vars.specs.declared.fault.VarFault.TheVariants.{BadName, TooLong, Full}
use Rattle.wap_vars.specs.declared.limits.TheConstants.{VAR_LIMIT, TEXT_LIMIT}
use Rattle.wap_vars.specs.Variables.{Variables, AreInOrder, AreVars, updated}
use Rattle.wap_vars.specs.Setting.{set_in, has_no_room}
use Rattle.wap_libs.specs.Generator.{Generator, most_drawn}
use Rattle.wap_image.specs.declared.context_parts.parts.ContextParts.{ContextParts}
use Rattle.wap_image.specs.declared.context_parts.parts.SavedTimer.{SavedTimer}
use Rattle.wap_image.specs.declared.context_parts.parts.SavedTimer.TheVariants as saved
use Rattle.wap_image.specs.Items.{is_drawn, is_entry, is_text_of, is_entry_text}
use Rattle.wap_image.specs.Rules.{AreParts}
use Rattle.wap_world.specs.declared.history.Entry.{Entry}
use Rattle.wap_world.specs.declared.timer.Timer.{Timer}
use Rattle.wap_world.specs.declared.timer.Timer.TheVariants.{NotStarted, Running, Expired}
use Rattle.wap_world.specs.World.{World}
use Rattle.wap_world.specs.History.{entry_of}
use Rattle.wap_state.specs.page_urls.PageUrls.{is_http, IsPageUrl, IsPageEntry}
use Rattle.wap_state.proofs.PageUrlsLemmas.Targets.{page_read}
use Rattle.wap_state.specs.Saved.{saved_timer, timer_in, saved_entry, parts_of, timer_of}
use Rattle.wap_state.specs.Saved.{entry_with}
use Rattle.wap_state.specs.Saved.{entries_of, generator_at, saved_world, IsAtRest}
use Rattle.wap_state.specs.Standing.{KeepsRules}
use Rattle.wap_state.proofs.Keeping.{time_same}

-- ---- variables that are set in the order of their names

abbrev Pair : Type 0
Pair = List ℕ × List ℕ

-- a name among others
key_in : (P : List ℕ → Type 0) (done : Variables) (one : Pair) (rest : Variables)
    → All P (keys_of (done ++ one ∷ rest)) → P one.0
key_in P [] one rest all = All-head P one.0 (keys_of rest) all
key_in P (first ∷ done) one rest all =
    key_in P done one rest (All-tail P first.0 (keys_of (done ++ one ∷ rest)) all)

value_in : (P : List ℕ → Type 0) (done : Variables) (one : Pair) (rest : Variables)
    → All P (values_of (done ++ one ∷ rest)) → P one.1
value_in P [] one rest all = All-head P one.1 (values_of rest) all
value_in P (first ∷ done) one rest all =
    value_in P done one rest (All-tail P first.1 (values_of (done ++ one ∷ rest)) all)

below_in : (P : List ℕ → Type 0) (done : Variables) (one : Pair) (rest : Variables)
    → AllByRecursion P (keys_of (done ++ one ∷ rest)) → P one.0
below_in P [] one rest all = all.0
below_in P (first ∷ done) one rest all = below_in P done one rest all.1

-- one that comes after all others is added at the end
placed_last : (done : Variables) (name text : List ℕ) (rest : Variables)
    → AreInOrder (done ++ (name, text) ∷ rest) → updated done name text ≡ done ++ (name, text) ∷ []
unfolding IsStrictlySortedBy
placed_last [] name text rest ordered = refl
placed_last (first ∷ done) name text rest ordered =
    let less : text_cmp first.0 name ≡ Less =
    below_in (λ key. text_cmp first.0 key ≡ Less) done (name, text) rest ordered.0 in
    let greater : text_cmp name first.0 ≡ Greater =
    nat_list_cmp_total.antisymm name first.0 ∙ ap ordering_reverse less in
    ap (λ order. match_ordering order ((name, text) ∷ first ∷ done) ((first.0, text) ∷ done)
    (first ∷ updated done name text)) greater
    ∙ ap (λ (others : Variables). first ∷ others) (placed_last done name text rest ordered.1)

no_room_false : (done : Variables) (name : List ℕ) → length done < VAR_LIMIT
    → has_no_room done name ≡ false
no_room_false done name few =
    ap (λ full. full && not (is_some (Rattle.wap_vars.specs.Variables.text_of done name)))
    (full_false (length done) few) where
      full_false : (n : ℕ) → n < VAR_LIMIT → nat_le VAR_LIMIT n ≡ false
      full_false n few = grind (arith, nat_tests)

set_by : (named long full : Bool) (vars other : Variables) (bytes : ℕ) → named ≡ true
    → long ≡ false → full ≡ false → vars ≡ other
    → ◌≡◌ {A = Result Variables VarFault} (cond (not named) (Err BadName)
    (cond long (Err (TooLong bytes)) (cond full (Err Full) (Ok vars)))) (Ok other)
set_by true false false vars other bytes n l f same = ap Ok same
set_by false long full vars other bytes n l f same = absurd (cc n)
set_by true true full vars other bytes n l f same = absurd (cc l)
set_by true false true vars other bytes n l f same = absurd (cc f)

-- so it is set
pub set_known : (done : Variables) (name text : List ℕ) (rest : Variables)
    → AreVars (done ++ (name, text) ∷ rest)
    → set_in done name text ≡ Ok (done ++ (name, text) ∷ [])
set_known done name text rest vars =
    let short = value_in (λ t. utf8_len t ≤ TEXT_LIMIT) done (name, text) rest vars.short in
    let few : length done < VAR_LIMIT =
    omega (arith, vars.few, length-append done ((name, text) ∷ rest)) in
    set_by (is_name name) (nat_lt TEXT_LIMIT (utf8_len text)) (has_no_room done name)
    (updated done name text) (done ++ (name, text) ∷ []) (utf8_len text)
    (key_in (λ n. is_name n ≡ true) done (name, text) rest vars.named)
    (le-ltb TEXT_LIMIT (utf8_len text) short) (no_room_false done name few)
    (placed_last done name text rest vars.ordered)

-- the same in a loop, of the pair that is next
pub set_from : (pairs done items rest : Variables) (name text : List ℕ) → AreVars pairs
    → done ++ items ≡ pairs → items ≡ (name, text) ∷ rest
    → set_in done name text ≡ Ok (done ++ (name, text) ∷ [])
set_from pairs done items rest name text vars so_far next =
    set_known done name text rest
    (subst AreVars (sym so_far ∙ ap (λ (others : Variables). done ++ others) next) vars)

-- ---- entries

-- the URL that an entry's text is read as
pub record IsRead (text : List ℕ) (url : Url) : Type 0 where
  pub page : IsPageUrl url
  pub whole : url.fragment ≡ None

no_fragment : (fragment : Option (List ℕ)) → not (is_some fragment) ≡ true → fragment ≡ None
no_fragment None none = refl
no_fragment (Some text) none = absurd (cc none)

pub entry_page : (text : List ℕ) (url : Url) → url_at text ≡ Ok url → IsNormal url
    → is_entry_text text ≡ true → IsRead text url
entry_page text url is normal test =
    let of_url : (is_entry url && is_same_text (printed url) text) ≡ true =
    sym (ap (is_text_of text) is) ∙ test in
    let entry = (and_parts (is_entry url) (is_same_text (printed url) text) of_url).0 in
    let http = and_parts (is_http url) (is_some url.host && not (is_some url.fragment)) entry in
    let host = and_parts (is_some url.host) (not (is_some url.fragment)) http.1 in
    record {
      page = record { normal = normal; http = http.0; host = host.0 };
      whole = no_fragment url.fragment host.1;
    }

-- a text that is read as none is none of an entry
pub no_entry : {X : Type 0} (text : List ℕ) (fault : UrlFault) → url_at text ≡ Err fault
    → is_entry_text text ≡ true → X
no_entry text fault is test = absurd (cc (sym (ap (is_text_of text) is) ∙ test))

-- the text of an entry's URL is read as this URL again
entry_read : (entry : Entry) → IsPageEntry entry
    → entry_with entry.card (url_at (printed entry.url)) ≡ entry ∷ []
entry_read entry is = ap (entry_with entry.card) (page_read entry.url is.page)

pub entries_read : (entries : List Entry) → AllByRecursion IsPageEntry entries
    → entries_of (map saved_entry entries) ≡ entries
entries_read [] all = refl
entries_read (entry ∷ entries) all =
    ap (λ (first : List Entry). first ++ entries_of (map saved_entry entries))
    (entry_read entry all.0)
    ∙ ap (λ (others : List Entry). entry ∷ others) (entries_read entries all.1)

entry_text : (entry : Entry) → IsPageEntry entry → is_entry_text (printed entry.url) ≡ true
entry_text entry is =
    let url = entry.url in
    ap (is_text_of (printed url)) (page_read url is.page)
    ∙ and_from (is_entry url) (is_same_text (printed url) (printed url))
    (and_from (is_http url) (is_some url.host && not (is_some url.fragment)) is.page.http
    (and_from (is_some url.host) (not (is_some url.fragment)) is.page.host
    (ap (λ (o : Option (List ℕ)). not (is_some o)) is.whole)))
    (nat_list_eq_equiv.refl (printed url))

entries_text : (entries : List Entry) → AllByRecursion IsPageEntry entries
    → AllByRecursion (λ part. is_entry_text part.0 ≡ true) (map saved_entry entries)
entries_text [] all = tt
entries_text (entry ∷ entries) all = (entry_text entry all.0, entries_text entries all.1)

-- the same in a loop, of the entry that is next: there is room for it, and its text is known
pub room_from : (limit : ℕ) (done : List Entry) (items rest : List (List ℕ × ℕ)) (text : List ℕ)
    (card : ℕ) → length done + length items ≤ limit → items ≡ (text, card) ∷ rest
    → length done < limit
room_from limit done items rest text card few next =
    let one_more : length items ≡ suc (length rest) = ap (λ (l : List (List ℕ × ℕ)). length l) next
    in
    omega (arith, few, one_more)

pub text_from : (items rest : List (List ℕ × ℕ)) (text : List ℕ) (card : ℕ)
    → AllByRecursion (λ part. is_entry_text part.0 ≡ true) items → items ≡ (text, card) ∷ rest
    → is_entry_text text ≡ true
text_from items rest text card all next =
    (subst (λ (l : List (List ℕ × ℕ)). AllByRecursion (λ part. is_entry_text part.0 ≡ true) l)
    next all).0

-- no more entries are read than there are
one_at_most : (card : ℕ) (read : Result Url UrlFault) → length (entry_with card read) ≤ 1
one_at_most card (Ok url) = omega arith
one_at_most card (Err fault) = omega arith

pub entries_few : (parts : List (List ℕ × ℕ)) → length (entries_of parts) ≤ length parts
entries_few [] = omega arith
entries_few (part ∷ parts) =
    let first = entry_with part.1 (url_at part.0) in
    omega (
      arith,
      one_at_most part.1 (url_at part.0),
      entries_few parts,
      length-append first (entries_of parts),
    )

-- the entry that was read is added to those before it
pub entry_added : {A E : Type 0} (result : Result A E) (history after : List Entry) (limit card : ℕ)
    (text : List ℕ) (url : Url) (entry : Entry)
    → OnOk result (after ≡ cond (nat_lt (length history) limit) history (drop 1 history)
    ++ entry ∷ [])
    → entry ≡ entry_of url card → url_at text ≡ Ok url → url.fragment ≡ None
    → length history < limit → OnOk result (after ≡ history ++ entry_with card (url_at text))
entry_added (Ok done) history after limit card text url entry pushed is read whole room =
    let has_room : nat_lt (length history) limit ≡ true = grind (room, arith, nat_tests) in
    pushed
    ∙ ap (λ b. cond b history (drop 1 history) ++ entry ∷ []) has_room
    ∙ ap (λ (one : Entry). history ++ one ∷ []) (is
    ∙ (λ i. record { url = record url { fragment = sym whole i }; card = card }))
    ∙ ap (λ (r : Result Url UrlFault). history ++ entry_with card r) (sym read)
entry_added (Err fault) history after limit card text url entry pushed is read whole room = tt

-- the next entry of some is the last of those that were made
pub entries_next : (parts items rest : List (List ℕ × ℕ)) (done after : List Entry) (text : List ℕ)
    (card : ℕ) → done ++ entries_of items ≡ entries_of parts → items ≡ (text, card) ∷ rest
    → after ≡ done ++ entry_with card (url_at text) → after ++ entries_of rest ≡ entries_of parts
entries_next parts items rest done after text card so_far next is =
    ap (λ (l : List Entry). l ++ entries_of rest) is
    ∙ append_assoc done (entry_with card (url_at text)) (entries_of rest)
    ∙ ap (λ (l : List (List ℕ × ℕ)). done ++ entries_of l) (sym next) ∙ so_far

pub room_next : (limit : ℕ) (items rest : List (List ℕ × ℕ)) (done after : List Entry)
    (text : List ℕ) (card : ℕ) → length done + length items ≤ limit → items ≡ (text, card) ∷ rest
    → after ≡ done ++ entry_with card (url_at text) → length after + length rest ≤ limit
room_next limit items rest done after text card few next is =
    let one_more : length items ≡ suc (length rest) = ap (λ (l : List (List ℕ × ℕ)). length l) next
    in
    let as_many : length after ≡ length (done ++ entry_with card (url_at text)) =
    ap (λ (l : List Entry). length l) is in
    omega (
      arith,
      few,
      one_more,
      as_many,
      length-append done (entry_with card (url_at text)),
      one_at_most card (url_at text),
    )

pub texts_next : (items rest : List (List ℕ × ℕ)) (text : List ℕ) (card : ℕ)
    → AllByRecursion (λ part. is_entry_text part.0 ≡ true) items → items ≡ (text, card) ∷ rest
    → AllByRecursion (λ part. is_entry_text part.0 ≡ true) rest
texts_next items rest text card all next =
    (subst (λ (l : List (List ℕ × ℕ)). AllByRecursion (λ part. is_entry_text part.0 ≡ true) l)
    next all).1

-- ---- timers

saved_same : (m n : ℕ) → ◌≡◌ {A = SavedTimer} (saved.Running m) (saved.Running n) → m ≡ n
saved_same m n e = cc e

-- a timer that is saved as running runs
saved_runs : (timer : Timer) (tenths : ℕ) → saved_timer timer ≡ saved.Running tenths
    → timer ≡ Running tenths
saved_runs (Running time) tenths is = ap Running (saved_same time tenths is)
saved_runs _ tenths is = absurd (cc is)

timer_runs_in : (history : List Entry) (timer : Timer) (tenths : ℕ)
    → timer_in history timer ≡ saved.Running tenths → timer ≡ Running tenths
timer_runs_in [] timer tenths is = absurd (cc is)
timer_runs_in (entry ∷ entries) timer tenths is = saved_runs timer tenths is

timer_runs : (timer : SavedTimer) (tenths : ℕ) → timer_of timer ≡ Running tenths
    → timer ≡ saved.Running tenths
timer_runs (saved.Running time) tenths is = ap saved.Running (time_same time tenths is)
timer_runs _ tenths is = absurd (cc is)

-- one that hasn't run out in a dialog is the same again
timer_again : (timer : Timer) → timer ≢ Expired → timer_of (saved_timer timer) ≡ timer
timer_again Expired settled = absurd (settled refl)
timer_again _ settled = refl

pub timer_back : (history : List Entry) (timer : Timer) → timer ≢ Expired
    → (history ≡ [] → timer ≡ NotStarted) → timer_of (timer_in history timer) ≡ timer
timer_back [] timer settled unstarted = sym (unstarted refl)
timer_back (entry ∷ entries) timer settled unstarted = timer_again timer settled

-- ---- the parts of a world

no_entries : (entries : List Entry) → map saved_entry entries ≡ [] → entries ≡ []
no_entries [] none = refl
no_entries (entry ∷ entries) none = absurd (cc none)

pub are_parts : (world : World) → KeepsRules world.limits world.history world.timer
    → AllByRecursion IsPageEntry world.history → AreVars world.vars → AreParts (parts_of world)
are_parts world rules pages vars = record {
  limits = rules.range;
  vars = vars;
  few = subst (λ n. n ≤ world.limits.history) (sym (length-map world.history saved_entry))
      rules.few;
  urls = entries_text world.history pages;
  runs = λ tenths is. rules.runs tenths (timer_runs_in world.history world.timer tenths is);
  started = λ none.
      ap (λ (history : List Entry). timer_in history world.timer) (no_entries world.history none);
}

-- ---- the world of parts

pub parts_rules : (parts : ContextParts) → AreParts parts
    → KeepsRules parts.limits (entries_of parts.history) (timer_of parts.timer)
parts_rules parts are = record {
  range = are.limits;
  few = omega (arith, entries_few parts.history, are.few);
  runs = λ tenths is. are.runs tenths (timer_runs parts.timer tenths is);
}

abbrev saved_world_with : ContextParts → Generator → World
saved_world_with parts generator = record (saved_world parts) { generator = generator }

-- the generator is found again by its place
pub same_world : (world : World) (generator : Generator)
    → AllByRecursion IsPageEntry world.history → IsAtRest world
    → world.generator ≡ generator
    → saved_world_with (parts_of world) generator ≡ record world { budget = 0; turns = 0 }
same_world world generator pages rest is = λ i. record world {
  history = entries_read world.history pages i;
  timer = timer_back world.history world.timer rest.settled rest.unstarted i;
  pending = sym rest.none i;
  budget = 0;
  turns = 0;
  generator = sym is i;
}

-- ---- what a copy of the parts comes to

abbrev Copied : Type 0
Copied = Result ContextParts NoMemory

pub ok_rules : (result : Copied) (world : World) → IfOk result (λ parts. parts ≡ parts_of world)
    → AreParts (parts_of world) → IfOk result AreParts
ok_rules (Ok parts) world is are = subst AreParts (sym is) are
ok_rules (Err fault) world is are = tt

-- fewer words were drawn than are counted
few_drawn : (drawn : ℕ) → is_drawn drawn ≡ true → drawn < most_drawn
few_drawn drawn is = ltb-true drawn most_drawn is

pub ok_whole : (result : Copied) (world : World) → IfOk result (λ parts. parts ≡ parts_of world)
    → AllByRecursion IsPageEntry world.history
    → (world.generator.drawn < most_drawn
    → world.generator ≡ generator_at (parts_of world))
    → IfOk result (λ parts. IsAtRest world → is_drawn parts.drawn ≡ true
    → saved_world parts ≡ record world { budget = 0; turns = 0 })
ok_whole (Ok parts) world is pages named = λ rest drawn.
    let counted : is_drawn world.generator.drawn ≡ true =
    sym (ap (λ (p : ContextParts). is_drawn p.drawn) is) ∙ drawn in
    ap saved_world is
    ∙ same_world world (generator_at (parts_of world)) pages rest
    (named (few_drawn world.generator.drawn counted))
ok_whole (Err fault) world is pages named = tt
