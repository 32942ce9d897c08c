-- What is made of what was saved: a session that goes on, or nothing.
use Rattle.std.proofs.Common.{◌≡◌, ◌≢◌, ℕ, false, List, [], ◌∷◌, ◌++◌, Option, Some}
use Rattle.std.proofs.Common.{None, refl, sym, ap, subst, ◌∙◌, map}
use Rattle.std.proofs.lemmas.List.{append-nil}
use Rattle.std.specs.Prelude.{IfSome}
use Rattle.std.specs.Option.{option_map_or, option_and_then, option_to_list}
use Rattle.wap_base.specs.Contents.{Contents, page_named}
use Rattle.wap_url.specs.Printing.{name_for}
use Rattle.wap_tokens.specs.declared.markup.deck.Deck.{Deck}
use Rattle.wap_devices.specs.Stores.{Known, Agrees, StoreSeen, Grew}
use Rattle.wap_devices.proofs.Telling.{agrees_before}
use Rattle.wap_devices.specs.Transfer.{Appends}
use Rattle.wap_devices.specs.Sinks.{SinkSeen}
use Rattle.wap_devices.proofs.Transfers.{Appends-nil}
use Rattle.wap_base.specs.declared.key.Key.{Key}
use Rattle.wap_world.specs.Sessions.{played}
use Rattle.wap_image.specs.declared.context_parts.parts.ContextParts.{ContextParts}
use Rattle.wap_world.specs.declared.site.page.Page.{Page}
use Rattle.wap_world.specs.declared.site.page.Page.TheVariants as page
use Rattle.wap_world.specs.site.Pages.{Pages as JudgedPages, page_of, AreSitePages}
use Rattle.wap_world.specs.site.Misses.{Cache, Asked}
use Rattle.wap_world.specs.site.Asking.{Seen, MayBe, Stays, Asks}
use Rattle.wap_pages.specs.declared.fault.PageFault.{PageFault}
use Rattle.wap_pages.specs.declared.fault.PageFault.TheVariants as page_fault
use Rattle.wap_pages.specs.Judged.{judged, page_where}
use Rattle.wap_pages.specs.Caches.{seen_over}
use Rattle.wap_pages.proofs.Judgements.{page_of-judged, page_there, page_deck, deck_page}
use Rattle.wap_pages.proofs.Judgements.{judged_pages_fit}
use Rattle.wap_world.specs.declared.history.Entry.{Entry}
use Rattle.wap_world.specs.Shelves.{Shelf}
use Rattle.wap_world.specs.World.{World, last_entry, deck_at, deck_in}
use Rattle.wap_world.specs.Steps.{Step, then_step, quiet, still}
use Rattle.wap_world.specs.scripting.UnitSites.{Pages, shelf_of, unit_pages, units_site}
use Rattle.wap_context.specs.host.Finding.{shelved_page}
use Rattle.wap_context.proofs.HostLemmas.Shelves.{shelved_is}
use Rattle.wap_context.specs.Browsers.{Browser, IsOver}
use Rattle.wap_context.specs.Sites.{site_of}
use Rattle.wap_context.specs.declared.saved.Revived.{Revived}
use Rattle.wap_context.specs.declared.saved.Revived.TheVariants.{Context, Missing, Refused}
use Rattle.wap_state.specs.Saved.{saved_world}
use Rattle.wap_context.specs.Saved.{with_last_in, revived_on, asked_for, IsRevived}
use Rattle.wap_session.specs.Feeding.{State, going_on, step_of, left_open}
use Rattle.wap_cli.specs.browse.Handling.{bytes_of}
use Rattle.wap_cli.specs.browse.Standing.{Moved, Stands, Browsed}
use Rattle.wap_cli.proofs.BrowseLemmas.Optional.{if_some, some_fact}
use Rattle.wap_cli.proofs.ResumeLemmas.Images.{step_closed}
use Rattle.wap_cli.specs.resume.Saving.{played_in}
use Rattle.wap_cli.specs.resume.Resuming.{world_with, world_over, resumed, IsDeckThere, HasDeck}
use Rattle.wap_cli.specs.resume.Resuming.{IsDeckless, LacksDeck}
use Rattle.wap_cli.specs.resume.inside.Loading.{IsCause}

-- ---- by the page of the last entry

-- there is no page
pub missing_by : (first : Browser) (world : World) (answer : Page) (last : Option Entry)
    → Missing ≡ option_map_or (λ entry. revived_on world answer) last (Context first)
    → (entry : Entry) × (last ≡ Some entry) × (answer ≡ page.Missing)
missing_by first world answer None is = absurd cc
missing_by first world (page.Deck deck) (Some entry) is = absurd cc
missing_by first world (page.Script unit) (Some entry) is = absurd cc
missing_by first world (page.Words text) (Some entry) is = absurd cc
missing_by first world page.Refused (Some entry) is = absurd cc
missing_by first world page.Missing (Some entry) is = (entry, refl, refl)

-- or one that is no deck
pub refused_by : (first : Browser) (world : World) (answer : Page) (last : Option Entry)
    → Refused ≡ option_map_or (λ entry. revived_on world answer) last (Context first)
    → (entry : Entry) × (last ≡ Some entry) × (answer ≢ page.Missing)
    × ((deck : Deck) → answer ≢ page.Deck deck)
refused_by first world answer None is = absurd cc
refused_by first world (page.Deck deck) (Some entry) is = absurd cc
refused_by first world (page.Script unit) (Some entry) is =
    (entry, refl, λ e. absurd cc, λ deck e. absurd cc)
refused_by first world (page.Words text) (Some entry) is =
    (entry, refl, λ e. absurd cc, λ deck e. absurd cc)
refused_by first world page.Refused (Some entry) is =
    (entry, refl, λ e. absurd cc, λ deck e. absurd cc)
refused_by first world page.Missing (Some entry) is = absurd cc

-- it is the deck, or no entry is there: so the world is that over the shelf
pub context_by : (shelf : Shelf) (parts : ContextParts) (answer : Page) (browser : Browser)
    (last : Option Entry) (turns : ℕ)
    → Context browser ≡ option_map_or (λ entry. revived_on (saved_world parts) answer) last
    (Context (record { world = saved_world parts; deck = None }))
    → IfSome last (λ entry. (deck : Deck) → answer ≡ page.Deck deck
    → deck_at shelf entry.url ≡ Some deck)
    → (record browser.world { budget = turns; turns = turns }
    ≡ option_map_or (λ deck. with_last_in deck (world_with parts turns))
    (option_and_then (λ entry. deck_at shelf entry.url) last) (world_with parts turns))
    × IfSome last (λ entry. (deck : Deck) × (answer ≡ page.Deck deck))
context_by shelf parts answer browser None turns is at =
    let same : browser ≡ record { world = saved_world parts; deck = None } = cc in
    (ap (λ (b : Browser). record b.world { budget = turns; turns = turns }) same, tt)
context_by shelf parts (page.Deck deck) browser (Some entry) turns is at =
    let same : browser ≡ record { world = with_last_in deck (saved_world parts); deck = Some deck }
    = cc in (
      ap (λ (b : Browser). record b.world { budget = turns; turns = turns }) same
          ∙ sym (ap (λ (o : Option Deck).
          option_map_or (λ d. with_last_in d (world_with parts turns)) o (world_with parts turns))
          (at deck refl)),
      (deck, refl),
    )
context_by shelf parts (page.Script unit) browser (Some entry) turns is at = absurd cc
context_by shelf parts (page.Words text) browser (Some entry) turns is at = absurd cc
context_by shelf parts page.Refused browser (Some entry) turns is at = absurd cc
context_by shelf parts page.Missing browser (Some entry) turns is at = absurd cc

-- ---- a session that goes on

-- a deck that pages have is on their shelf
pub deck_there : (pages : JudgedPages) (name : List ℕ) (deck : Deck) → AreSitePages pages
    → page_of name pages ≡ page.Deck deck → deck_in (shelf_of (unit_pages pages) name) ≡ Some deck
deck_there pages name deck are is =
    ap deck_in (shelved_is name pages are ∙ ap shelved_page is)

-- the page of the last entry, if there is one, is judged as a deck
abbrev HasPage : JudgedPages → ContextParts → Type 0
HasPage pages parts = IfSome (last_entry (saved_world parts))
    (λ entry. (deck : Deck) × (page_of (name_for entry.url) pages ≡ page.Deck deck))

-- it has its deck, and stands in the world over the pages
made_by : (parts : ContextParts) (turns : ℕ) (seen : Seen) (pages : JudgedPages)
    (browser : Browser) → MayBe seen pages → AreSitePages pages
    → IsRevived parts seen (Context browser)
    → ((going_on browser turns).browser.world
    ≡ world_over (shelf_of (unit_pages pages)) (world_with parts turns)) × HasPage pages parts
made_by parts turns seen pages browser may are made =
    let shelf = shelf_of (unit_pages pages) in
    let last = last_entry (saved_world parts) in
    let found = made.found pages may in
    let (world, deck) = context_by shelf parts made.answer browser last turns made.is
    (if_some last (λ entry. (d : Deck) → made.answer ≡ page.Deck d
    → deck_at shelf entry.url ≡ Some d)
    (λ entry is d answer. deck_there pages (name_for entry.url) d are
    (sym (some_fact last (λ e. made.answer ≡ page_of (name_for e.url) pages) entry is found)
    ∙ answer))) in (
      world,
      if_some last (λ entry. (d : Deck) × (page_of (name_for entry.url) pages ≡ page.Deck d))
          (λ entry is.
          let (d, answer) = some_fact last (λ e. (x : Deck) × (made.answer ≡ page.Deck x)) entry is
          deck in (
            d,
            sym (some_fact last (λ e. made.answer ≡ page_of (name_for e.url) pages) entry is found)
                ∙ answer,
          )),
    )

-- no keys play nothing
none_whole : (pages : Pages) (world : World)
    → played_in world pages [] ≡ quiet [] (still world)
unfolding played
none_whole pages world = refl

-- the shelf of a site is that of its pages
pub site_shelf : (pages : Pages) → (site_of pages).shelf ≡ shelf_of pages
unfolding units_site
site_shelf pages = refl

-- and keys go on from there
pub stands_by : (parts : ContextParts) (turns : ℕ) (pages : Pages) (old now : Moved)
    (state : State) → IsOver (shelf_of pages) state.browser → state.waiting ≡ None
    → state.winners ≡ []
    → state.browser.world ≡ world_over (site_of pages).shelf (world_with parts turns)
    → Asks (asked_for parts) old.pages now.pages → now.sink ≡ old.sink
    → Stands pages (resumed parts turns pages) [] old now state
stands_by parts turns pages old now state over alone empty world asks unwritten =
    let whole : List Key → Step = λ keys. played_in state.browser.world pages keys in
    let none : whole [] ≡ quiet [] (still state.browser.world) =
    none_whole pages state.browser.world in
    let same : (λ (keys : List Key).
    record (whole keys) { asked = asked_for parts ++ (whole keys).asked })
    ≡ resumed parts turns pages =
    ap {B = List Key → Step} (λ (w : World) (keys : List Key).
    record (played_in w pages keys) {
      asked = asked_for parts ++ (played_in w pages keys).asked;
    }) world in
    subst (λ (play : List Key → Step). Stands pages play [] old now state) same (record {
      over = over;
      on = λ others.
          sym (ap (λ (s : Step). then_step
          (left_open (record s { asked = asked_for parts ++ s.asked }))
          (step_of pages others state)) none
          ∙ ap (then_step (left_open (record (quiet [] (still state.browser.world)) {
            asked = asked_for parts ++ [];
          }))) (step_closed pages others state alone empty)
          ∙ ap (λ (asked : List Asked).
          record (whole others) { asked = asked ++ (whole others).asked })
          (append-nil (asked_for parts)));
      asks = subst (λ (asked : List Asked). Asks asked old.pages now.pages)
          (sym (ap (λ (s : Step). asked_for parts ++ s.asked) none ∙ append-nil (asked_for parts)))
          asks;
      wrote = subst (λ (s : Step). Appends old.sink.taken now.sink.taken (bytes_of s))
          (sym none)
          (subst (λ (s : SinkSeen). Appends old.sink.taken s.taken []) (sym unwritten)
          (Appends-nil old.sink.taken));
      unpushed = λ none. empty;
    })

-- so far nothing failed, and the session stands at its beginning
pub browsed_by : (parts : ContextParts) (turns : ℕ) (old now : Moved) (browser : Browser)
    → ((judged : JudgedPages) → MayBe now.pages judged → AreSitePages judged)
    → IsRevived parts now.pages (Context browser)
    → Asks (asked_for parts) old.pages now.pages → Stays old.pages now.pages
    → now.sink ≡ old.sink
    → Browsed (resumed parts turns) [] old now (going_on browser turns)
browsed_by parts turns old now browser are made asks stays unwritten = record {
  stands = λ judged may.
      stands_by parts turns (unit_pages judged) old now (going_on browser turns)
      (made.over judged may) refl refl
      ((made_by parts turns now.pages judged browser may (are judged may) made).0
      ∙ ap (λ (shelf : Shelf). world_over shelf (world_with parts turns))
      (sym (site_shelf (unit_pages judged))))
      asks unwritten;
  ready = refl;
  stays = stays;
  steady = asks.steady;
  write_steady = ap (λ (s : SinkSeen). s.faults) unwritten;
}

-- a page that is judged as a deck has bytes that are one
deck_where : (contents : Contents) (name : List ℕ) (deck : Deck) (found : Option (List ℕ))
    → page_named name contents ≡ found → page_where name found ≡ page.Deck deck
    → IsDeckThere contents name
deck_where contents name deck (Some bytes) named is =
    record { bytes = bytes; page = named; deck = deck; is = page_deck name bytes deck is }
deck_where contents name deck None named is = absurd cc

-- so the deck is there
deck_in_contents : (parts : ContextParts) (contents : Contents)
    → HasPage (judged contents) parts → HasDeck contents parts
deck_in_contents parts contents has =
    let last = last_entry (saved_world parts) in
    if_some last (λ entry. IsDeckThere contents (name_for entry.url))
    (λ entry is.
    let name = name_for entry.url in
    let (deck, answer) = some_fact last
    (λ e. (d : Deck) × (page_of (name_for e.url) (judged contents) ≡ page.Deck d)) entry is has in
    deck_where contents name deck (page_named name contents) refl
    (sym (page_of-judged name contents) ∙ answer))

-- pages that may be a store's may be seen over it, as they are judged
may_see : (store : StoreSeen) (cache : Cache) (contents : Contents) → Agrees store.known contents
    → MayBe (seen_over store cache) (judged contents)
may_see store cache contents agrees =
    record { contents = contents; agrees = agrees; are = refl }

pub has_deck : (parts : ContextParts) (turns : ℕ) (store : StoreSeen) (cache : Cache)
    (browser : Browser) → IsRevived parts (seen_over store cache) (Context browser)
    → (contents : Contents) → Agrees store.known contents → HasDeck contents parts
has_deck parts turns store cache browser made contents agrees =
    deck_in_contents parts contents
    (made_by parts turns (seen_over store cache) (judged contents) browser
    (may_see store cache contents agrees) (judged_pages_fit contents agrees.distinct) made).1

-- ---- no session

-- the page that is asked for
asked_entry : (parts : ContextParts) (entry : Entry) → last_entry (saved_world parts) ≡ Some entry
    → asked_for parts ≡ (name_for entry.url, false) ∷ []
asked_entry parts entry is =
    ap (λ (last : Option Entry). map (λ (one : Entry). (name_for one.url, false))
    (option_to_list last)) is

-- a page that is missing has no bytes
unnamed : (name : List ℕ) (found : Option (List ℕ)) → page_where name found ≡ page.Missing
    → found ≡ None
unnamed name (Some bytes) is = absurd (page_there name bytes is)
unnamed name None is = refl

-- the page of the last entry, in any pages that may be the store's
answered : (parts : ContextParts) (store : StoreSeen) (cache : Cache) (one : Revived)
    (made : IsRevived parts (seen_over store cache) one) (entry : Entry)
    → last_entry (saved_world parts) ≡ Some entry
    → (contents : Contents) → Agrees store.known contents
    → page_of (name_for entry.url) (judged contents) ≡ made.answer
answered parts store cache one made entry is contents agrees =
    sym (some_fact (last_entry (saved_world parts))
    (λ e. made.answer ≡ page_of (name_for e.url) (judged contents)) entry is
    (made.found (judged contents) (may_see store cache contents agrees)))

-- the page of the last entry is missing
pub lacks_missing : (parts : ContextParts) (store : StoreSeen) (cache : Cache)
    → IsRevived parts (seen_over store cache) Missing
    → LacksDeck store.known parts page_fault.Missing
lacks_missing parts store cache made =
    let (entry, is, none) = missing_by (record { world = saved_world parts; deck = None })
    (saved_world parts) made.answer (last_entry (saved_world parts)) made.is in
    let name = name_for entry.url in
    record {
      name = name;
      asked = asked_entry parts entry is;
      deckless = IsDeckless.missing (λ contents agrees.
          sym (unnamed name (page_named name contents) (sym (page_of-judged name contents)
          ∙ answered parts store cache Missing made entry is contents agrees ∙ none)));
    }

-- the name that is asked for first
first_name : List Asked → List ℕ
first_name [] = []
first_name (asked ∷ rest) = asked.0

-- one name that is asked for is the other
names_same : (one other : List ℕ)
    → ◌≡◌ {A = List Asked} ((one, false) ∷ []) ((other, false) ∷ []) → one ≡ other
unfolding first_name
names_same one other is = ap first_name is

-- or it is no deck, for the cause that its bytes are judged for when it is fetched again
pub lacks_deck : (parts : ContextParts) (store : StoreSeen) (cache : Cache) (later : Known)
    → Grew store.known later → (name : List ℕ) (why : PageFault)
    → IsRevived parts (seen_over store cache) Refused
    → asked_for parts ≡ (name, false) ∷ [] → IsCause later name why → LacksDeck later parts why
lacks_deck parts store cache later grew name why made asked cause =
    let last = last_entry (saved_world parts) in
    let (entry, is, there, undecked) =
    refused_by (record { world = saved_world parts; deck = None }) (saved_world parts) made.answer
    last made.is in
    let name_now = name_for entry.url in
    let same : name_now ≡ name = names_same name_now name (sym (asked_entry parts entry is) ∙ asked)
    in
    record {
      name = name;
      asked = asked;
      deckless = deckless_by why made.answer
          (λ contents agrees.
          subst (λ (n : List ℕ). page_of n (judged contents) ≡ made.answer) same
          (answered parts store cache Refused made entry is contents
          (agrees_before store.known later grew contents agrees))) undecked cause;
    }
  where
    deckless_by : (why : PageFault) (answer : Page)
        → ((contents : Contents) → Agrees later contents → page_of name (judged contents) ≡ answer)
        → ((deck : Deck) → answer ≢ page.Deck deck)
        → IsCause later name why → IsDeckless later name why
    deckless_by _ answer is undecked (IsCause.missing none) = IsDeckless.missing none
    deckless_by _ answer is undecked (IsCause.refused bytes one there refused) =
        IsDeckless.refused bytes one there refused
    deckless_by _ answer is undecked (IsCause.accepted bytes there accepted) =
        IsDeckless.other bytes there (record {
          accepted = accepted;
          other = λ contents agrees deck is_deck.
              undecked deck (sym (is contents agrees) ∙ page_of-judged name contents
              ∙ ap (page_where name) (sym (there contents agrees))
              ∙ deck_page name bytes deck is_deck);
        })
