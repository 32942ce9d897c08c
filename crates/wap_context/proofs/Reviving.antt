-- Contexts that are made of their parts.
use Rattle.std.proofs.Common.{◌≡◌, ◌∙◌, sym, ap, subst, List, [], false, ◌∷◌, ◌++◌, map}
use Rattle.std.proofs.Common.{Option, Some, None, IfSome, Result, Ok, Err}
use Rattle.std.proofs.lemmas.Bool.{false≢true}
use Rattle.std.specs.Prelude.{IsErr, IsErrAnd, OnOk, IfOk, length, nat_lt}
use Rattle.std.specs.Option.{option_and_then, option_map_or, option_to_list}
use Rattle.wap_base.specs.declared.fault.RunErr.{RunErr}
use Rattle.wap_base.specs.declared.fault.RunErr.TheVariants.{Store, NoMemory}
use Rattle.wap_url.specs.declared.url.Url.{Url}
use Rattle.wap_url.specs.Printing.{name_for}
use Rattle.wap_tokens.specs.declared.markup.deck.Deck.{Deck}
use Rattle.wap_image.specs.declared.context_parts.parts.ContextParts.{ContextParts}
use Rattle.wap_world.specs.declared.site.page.Page.{Page}
use Rattle.wap_world.specs.declared.site.page.Page.TheVariants as page
use Rattle.wap_world.specs.site.Pages.{Pages as JudgedPages, page_of, AreSitePages}
use Rattle.wap_world.specs.site.Misses.{Asked as Question}
use Rattle.wap_world.specs.site.Asking.{Seen, MayBe, Asks, Fails}
use Rattle.wap_world.proofs.SiteLemmas.Asking.{Asks-nil, Stays-same}
use Rattle.wap_world.specs.declared.history.Entry.{Entry}
use Rattle.wap_world.specs.World.{World, last_entry, deck_at, deck_in}
use Rattle.wap_world.specs.History.{all_but_last, in_deck}
use Rattle.wap_tokens.specs.markup.Cards.{cards_of}
use Rattle.wap_world.proofs.Entries.{last_pushed, earlier_url}
use Rattle.wap_world.specs.scripting.UnitSites.{shelf_of, unit_pages}
use Rattle.wap_state.specs.Saved.{saved_world}
use Rattle.wap_context.specs.declared.saved.Revived.{Revived}
use Rattle.wap_context.specs.declared.saved.Revived.TheVariants.{Context}
use Rattle.wap_context.specs.Browsers.{Browser, IsOver}
use Rattle.wap_context.specs.Saved.{with_last_in, revived_on, revived, asked_for, StandsOver}
use Rattle.wap_context.specs.Saved.{IsRevived, Revives}
use Rattle.wap_context.specs.inside.Reviving.{AsksPage, IsReturned, Returns}
use Rattle.wap_context.specs.host.Finding.{shelved_page}
use Rattle.wap_context.proofs.HostLemmas.Shelves.{shelved_is}

-- the last entry of a world is put into a deck
pub last_is : (deck : Deck) (world : World) (last : Entry) → last_entry world ≡ Some last
    → record world { history = all_but_last world.history ++ in_deck deck last ∷ [] }
    ≡ with_last_in deck world
last_is deck world last is =
    ap (λ (o : Option Entry). record world {
      history = all_but_last world.history ++ map (in_deck deck) (option_to_list o);
    }) (sym is)

-- ---- a page that was asked for

pub asks_rejected : (url : Url) (seen : Seen) (result : Result Page RunErr) → IsErr result
    → IsErrAnd result (λ err. err ≡ NoMemory) → AsksPage url seen seen result
asks_rejected url seen (Ok answer) is so = absurd (false≢true is)
asks_rejected url seen (Err err) is so = record {
  answer = tt;
  site = tt;
  asks = tt;
  missed = λ e. absurd (cc (sym so ∙ same err e));
  stays = Stays-same seen;
} where
  same : (one : RunErr) → ◌≡◌ {A = Result Page RunErr} (Err one) (Err Store) → one ≡ Store
  same one e = cc e

pub returns_ok : (world : World) (last : Entry) (before after : Seen) (answer : Page) (it : Revived)
    → AsksPage last.url before after (Ok answer) → it ≡ revived_on world answer
    → Returns world last before after (Ok it)
returns_ok world last before after answer it asked is = record {
  returned = record { answer = answer; found = asked.answer; is = is };
  site = asked.site;
  asks = asked.asks;
  missed = λ e. absurd (cc e);
  stays = asked.stays;
}

pub returns_missed : (world : World) (last : Entry) (before after : Seen) (err : RunErr)
    (result : Result Revived RunErr) → result ≡ Err err
    → AsksPage last.url before after (Err err) → Returns world last before after result
returns_missed world last before after err result is asked =
    subst (λ (r : Result Revived RunErr). Returns world last before after r) (sym is) (record {
      returned = tt;
      site = tt;
      asks = tt;
      missed = λ e. asked.missed (ap fault (store err e));
      stays = asked.stays;
    }) where
      fault : RunErr → Result Page RunErr
      fault it = Err it

      store : (one : RunErr) → ◌≡◌ {A = Result Revived RunErr} (Err one) (Err Store) → one ≡ Store
      store one e = cc e

-- ---- a context of parts

abbrev bare : World → Browser
bare world = record { world = world; deck = None }

-- without a card
bare_over : (pages : JudgedPages) (world : World) → last_entry world ≡ None
    → StandsOver (shelf_of (unit_pages pages)) (Context (bare world))
bare_over pages world none =
    ap (option_and_then (λ (entry : Entry). deck_at (shelf_of (unit_pages pages)) entry.url)) none

revived_bare : (parts : ContextParts) (answer : Page) → last_entry (saved_world parts) ≡ None
    → Context (bare (saved_world parts)) ≡ revived parts answer
revived_bare parts answer none =
    ap (λ (o : Option Entry). option_map_or (λ entry. revived_on (saved_world parts) answer) o
    (Context (bare (saved_world parts)))) (sym none)

asked_none : (parts : ContextParts) → last_entry (saved_world parts) ≡ None → asked_for parts ≡ []
asked_none parts none =
    ap (λ (o : Option Entry). map (λ entry. (name_for entry.url, false)) (option_to_list o)) none

pub revives_bare : (parts : ContextParts) (seen : Seen) (state : World)
    → state ≡ saved_world parts → last_entry state ≡ None
    → Revives parts seen seen (Ok (Context (bare state)))
revives_bare parts seen state same none =
    let empty : last_entry (saved_world parts) ≡ None = sym (ap last_entry same) ∙ none in
    record {
      is = record {
        answer = page.Missing;
        found = λ pages may. subst (λ (o : Option Entry).
            IfSome o (λ entry. page.Missing ≡ page_of (name_for entry.url) pages)) (sym empty) tt;
        is = ap (λ (w : World). Context (bare w)) same ∙ revived_bare parts page.Missing empty;
        over = λ pages may. bare_over pages state none;
      };
      asks =
          subst (λ (asked : List Question). Asks asked seen seen) (sym (asked_none parts empty))
          (Asks-nil seen);
      failed = λ e. absurd (cc e);
      missed = λ e. absurd (cc e);
      stays = Stays-same seen;
    }

-- ---- with a card

-- the deck that answers is the one at hand
deck_over : (pages : JudgedPages) (world : World) (last : Entry) (deck : Deck)
    → AreSitePages pages → last_entry world ≡ Some last
    → page.Deck deck ≡ page_of (name_for last.url) pages
    → IsOver (shelf_of (unit_pages pages))
    (record { world = with_last_in deck world; deck = Some deck })
deck_over pages world last deck site is answer =
    let shelf = shelf_of (unit_pages pages) in
    let entry = in_deck deck last in
    let last_one : last_entry (with_last_in deck world) ≡ Some entry =
    ap (λ (w : World). last_entry w) (sym (last_is deck world last is))
    ∙ last_pushed None (all_but_last world.history) entry in
    ap (option_and_then (λ (one : Entry). deck_at shelf one.url)) last_one
    ∙ ap (deck_at shelf)
    (earlier_url (nat_lt last.card (length (cards_of deck))) last)
    ∙ ap deck_in (shelved_is (name_for last.url) pages site
    ∙ ap shelved_page (sym answer))

stands_over : (pages : JudgedPages) (world : World) (last : Entry) (answer : Page)
    → AreSitePages pages → last_entry world ≡ Some last
    → answer ≡ page_of (name_for last.url) pages
    → StandsOver (shelf_of (unit_pages pages)) (revived_on world answer)
stands_over pages world last (page.Deck deck) site is answer =
    deck_over pages world last deck site is answer
stands_over pages world last _ site is answer = tt

module _ (parts : ContextParts) (last : Entry) (is : last_entry (saved_world parts) ≡ Some last)
  where
    abbrev world : World
    world = saved_world parts

    asked_is : asked_for parts ≡ (name_for last.url, false) ∷ []
    asked_is =
        ap (λ (o : Option Entry). map (λ entry. (name_for entry.url, false)) (option_to_list o)) is

    revived_is : (answer : Page) → revived_on world answer ≡ revived parts answer
    revived_is answer =
        ap (λ (o : Option Entry). option_map_or (λ entry. revived_on world answer) o
        (Context (bare world))) (sym is)

    made : (seen : Seen) (it : Revived) → IsReturned world last seen it
        → ((pages : JudgedPages) → MayBe seen pages → AreSitePages pages) → IsRevived parts seen it
    made seen it returned site = record {
      answer = returned.answer;
      found = λ pages may. subst (λ (o : Option Entry).
          IfSome o (λ entry. returned.answer ≡ page_of (name_for entry.url) pages)) (sym is)
          (returned.found pages may);
      is = returned.is ∙ revived_is returned.answer;
      over = λ pages may. subst (StandsOver (shelf_of (unit_pages pages))) (sym returned.is)
          (stands_over pages world last returned.answer (site pages may) is
          (returned.found pages may));
    }

    made_if : (seen : Seen) (result : Result Revived RunErr)
        → IfOk result (IsReturned world last seen)
        → OnOk result ((pages : JudgedPages) → MayBe seen pages → AreSitePages pages)
        → IfOk result (IsRevived parts seen)
    made_if seen (Ok it) returned site = made seen it returned site
    made_if seen (Err err) returned site = tt

    pub revives_on : (before after : Seen) (result : Result Revived RunErr)
        → Returns world last before after result → Revives parts before after result
    revives_on before after result returns = record {
      is = made_if after result returns.returned returns.site;
      asks =
          subst (λ (asked : List Question). OnOk result (Asks asked before after)) (sym asked_is)
          returns.asks;
      failed = λ e. (returns.missed e).rose;
      missed =
          subst (λ (asked : List Question). result ≡ Err Store → Fails asked before after)
          (sym asked_is) returns.missed;
      stays = returns.stays;
    }

-- the same of the world that was made of the parts
pub revives_state : (parts : ContextParts) (state : World) (found : Option Entry) (last : Entry)
    (before after : Seen) (result : Result Revived RunErr) → state ≡ saved_world parts
    → found ≡ last_entry state → found ≡ Some last → Returns state last before after result
    → Revives parts before after result
revives_state parts state found last before after result same of is returns =
    revives_on parts last (sym (ap last_entry same) ∙ sym of ∙ is) before after result
    (subst (λ (w : World). Returns w last before after result) same returns)

pub revives_rejected : (parts : ContextParts) (seen : Seen) (result : Result Revived RunErr)
    → IsErr result → IsErrAnd result (λ err. err ≡ NoMemory) → Revives parts seen seen result
revives_rejected parts seen (Ok it) is so = absurd (false≢true is)
revives_rejected parts seen (Err err) is so = record {
  is = tt;
  asks = tt;
  failed = λ e. absurd (cc (sym so ∙ same err e));
  missed = λ e. absurd (cc (sym so ∙ same err e));
  stays = Stays-same seen;
} where
  same : (one : RunErr) → ◌≡◌ {A = Result Revived RunErr} (Err one) (Err Store) → one ≡ Store
  same one e = cc e
