-- The rules for navigations, by what is found at the place at hand, and in the page that answers.
use Rattle.std.proofs.Common.{◌≡◌, ◌∙◌, ℕ, Bool, true, false, List, [], Option, Some, None}
use Rattle.std.proofs.Common.{Ok, Err, refl, sym, ap, subst, ◌+◌, add-one}
use Rattle.std.specs.Prelude.{if◌then◌else◌, Result}
use Rattle.wap_base.proofs.Choices.{ok_same}
use Rattle.wap_url.specs.declared.url.Url.{Url}
use Rattle.wap_tokens.specs.declared.markup.deck.Deck.{Deck}
use Rattle.wap_base.specs.declared.key.Key.{Key}
use Rattle.wap_cardrules.specs.declared.task.Go.{Go}
use Rattle.wap_cardrules.specs.Values.{Pairs}
use Rattle.wap_world.specs.declared.history.Entry.{Entry}
use Rattle.wap_world.specs.declared.refusal.Refusal.{Refusal}
use Rattle.wap_world.specs.declared.refusal.Refusal.TheVariants as refusals
use Rattle.wap_world.specs.declared.site.page.Page.{Page as JudgedPage}
use Rattle.wap_world.specs.declared.site.page.Page.TheVariants as judged_page
use Rattle.wap_world.specs.Shelves.{Shelf}
use Rattle.wap_world.specs.Sites.{Site}
use Rattle.wap_world.specs.World.{World, Place}
use Rattle.wap_world.specs.Steps.{Once}
use Rattle.wap_world.specs.Requests.{Request, plain_get, request_of}
use Rattle.wap_world.specs.Urls.{target_of, is_same_page}
use Rattle.wap_world.specs.Tasks.{refusing, unless_refused, return, arrive, try_deck}
use Rattle.wap_world.specs.Tasks.{answered, request, ask_back, stay_or_ask, back_from, is_here}
use Rattle.wap_world.specs.Tasks.{here_with, card_here, deck_url, go, open_url, with_turn}
use Rattle.wap_context.specs.host.Finding.{shelved_page}
use Rattle.wap_context.specs.Browsers.{Browser, IsOver, place_held}
use Rattle.wap_context.specs.inside.AtHand.{page_under, page_here}
use Rattle.wap_context.specs.inside.Moving.{page_answer}
use Rattle.wap_context.proofs.HeldDecks.{Page, page_of_place}

module _ (site : Site) (place : Option Place) (keys : List Key) (w : World) where
  -- ---- a page that answers, and is no script

  pub answered_is : (sets : Pairs) (caller : Option Url) (url : Url) (page : JudgedPage)
      (answer : Result Deck Refusal) → page_answer page ≡ Ok answer
      → answered site place keys sets caller url w (shelved_page page)
      ≡ unless_refused place keys w (try_deck place keys sets caller url w) answer
  answered_is sets caller url (judged_page.Script unit) answer is = absurd (cc)
  answered_is sets caller url _ answer is =
      ap (unless_refused place keys w (try_deck place keys sets caller url w))
      (ok_same _ answer is)

  -- ---- stay, or ask

  -- by the page that is found at the place
  abbrev pub stay_by : Pairs → Option Url → Request → Option Page → Once
  stay_by sets caller one None = request site place keys sets caller one w
  stay_by sets caller one (Some page) =
      arrive place keys sets (record page.0 { fragment = one.url.fragment }) w page.1

  -- ---- a URL that was read

  pub go_is : (base : Option Url) (one : Go) (url : Url) (asked : Request)
      → Ok url ≡ target_of base one.href → asked ≡ request_of base one url
      → stay_or_ask site place keys one.sets base asked w ≡ go site place keys base one w
  go_is base one url asked target is =
      ap (λ (r : Request). stay_or_ask site place keys one.sets base r w) is
      ∙ ap (unless_refused place keys w
      (λ found. stay_or_ask site place keys one.sets base (request_of base one found) w)) target

  pub go_refused : (base : Option Url) (one : Go) (refusal : Refusal)
      → Err refusal ≡ target_of base one.href
      → go site place keys base one w ≡ refusing place keys refusal w
  go_refused base one why target =
      sym (ap (unless_refused place keys w
      (λ found. stay_or_ask site place keys one.sets base (request_of base one found) w)) target)

  abbrev asks : Url → Once
  asks url = request site place keys [] None (plain_get url) w

  pub open_is : (text : List ℕ) (url : Url) → Ok url ≡ target_of (deck_url place) text
      → asks url ≡ open_url site place keys text w
  open_is text url target = ap (unless_refused place keys w asks) target

  pub open_refused : (text : List ℕ) (refusal : Refusal)
      → Err refusal ≡ target_of (deck_url place) text
      → open_url site place keys text w ≡ refusing place keys refusal w
  open_refused text why target = sym (ap (unless_refused place keys w asks) target)

module _ (site : Site) (keys : List Key) (w : World) where
  stay_if : (sets : Pairs) (caller : Option Url) (one : Request) (place : Place) (b : Bool)
      → (if b then arrive (Some place) keys sets (here_with place one.url) w place.deck
      else request site (Some place) keys sets caller one w)
      ≡ stay_by site (Some place) keys w sets caller one
      (if b then Some (page_of_place place) else None)
  stay_if sets caller one place true = refl
  stay_if sets caller one place false = refl

  pub stay_is : (sets : Pairs) (caller : Option Url) (one : Request) (place : Option Place)
      → stay_or_ask site place keys sets caller one w
      ≡ stay_by site place keys w sets caller one (page_here one place)
  stay_is sets caller one None = refl
  stay_is sets caller one (Some place) = stay_if sets caller one place (is_here one place)

-- ---- back

module _ (shelf : Shelf) (keys : List Key) (w : World) where
  -- by the page that is found at the place
  abbrev pub back_by : Option Place → Pairs → Entry → Option Page → Once
  back_by place sets earlier None = ask_back shelf place keys sets earlier w
  back_by place sets earlier (Some page) =
      return place keys sets (record earlier { url = page.0 }) w page.1

  back_if : (sets : Pairs) (earlier : Entry) (place : Place) (b : Bool)
      → (if b then return (Some place) keys sets (card_here place earlier) w place.deck
      else ask_back shelf (Some place) keys sets earlier w)
      ≡ back_by (Some place) sets earlier (if b then Some (page_of_place place) else None)
  back_if sets earlier place true = refl
  back_if sets earlier place false = refl

  pub back_is : (sets : Pairs) (earlier : Entry) (place : Option Place)
      → back_from shelf place keys sets earlier w
      ≡ back_by place sets earlier (page_under earlier.url place)
  back_is sets earlier None = refl
  back_is sets earlier (Some place) =
      back_if sets earlier place (is_same_page earlier.url place.url)

-- ---- turns

abbrev pub less_turn : Browser → ℕ → Browser
less_turn old n = record old { world = record old.world { turns = n } }

-- a rule that takes a turn, if one is left
abbrev pub Turned : Type 0
Turned = Option Place → World → Once

abbrev pub turned : List Key → Turned → Browser → Once
turned keys next old =
    with_turn (place_held old) keys old.world old.world.turns (next (place_held old))

-- a turn was taken before
pub turn_is : (old mid : Browser) (keys : List Key) (next : Turned)
    → mid ≡ less_turn old mid.world.turns → mid.world.turns + 1 ≡ old.world.turns
    → next (place_held mid) mid.world ≡ turned keys next old
turn_is old mid keys next is spent =
    ap (λ (b : Browser). next (place_held b) b.world) is
    ∙ ap (λ (t : ℕ). with_turn (place_held old) keys old.world t (next (place_held old)))
    (sym (sym spent ∙ add-one mid.world.turns))

-- there was none
pub turn_none : (old mid : Browser) (keys : List Key) (next : Turned)
    → mid ≡ old → old.world.turns ≡ 0
    → refusing (place_held mid) keys refusals.Budget mid.world ≡ turned keys next old
turn_none old mid keys next is none =
    ap (λ (b : Browser). refusing (place_held b) keys refusals.Budget b.world) is
    ∙ ap (λ (t : ℕ). with_turn (place_held old) keys old.world t (next (place_held old)))
    (sym none)

pub over_turn : (shelf : Shelf) (old mid : Browser) → mid ≡ less_turn old mid.world.turns
    → IsOver shelf old → IsOver shelf mid
over_turn shelf old mid is over = subst (IsOver shelf) (sym is) over
