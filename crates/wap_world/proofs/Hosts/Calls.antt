-- Two hosts answer the calls of scripts alike from kin steps, and leave kin steps, or both are lost
-- by what was asked for or let in.
use Rattle.std.proofs.Common.{◌≡◌, ◌⊎◌, inl, inr, ℕ, Bool, true, false, List, [], ◌∷◌, ◌++◌, cond}
use Rattle.std.proofs.Common.{eqb, nat_eq, slice_get, Option, Some, None, refl, ap, ◌∙◌, subst}
use Rattle.std.specs.Prelude.{Result, Ok, Err, codes}
use Rattle.std.specs.List.{starts_with, ends_with}
use Rattle.std.specs.Option.{option_map_or}
use Rattle.wap_url.specs.declared.url.Url.{Url}
use Rattle.wap_url.specs.declared.fault.UrlFault.{UrlFault}
use Rattle.wap_url.specs.Calculation.{url_at}
use Rattle.wap_url.specs.Printing.{name_for, without_fragment}
use Rattle.wap_value.specs.declared.value.Value.{Value}
use Rattle.wap_value.specs.declared.value.Value.TheVariants.{Str, Invalid}
use Rattle.wap_value.specs.Conversion.{text_of}
use Rattle.wap_vars.specs.declared.fault.VarFault.{VarFault}
use Rattle.wap_vars.specs.declared.fault.VarFault.TheVariants as fault
use Rattle.wap_vars.specs.Variables.{Variables}
use Rattle.wap_vars.specs.Setting.{set_in}
use Rattle.wap_unit.specs.declared.unit.Unit.{Unit as CodeUnit}
use Rattle.wap_execution.specs.declared.found.Found.{Found}
use Rattle.wap_execution.specs.declared.library.HostOut.{HostOut}
use Rattle.wap_execution.specs.declared.library.HostOut.TheVariants as out
use Rattle.wap_execution.specs.Outcomes.{Hosting}
use Rattle.wap_execution.specs.laws.Simulation.{Both}
use Rattle.wap_libs.specs.Outcome.{outcome}
use Rattle.wap_libs.specs.Row.{argument}
use Rattle.wap_world.specs.declared.refusal.Refusal.{Refusal}
use Rattle.wap_world.specs.Shelves.{Shelf, Shelved, script_page}
use Rattle.wap_world.specs.World.{World, Place, place_now}
use Rattle.wap_world.specs.Steps.{AccessTest, Step, then_step}
use Rattle.wap_world.specs.Access.{may_enter}
use Rattle.wap_world.specs.Screens.{screen}
use Rattle.wap_world.specs.Sites.{External}
use Rattle.wap_world.specs.Urls.{target_of, page_url}
use Rattle.wap_world.specs.Requests.{plain_get, request_line, ask, test, test_of}
use Rattle.wap_world.specs.scripting.Additions.{with_lines, with_test, with_request}
use Rattle.wap_world.specs.scripting.Browsing.{gives, variable_in, set_by, pending_go}
use Rattle.wap_world.specs.scripting.Browsing.{card_reference, current_card, refreshed}
use Rattle.wap_world.specs.scripting.Browsing.{BrowserFunction, GetVar, SetVar, Go, Prev}
use Rattle.wap_world.specs.scripting.Browsing.{NewContext, GetCurrentCard, Refresh}
use Rattle.wap_world.specs.scripting.Browsing.{browser_functions, row_of_browser, DialogFunction}
use Rattle.wap_world.specs.scripting.Browsing.{Prompt, Confirm, Alert, dialog_functions}
use Rattle.wap_world.specs.scripting.Browsing.{row_of_dialogs}
use Rattle.wap_world.specs.scripting.Loading.{text_in, not_acceptable, loaded, load_at, load_from}
use Rattle.wap_world.specs.scripting.Hosting.{callable, callable_if, found_under, found_at}
use Rattle.wap_world.specs.scripting.Hosting.{pure_out, pure_call, kept, within, url_call, hosting}
use Rattle.wap_world.proofs.Alike.{Loss, Losing, Never, never_lost, IsLost}
use Rattle.wap_world.proofs.Walk.{Names}
use Rattle.wap_world.proofs.Invariants.{Any}
use Rattle.wap_world.proofs.Hosts.Kin.{Kinship, Kin, same_world, change_kin, more_kin, Sets, Pends}
use Rattle.wap_world.proofs.Hosts.Kin.{Anew, Draws}

-- ---- two hosts

-- what a host is made of: its pages, the current card of a world, and the external functions and
-- units of pages' names
pub record Parts : Type 0 where
  pub shelf : Shelf
  pub now : World → Option Place
  pub names : List ℕ → List ℕ → Option External
  pub code : List ℕ → CodeUnit

-- the host
abbrev pub host_with : Parts → Hosting Step
host_with one = hosting one.shelf one.now one.names one.code

-- two hosts, what counts as lost, and what they see the same where this is so of a step: the
-- current card, pages whose names are fine, and scripts that run, unless by asking for the page or
-- by letting the script in all is lost
pub record Pair (So : Step → Type 0) : Type 1 where
  pub one : Parts
  pub other : Parts
  pub Lost : Loss
  pub Fine : Names
  pub Runs : Names
  pub losing : Losing Lost
  pub now : (s : Step) → So s → one.now s.world ≡ other.now s.world
  pub here : (s : Step) → So s → place_now one.shelf s.world ≡ place_now other.shelf s.world
  pub asks : (name : List ℕ) (fresh : Bool) → Fine name ⊎ Lost ((name, fresh) ∷ []) [] false
  pub pages : (name : List ℕ) → Fine name → one.shelf name ≡ other.shelf name
  pub lets_in : (name : List ℕ) (caller : Option Url) → Fine name
      → Runs name ⊎ Lost [] (record { page = name; caller = caller; allowed = true } ∷ []) false
  pub names : (name function : List ℕ) → Runs name
      → one.names name function ≡ other.names name function
  pub codes : (name : List ℕ) → Runs name → one.code name ≡ other.code name

-- a host beside itself
abbrev pub itself : (So : Step → Type 0) → Parts → Pair So
itself So one = record {
  one = one;
  other = one;
  Lost = Never;
  Fine = Any;
  Runs = Any;
  losing = never_lost;
  now = λ s so. refl;
  here = λ s so. refl;
  asks = λ name fresh. inl tt;
  pages = λ name fine. refl;
  lets_in = λ name caller fine. inl tt;
  names = λ name function runs. refl;
  codes = λ name runs. refl;
}

-- ---- calls

module _ (k : Kinship) (pair : Pair k.So) where
  -- a step is lost
  abbrev pub IsGone : Step → Type 0
  IsGone s = IsLost pair.Lost s

  -- what is lost stays lost with more after it
  pub gone_first : (s t : Step) → IsGone s → IsGone (then_step s t)
  gone_first s t = pair.losing.first s.asked t.asked s.tests t.tests s.is_open t.is_open

  -- and before it
  gone_second : (s t : Step) → IsGone t → IsGone (then_step s t)
  gone_second s t = pair.losing.second s.asked t.asked s.tests t.tests s.is_open t.is_open

  -- the same answers and kin steps, or both lost
  abbrev pub Alike : {A : Type 0} → A × Step → A × Step → Type 0
  Alike a b = Both (Kin k) IsGone IsGone a b

  -- one row or another
  cond_alike : (b : Bool) (f g f' g' : HostOut × Step) → Alike f f' → Alike g g'
      → Alike (cond b f g) (cond b f' g')
  cond_alike true f g f' g' first second = first
  cond_alike false f g f' g' first second = second

  -- a String that is given within the limit
  within_alike : (a b : HostOut × Step) → Alike a b → Alike (within a) (within b)
  within_alike a b (inl given) =
      inl ((λ i. kept (same_world k a.1 b.1 given.1 i).limits.string (given.0 i)), given.1)
  within_alike a b (inr lost) = inr lost

  module _ (s t : Step) (kin : Kin k s t) where
    -- an answer by the world
    by_world : {A : Type 0} (a : World → A) → a s.world ≡ a t.world
    by_world a = ap a (same_world k s t kin)

    -- by an argument or a row, which may not be there
    option_alike : {F : Type 0} (o : Option F) (f g : F → HostOut × Step)
        → ((x : F) → Alike (f x) (g x))
        → Alike (option_map_or f o (gives Invalid s)) (option_map_or g o (gives Invalid t))
    option_alike None f g rows = inl (refl, kin)
    option_alike (Some x) f g rows = rows x

    -- a function that needs no browser
    pure_alike : (library function : ℕ) (arguments : List Value)
        → Alike (pure_call library function arguments s) (pure_call library function arguments t)
    pure_alike library function arguments = inl (
      by_world (λ w. pure_out
          (outcome w.limits.string library function arguments w.generator)),
      change_kin k s t kin (Draws library function arguments),
    )

    -- ---- WMLBrowser

    -- a variable is set, or not
    set_alike : (r : Result Variables VarFault) → Alike (set_by r s) (set_by r t)
    set_alike (Ok vars) = inl (refl, change_kin k s t kin (Sets vars))
    set_alike (Err fault.BadName) = inl (refl, kin)
    set_alike (Err why) = inl (refl, kin)

    -- a reference to the current card
    card_alike : (base : Url) (o : Option Place)
        → Alike (current_card base s o) (current_card base t o)
    card_alike base None = inl (refl, kin)
    card_alike base (Some place) =
        inl (by_world (λ w. out.Value (Str (card_reference base w place))), kin)

    -- the screen is shown
    refresh_alike : (o : Option Place) → Alike (refreshed s o) (refreshed t o)
    refresh_alike None = inl (refl, kin)
    refresh_alike (Some place) =
        subst (λ (w : World). Alike (refreshed s (Some place))
        (gives (Str []) (with_lines (screen w.vars place.deck place.card) t)))
        (same_world k s t kin)
        (inl (refl, more_kin k s t kin (screen s.world.vars place.deck place.card ++ []) [] []))

    -- the same card is at hand
    now_same : pair.one.now s.world ≡ pair.other.now t.world
    now_same = pair.now s kin.so ∙ ap pair.other.now (same_world k s t kin)

    -- any row
    browser_alike : (base : Url) (arguments : List Value) (f : BrowserFunction)
        → Alike (row_of_browser pair.one.now base arguments s f)
        (row_of_browser pair.other.now base arguments t f)
    browser_alike base arguments GetVar =
        option_alike (text_of (argument arguments 0)) _ _
        (λ name. inl (by_world (λ w. out.Value (variable_in w name)), kin))
    browser_alike base arguments SetVar =
        option_alike (text_of (argument arguments 0)) _ _
        (λ name. option_alike (text_of (argument arguments 1)) _ _
        (λ text. subst (λ (w : World). Alike (set_by (set_in s.world.vars name text) s)
        (set_by (set_in w.vars name text) t)) (same_world k s t kin)
        (set_alike (set_in s.world.vars name text))))
    browser_alike base arguments Go =
        option_alike (text_of (argument arguments 0)) _ _
        (λ href. inl (refl, change_kin k s t kin (Pends (pending_go href))))
    browser_alike base arguments Prev = inl (refl, change_kin k s t kin (Pends _))
    browser_alike base arguments NewContext = inl (refl, change_kin k s t kin Anew)
    browser_alike base arguments GetCurrentCard =
        subst (λ (o : Option Place). Alike (current_card base s (pair.one.now s.world))
        (current_card base t o)) now_same (card_alike base (pair.one.now s.world))
    browser_alike base arguments Refresh =
        subst (λ (o : Option Place). Alike (refreshed s (pair.one.now s.world)) (refreshed t o))
        now_same (refresh_alike (pair.one.now s.world))

    -- ---- Dialogs

    -- any row
    dialogs_alike : (arguments : List Value) (f : DialogFunction)
        → Alike (row_of_dialogs arguments s f) (row_of_dialogs arguments t f)
    dialogs_alike arguments Prompt =
        option_alike (text_of (argument arguments 0)) _ _
        (λ message. option_alike (text_of (argument arguments 1)) _ _
        (λ first. inl (refl, more_kin k s t kin _ [] [])))
    dialogs_alike arguments Confirm =
        option_alike (text_of (argument arguments 0)) _ _
        (λ message. option_alike (text_of (argument arguments 1)) _ _
        (λ ok. option_alike (text_of (argument arguments 2)) _ _
        (λ cancel. inl (refl, more_kin k s t kin _ [] []))))
    dialogs_alike arguments Alert =
        option_alike (text_of (argument arguments 0)) _ _
        (λ message. inl (refl, more_kin k s t kin _ [] []))

    -- ---- what asks for pages

    -- a page that is asked for is fine, or both are lost
    asked_alike : (url : Url)
        → (pair.Fine (name_for url)
        × Kin k (with_request (plain_get url) s) (with_request (plain_get url) t))
        ⊎ (IsGone (with_request (plain_get url) s)
        × IsGone (with_request (plain_get url) t))
    asked_alike url = elim (pair.asks (name_for url) false) [
      | inl fine ↦
          inl (
            fine,
            more_kin k s t kin (request_line (plain_get url) ∷ []) ((name_for url, false) ∷ []) [],
          )
      | inr lost ↦
          inr (
            gone_second s (ask s.keys (plain_get url) s.world) lost,
            gone_second t (ask t.keys (plain_get url) t.world) lost,
          )
    ]

    -- a text is loaded
    loaded_alike : (url : Url) → Alike (loaded pair.one.shelf url s) (loaded pair.other.shelf url t)
    loaded_alike url = elim (asked_alike url) [
      | inl fine ↦
          inl (
            ap (λ (p : Shelved). out.Value
                (cond (ends_with nat_eq (name_for url) (codes ".txt")) (text_in p)
                not_acceptable)) (pair.pages (name_for url) fine.0),
            fine.1,
          )
      | inr lost ↦ inr lost
    ]

    -- by a URL of a page, or none
    load_at_alike : (r : Result Url Refusal)
        → Alike (load_at pair.one.shelf r s) (load_at pair.other.shelf r t)
    load_at_alike (Ok url) = loaded_alike url
    load_at_alike (Err why) = inl (refl, kin)

    -- by a URL that can be read, or not
    load_alike : (r : Result Url UrlFault)
        → Alike (load_from pair.one.shelf r s) (load_from pair.other.shelf r t)
    load_alike (Ok url) = load_at_alike (page_url url)
    load_alike (Err why) = inl (refl, kin)

    -- the library URL
    url_alike : (base : Url) (referer : Option Url) (function : ℕ) (arguments : List Value)
        → Alike (url_call pair.one.shelf base referer function arguments s)
        (url_call pair.other.shelf base referer function arguments t)
    url_alike base referer function arguments =
        cond_alike (eqb function 8) _ _ _ _ (inl (refl, kin))
        (cond_alike (eqb function 9) _ _ _ _ (inl (refl, kin))
        (cond_alike (eqb function 13) _ _ _ _
        (option_alike (text_of (argument arguments 0)) _ _
        (λ url. option_alike (text_of (argument arguments 1)) _ _
        (λ type. cond_alike (starts_with nat_eq type (codes "text/")) _ _ _ _
        (load_alike (url_at url)) (inl (refl, kin)))))
        (pure_alike 3 function arguments)))

    -- any library
    pub library_alike : (base : Url) (referer : Option Url) (number index : ℕ)
        (arguments : List Value)
        → Alike ((host_with pair.one).library s base referer number index arguments)
        ((host_with pair.other).library t base referer number index arguments)
    library_alike base referer number index arguments =
        cond_alike (eqb number 5) _ _ _ _
        (option_alike (slice_get dialog_functions index) _ _ (dialogs_alike arguments))
        (cond_alike (eqb number 4) _ _ _ _
        (within_alike _ _
        (option_alike (slice_get browser_functions index) _ _ (browser_alike base arguments)))
        (cond_alike (eqb number 3) _ _ _ _
        (within_alike _ _ (url_alike base referer index arguments))
        (pure_alike number index arguments)))

  -- ---- external calls

  module _ (caller : Url) (function : List ℕ) (count working : ℕ) where
    -- a call by the page that answers
    abbrev found : Parts → Url → Step → Shelved → Found CodeUnit × Step
    found parts url s page =
        found_under parts.shelf parts.names parts.code caller url function count working s page

    -- what is lost before it is lost after it
    found_lost : (parts : Parts) (url : Url) (s : Step) (page : Shelved) → IsGone s
        → IsGone (found parts url s page).1
    found_lost parts url s (script_page entrance) lost =
        gone_first s (test s.keys (test_of url (Some caller) entrance) s.world) lost
    found_lost parts url s page lost = lost

    -- what a script's access pragmas decide
    abbrev decided : Url → Bool → AccessTest
    decided url allowed = record { page = name_for url; caller = Some caller; allowed = allowed }

    -- a call of a script
    abbrev calling : Parts → Url → Step → Bool → Found CodeUnit × Step
    calling parts url s allowed = (
      callable_if allowed (callable (parts.code (name_for url)) (without_fragment url) count
          s.world.limits.depth working (parts.names (name_for url) function)),
      with_test (decided url allowed) s,
    )

    -- it is denied, or the script is let in
    script_alike : (url : Url) (s t : Step) → Kin k s t → pair.Fine (name_for url)
        → (allowed : Bool)
        → Alike (calling pair.one url s allowed) (calling pair.other url t allowed)
    script_alike url s t kin fine false =
        inl (refl, more_kin k s t kin [] [] (decided url false ∷ []))
    script_alike url s t kin fine true = elim (pair.lets_in (name_for url) (Some caller) fine) [
      | inl runs ↦
          inl (
            (λ i. callable (pair.codes (name_for url) runs i) (without_fragment url) count
                (same_world k s t kin i).limits.depth working
                (pair.names (name_for url) function runs i)),
            more_kin k s t kin [] [] (decided url true ∷ []),
          )
      | inr lost ↦
          inr (
            gone_second s (test s.keys (decided url true) s.world) lost,
            gone_second t (test t.keys (decided url true) t.world) lost,
          )
    ]

    -- by the page that answers
    found_alike : (url : Url) (s t : Step) → Kin k s t → pair.Fine (name_for url)
        → (page : Shelved) → Alike (found pair.one url s page) (found pair.other url t page)
    found_alike url s t kin fine (script_page entrance) =
        script_alike url s t kin fine (may_enter url entrance (Some caller))
    found_alike url s t kin fine page = inl (refl, kin)

    -- a call by its target
    abbrev calls_at : Parts → Step → Result Url Refusal → Found CodeUnit × Step
    calls_at parts s r =
        found_at parts.shelf parts.names parts.code caller function count working s r

    -- the page is asked for
    at_alike : (s t : Step) → Kin k s t → (r : Result Url Refusal)
        → Alike (calls_at pair.one s r) (calls_at pair.other t r)
    at_alike s t kin (Err why) = inl (refl, kin)
    at_alike s t kin (Ok url) =
        let s' = with_request (plain_get url) s in
        let t' = with_request (plain_get url) t in
        let page = pair.one.shelf (name_for url) in
        elim (asked_alike s t kin url) [
          | inl fine ↦
              subst (λ (p : Shelved). Alike (found pair.one url s' page)
              (found pair.other url t' p))
              (pair.pages (name_for url) fine.0) (found_alike url s' t' fine.1 fine.0 page)
          | inr lost ↦
              inr (
                found_lost pair.one url s' page lost.0,
                found_lost pair.other url t' (pair.other.shelf (name_for url)) lost.1,
              )
        ]

    -- a call of another script
    pub external_alike : (target : List ℕ) (s t : Step) → Kin k s t
        → Alike ((host_with pair.one).external s caller target function count working)
        ((host_with pair.other).external t caller target function count working)
    external_alike target s t kin = at_alike s t kin (target_of (Some caller) target)
