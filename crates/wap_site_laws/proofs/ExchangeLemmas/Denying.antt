-- Two sites whose scripts differ only under names that are always denied.
use Rattle.std.proofs.Math.Path.{fun_ext}
use Rattle.std.specs.Prelude.{unwrap_or, ⊤}
use Rattle.std.proofs.Common.{◌⊎◌, inl, inr, ◌≡◌, ℕ, Bool, true, false, List, [], ◌∷◌, Option, refl}
use Rattle.std.proofs.Common.{ap}
use Rattle.std.specs.Option.{option_and_then}
use Rattle.wap_base.specs.declared.key.Key.{Key}
use Rattle.wap_url.specs.declared.url.Url.{Url}
use Rattle.wap_unit.specs.declared.unit.Unit.{Unit as CodeUnit}
use Rattle.wap_world.specs.Shelves.{Shelf}
use Rattle.wap_world.specs.World.{World, place_now}
use Rattle.wap_world.specs.Steps.{Step}
use Rattle.wap_world.specs.inboxes.Inboxes.{Phone, Stepped}
use Rattle.wap_world.specs.Sessions.{played}
use Rattle.wap_push.specs.declared.indication.Indication.{Indication}
use Rattle.wap_push.specs.declared.fault.PushFault.{PushFault}
use Rattle.std.specs.Prelude.{Result}
use Rattle.wap_world.specs.Sites.{Call}
use Rattle.wap_world.specs.Keys.{react}
use Rattle.wap_world.specs.scripting.Units.{external_in}
use Rattle.wap_world.specs.scripting.ScriptPages.{script_in, page_under}
use Rattle.wap_world.specs.scripting.UnitSites.{no_unit, Pages, shelf_of, externals_of, unit_under}
use Rattle.wap_world.specs.scripting.UnitSites.{units_site}
use Rattle.wap_site_laws.specs.exchange.Denial.{is_let_in}
use Rattle.wap_world.proofs.Alike.{Anything, Loss, Losing, StepAlike, unless_lost}
use Rattle.wap_world.proofs.Walk.{Names, Kept, SitesAlike, react_alike}
use Rattle.wap_world.proofs.Invariants.{Any}
use Rattle.wap_world.proofs.Plays.{plays_same}
use Rattle.wap_site_laws.proofs.ExchangeLemmas.Letting.{Entered, first, second, entered_by}
use Rattle.wap_world.proofs.Hosts.Kin.{InScripts}
use Rattle.wap_world.proofs.Hosts.Calls.{Pair}
use Rattle.wap_world.proofs.Hosts.Runs.{parts_of, sites_alike}

-- what the rules see of all names is the same, and outside of these names so are the pages
pub record DifferWithin (among : List ℕ → Bool) (one other : Pages) : Type 0 where
  pub shelf : (name : List ℕ) → shelf_of one name ≡ shelf_of other name
  pub pages : (name : List ℕ) → among name ≡ false → page_under name one ≡ page_under name other

-- each change keeps that nothing is asked
anything_kept : (shelf : Shelf) → Kept Anything Anything Any shelf
anything_kept shelf = record {
  vars = λ k w v i. tt;
  reset = λ k w i. tt;
  timer = λ k w t place e is i. tt;
  turn = λ k w n is i. tt;
  clear = λ k w i. tt;
  push = λ k w url deck fine has i. tt;
  pop = λ k w e deck fine has i. tt;
  begins = λ k w i. tt;
  ends = λ k w i. tt;
}

-- and so does each script
anything_in_scripts : InScripts Anything
anything_in_scripts = record {
  turns = λ k w n i. tt;
  changes = λ change k w i. tt;
  takes = λ one k w i. tt;
  counts = λ k w time left is i. tt;
  expires = λ k w time is i. tt;
}

module _ (among : List ℕ → Bool) where
  -- a name that is none of these
  abbrev Outside : Names
  Outside name = among name ≡ false

  -- who was let in under one of these names is lost
  abbrev pub LetIn : Loss
  LetIn asked tests one = Entered among tests

  pub let_in_stays : Losing LetIn
  let_in_stays = record {
    first = λ asked more tests others one other lost. first among tests others lost;
    second = λ asked more tests others one other lost. second among tests others lost;
    opens = λ asked tests one lost. lost;
  }

  -- a script has another name, or who is let in to it is lost
  outside_or_let_in : (name : List ℕ) (caller : Option Url) → Outside name
      ⊎ Entered among (record { page = name; caller = caller; allowed = true } ∷ [])
  outside_or_let_in name caller = by (among name) refl
    where
      by : (b : Bool) → among name ≡ b → Outside name
          ⊎ Entered among (record { page = name; caller = caller; allowed = true } ∷ [])
      by true about = inr (entered_by among name caller about)
      by false about = inl about

  -- ---- pages

  module _ (call : List ℕ → Option Call) (one other : Pages) (differ : DifferWithin among one other)
    where
      shelf_is : shelf_of one ≡ shelf_of other
      shelf_is = fun_ext differ.shelf

      -- other names have the same units
      codes_are : (name : List ℕ) → among name ≡ false
          → unit_under one name ≡ unit_under other name
      codes_are name outside =
          ap (λ page. unwrap_or (script_in page) no_unit)
          (differ.pages name outside)

      -- and the same external functions
      names_are : (name function : List ℕ) → among name ≡ false
          → externals_of one name function ≡ externals_of other name function
      names_are name function outside =
          ap (λ page. option_and_then (λ (u : CodeUnit). external_in u function) (script_in page))
          (differ.pages name outside)

      -- hosts of both see the same
      abbrev pair : Pair (λ (s : Step). ⊤)
      pair = record {
        one = parts_of one;
        other = parts_of other;
        Lost = LetIn;
        Fine = Any;
        Runs = Outside;
        losing = let_in_stays;
        now = λ s i. ap (λ (shelf : Shelf). place_now shelf s.world) shelf_is;
        here = λ s i. ap (λ (shelf : Shelf). place_now shelf s.world) shelf_is;
        asks = λ name fresh. inl tt;
        pages = λ name fine. differ.shelf name;
        lets_in = λ name caller fine. outside_or_let_in name caller;
        names = names_are;
        codes = codes_are;
      }

      -- so the sites are alike
      alike : SitesAlike Anything Anything LetIn Any Outside (units_site call one)
          (units_site call other)
      unfolding units_site
      alike =
          sites_alike Anything anything_in_scripts pair call (anything_kept (shelf_of one))
          (λ k w place i is. tt)

      -- a key
      pub reacts_same : (pressed : Key) (keys : List Key) (w : World) → ⊤
          → StepAlike Anything LetIn (react (units_site call one) pressed keys w)
          (react (units_site call other) pressed keys w)
      reacts_same =
          react_alike Anything Anything LetIn Any Outside (units_site call one)
          (units_site call other) alike

-- over all pages
pub denied : (read : List ℕ → Result Indication PushFault) (call : List ℕ → Option Call)
    (among : List ℕ → Bool) (one other : Pages) → DifferWithin among one other
    → (keys : List Key) (phone : Phone)
    → is_let_in among (played read (units_site call one) keys phone).step.tests ≡ false
    → played read (units_site call one) keys phone ≡ played read (units_site call other) keys phone
denied read call among one other differ keys phone none =
    let here = units_site call one in
    let there = units_site call other in
    (unless_lost Anything (LetIn among) (λ (one : Stepped). one.step)
    (played read here keys phone) (played read there keys phone) (λ lost. cc (none, lost))
    (plays_same Anything (LetIn among) (let_in_stays among) here there
    (reacts_same among call one other differ) (λ one keys w i. tt) read keys phone tt)).0
