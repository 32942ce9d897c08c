-- Sites of pages that agree beside some names: both are as the site without the pages of these.
use Rattle.std.proofs.Math.Path.{fun_ext}
use Rattle.std.proofs.Common.{◌≡◌, inl, inr, ℕ, Bool, true, false, List, cond, Option, None, refl}
use Rattle.std.proofs.Common.{sym, ap, ◌∙◌, subst}
use Rattle.std.specs.Prelude.{unwrap_or, Result}
use Rattle.std.specs.Option.{option_and_then}
use Rattle.wap_unit.specs.declared.unit.Unit.{Unit as CodeUnit}
use Rattle.wap_base.specs.declared.key.Key.{Key}
use Rattle.wap_world.specs.Shelves.{no_page}
use Rattle.wap_world.specs.World.{World}
use Rattle.wap_world.specs.Steps.{Step}
use Rattle.wap_world.specs.Sites.{External, Call, Site}
use Rattle.wap_world.specs.Keys.{react}
use Rattle.wap_world.specs.Sessions.{played}
use Rattle.wap_world.specs.scripting.Units.{external_in}
use Rattle.wap_world.specs.scripting.ScriptPages.{script_in, shelved}
use Rattle.wap_world.specs.scripting.UnitSites.{Pages, units, shelf_of, no_unit, unit_under}
use Rattle.wap_world.specs.scripting.UnitSites.{externals_of, units_site}
use Rattle.wap_site_laws.specs.unasked.Unasked.{is_asked, AgreeBeside, UnaskedMatterNot, EndsBeside}
use Rattle.wap_push.specs.declared.indication.Indication.{Indication}
use Rattle.wap_push.specs.declared.fault.PushFault.{PushFault}
use Rattle.wap_world.specs.inboxes.Inboxes.{Phone, Stepped}
use Rattle.wap_world.proofs.Alike.{AlikeBy, StepAlike, unless_lost}
use Rattle.wap_world.proofs.Walk.{SitesAlike, react_alike}
use Rattle.wap_world.proofs.Plays.{plays_same}
use Rattle.wap_site_laws.proofs.UnaskedLemmas.Beside.{Clear, bare, bare_same, place_same, place_off}
use Rattle.wap_site_laws.proofs.UnaskedLemmas.Rules.{On, Asking, Outside, asking_stays}
use Rattle.wap_site_laws.proofs.UnaskedLemmas.Rules.{outside_or_asking, clear_kept}
use Rattle.wap_site_laws.proofs.UnaskedLemmas.Rules.{clear_in_scripts}
use Rattle.wap_world.proofs.Hosts.Calls.{Pair}
use Rattle.wap_world.proofs.Hosts.Runs.{parts_with, parts_of, site_with, sites_alike}

module _ (among : List ℕ → Bool) (call : List ℕ → Option Call) where
  -- external functions of other names alone
  abbrev names_beside : Pages → List ℕ → List ℕ → Option External
  names_beside pages name function = cond (among name) None (externals_of pages name function)

  -- units of other names alone
  abbrev codes_beside : Pages → List ℕ → CodeUnit
  codes_beside pages name = cond (among name) no_unit (unit_under pages name)

  -- the site without the pages of these names
  abbrev pub site_beside : Pages → Site
  site_beside pages =
      site_with call
      (parts_with (bare among (shelf_of pages)) (names_beside pages) (codes_beside pages))

  module _ (pages : Pages) where
    -- which are those of other names
    names_same : (name function : List ℕ) → among name ≡ false
        → externals_of pages name function ≡ names_beside pages name function
    names_same name function off =
        ap (λ (b : Bool). cond b None (externals_of pages name function)) (sym off)

    -- and so are the units
    codes_same : (name : List ℕ) → among name ≡ false
        → unit_under pages name ≡ codes_beside pages name
    codes_same name off = ap (λ (b : Bool). cond b no_unit (unit_under pages name)) (sym off)

    -- hosts of both see the same of what is on none of these names
    abbrev pair : Pair (λ s. Clear among s.world)
    pair =
        let shelf = shelf_of pages in record {
          one = parts_of pages;
          other = parts_with (bare among shelf) (names_beside pages) (codes_beside pages);
          Lost = Asking among;
          Fine = Outside among;
          Runs = Outside among;
          losing = asking_stays among;
          now = λ s clear. place_same among shelf s.world clear;
          here = λ s clear. place_same among shelf s.world clear;
          asks = outside_or_asking among;
          pages = bare_same among shelf;
          lets_in = λ name caller off. inl off;
          names = names_same;
          codes = codes_same;
        }

    -- so both sites are alike
    alike : SitesAlike (On among) (On among) (Asking among) (Outside among) (Outside among)
        (units_site call pages) (site_beside pages)
    unfolding units_site
    alike =
        let shelf = shelf_of pages in
        sites_alike (On among) (clear_in_scripts among) pair call (clear_kept among shelf)
        (λ k w place clear is.
        place_off among shelf w place (sym (place_same among shelf w clear) ∙ is))

    -- a key
    reacts_beside : (one : Key) (keys : List Key) (w : World) → Clear among w
        → StepAlike (On among) (Asking among) (react (units_site call pages) one keys w)
        (react (site_beside pages) one keys w)
    reacts_beside =
        react_alike (On among) (On among) (Asking among) (Outside among) (Outside among)
        (units_site call pages) (site_beside pages) alike

    -- keys
    pub plays_beside : (read : List ℕ → Result Indication PushFault) (keys : List Key)
        (phone : Phone) → Clear among phone.world
        → AlikeBy (On among) (Asking among) (λ (one : Stepped). one.step)
        (played read (units_site call pages) keys phone)
        (played read (site_beside pages) keys phone)
    plays_beside =
        plays_same (On among) (Asking among) (asking_stays among) (units_site call pages)
        (site_beside pages) reacts_beside (λ one keys w clear. clear)

  -- ---- pages that agree

  module _ (one other : Pages) (agree : AgreeBeside among one other) where
    -- their shelves are the same beside these names
    shelves_are : bare among (shelf_of one) ≡ bare among (shelf_of other)
    shelves_are = fun_ext (λ name. by name (among name) refl)
      where
        by : (name : List ℕ) (b : Bool) → among name ≡ b
            → cond b no_page (shelf_of one name) ≡ cond b no_page (shelf_of other name)
        by name true about = refl
        by name false about = ap (λ page. shelved units page) (agree name about)

    -- and so are their external functions
    names_are : names_beside one ≡ names_beside other
    names_are = fun_ext (λ name. fun_ext (λ function. by name function (among name) refl))
      where
        by : (name function : List ℕ) (b : Bool) → among name ≡ b
            → cond b None (externals_of one name function)
            ≡ cond b None (externals_of other name function)
        by name function true about = refl
        by name function false about =
            ap (λ page. option_and_then (λ (u : CodeUnit). external_in u function) (script_in page))
            (agree name about)

    -- and their units
    codes_are : codes_beside one ≡ codes_beside other
    codes_are = fun_ext (λ name. by name (among name) refl)
      where
        by : (name : List ℕ) (b : Bool) → among name ≡ b
            → cond b no_unit (unit_under one name) ≡ cond b no_unit (unit_under other name)
        by name true about = refl
        by name false about = ap (λ page. unwrap_or (script_in page) no_unit) (agree name about)

    -- without the pages of these names both are the same site
    sites_are : site_beside one ≡ site_beside other
    sites_are = λ i. site_with call (parts_with (shelves_are i) (names_are i) (codes_are i))

-- ---- two steps that are as a third

module _ {S : Type 0} (among : List ℕ → Bool) (step : S → Step) (a b c : S)
    (none : is_asked among (step a).asked ≡ false)
    (one : AlikeBy (On among) (Asking among) step a c) where
  -- what asked for none of these names isn't lost
  not_lost : (a ≡ c) × Clear among (step a).world
  not_lost =
      unless_lost (On among) (Asking among) step a c (λ lost. cc (none, lost)) one

  -- it ends on none of them
  ends_clear : Clear among (step a).world
  ends_clear = not_lost.1

  -- and the first two are the same
  meet : AlikeBy (On among) (Asking among) step b c → a ≡ b
  meet (inl two) = not_lost.0 ∙ sym two.0
  meet (inr lost) =
      let none' : is_asked among (step c).asked ≡ false =
      subst (λ (s : S). is_asked among (step s).asked ≡ false) not_lost.0 none in
      absurd (let asks = lost.1 in cc (none', asks))

-- over all pages
pub unasked : UnaskedMatterNot
unasked read call among one other agree keys phone clear none =
    let there = played read (units_site call other) keys phone in
    meet among (λ (s : Stepped). s.step) (played read (units_site call one) keys phone)
    there (played read (site_beside among call one) keys phone) none
    (plays_beside among call one read keys phone clear)
    (subst (λ (s : Site). AlikeBy (On among) (Asking among) (λ (s : Stepped). s.step) there
    (played read s keys phone)) (sym (sites_are among call one other agree))
    (plays_beside among call other read keys phone clear))

-- where none of these names was asked for, the session ends on none of them
pub ends_beside : EndsBeside
ends_beside read call among pages keys phone clear none =
    let end = played read (units_site call pages) keys phone in
    ends_clear among (λ (s : Stepped). s.step) end end
    (played read (site_beside among call pages) keys phone) none
    (plays_beside among call pages read keys phone clear)
