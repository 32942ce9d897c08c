-- What is said of keys over the units that a store's pages are judged to is said of them over the
-- sources that its pages are.
use Rattle.std.proofs.Common.{◌≡◌, ℕ, Bool, true, false, List, [], ◌∷◌, refl, sym, ap, subst, ◌∙◌}
use Rattle.wap_devices.specs.Stores.{StoreSeen}
use Rattle.wap_devices.specs.Sources.{MayGive}
use Rattle.wap_devices.specs.Transfer.{Appends}
use Rattle.wap_base.specs.declared.key.Key.{Key}
use Rattle.wap_base.specs.declared.key.Key.TheVariants.{Open}
use Rattle.wap_keys.specs.Lines.{Keys, keys_of}
use Rattle.wap_world.specs.site.Misses.{Cache}
use Rattle.wap_world.specs.Steps.{Step}
use Rattle.wap_world.specs.Sessions.{Begun, world_of}
use Rattle.wap_world.specs.inboxes.Inboxes.{Stepped}
use Rattle.wap_world.specs.scripting.UnitSites.{Pages, unit_pages}
use Rattle.wap_site_laws.proofs.ExchangeLemmas.Stores.{denied_stores}
use Rattle.wap_pages.specs.Judged.{judged}
use Rattle.wap_pages.specs.Caches.{seen_over}
use Rattle.wap_cli.specs.declared.status.Status.{Status}
use Rattle.wap_cli.specs.browse.Outside.{Outside}
use Rattle.wap_cli.specs.browse.Endings.{at_end}
use Rattle.wap_cli.specs.browse.Handling.{bytes_of}
use Rattle.wap_cli.specs.browse.Plays.{AreUnitPages as AreSeen, opened}
use Rattle.wap_cli.specs.browse.Headline.{AtEnd, Ends, Browses, BrowsesSeen}
use Rattle.wap_cli.proofs.BrowseLemmas.Forgetting.{browses_unjudged, fresh_over}
use Rattle.wap_cli.specs.Devices.{Devices, uncached}
use Rattle.wap_cli.specs.Networks.{network_of}
use Rattle.wap_cli.specs.resume.Saving.{opened_at}
use Rattle.wap_cli.specs.Browsing.{PagesAndReaders, ArePagesAndReaders, source_network, opened_over}
use Rattle.wap_cli.specs.Browsing.{WritesOver, BrowsesOver}
use Rattle.wap_cli.proofs.Calling.{network_units}

-- ---- a session that was played to the end of its keys

-- these were all, and it ended by whether a dialog is open there
end_at : {P : Type 0} (Are : P → Type 0) (play : P → List Key → Step) (old new : Outside)
    (taken : List ℕ) (given : List Key) (is_open : Bool)
    → Ends Are play old new taken given (at_end is_open)
    → AtEnd Are play old new taken given is_open
end_at Are play old new taken given false (Ends.done so) = so
end_at Are play old new taken given true (Ends.open_dialog so) = so

-- ---- sources, and the units that they are judged to

-- contents that may be a store's are judged to pages that may be seen over it
pub units_of : (store : StoreSeen) (cache : Cache) (one : PagesAndReaders)
    → ArePagesAndReaders store one → (units : Pages) × AreSeen (seen_over store cache) units
    × (network_of units ≡ source_network one)
units_of store cache one (contents, agrees, are, reads) = (
  unit_pages (judged contents),
  (judged contents, record { contents = contents; agrees = agrees; are = refl }, refl),
  sym (network_units one contents are reads),
)

-- so keys come to the same over both
opened_same : (store : StoreSeen) (cache : Cache) (begun : Begun) (one : PagesAndReaders)
    → ArePagesAndReaders store one → (units : Pages) × AreSeen (seen_over store cache) units
    × (opened begun units ≡ opened_over begun one)
opened_same store cache begun one are =
    let found = units_of store cache one are in (
      found.0,
      found.1,
      ap (opened_at begun) found.2,
    )

-- the outside over a store with the judgements of its pages, none of which is kept yet
abbrev pub fresh : ℕ → Devices → Outside
fresh capacity devices = fresh_over devices.store capacity devices.source devices.sink

module _ (begun : Begun) (capacity : ℕ) (old new : Devices) (status : Status) where
  abbrev before : Outside
  before = uncached capacity old

  abbrev after : Outside
  after = uncached capacity new

  -- where all keys were played, what was written is what they come to over another store, too, that
  -- differs in scripts which nobody entered
  writes_over : Browses (ArePagesAndReaders new.store) (opened_over begun) before after status
      → (is_open : Bool) → status ≡ at_end is_open → (bytes : List ℕ)
      → MayGive old.source new.source bytes → WritesOver begun old new bytes
  writes_over so is_open is bytes may one contents others pages agrees reads among differ none =
      let keys = (keys_of bytes).keys in
      let end =
      end_at (ArePagesAndReaders new.store) (opened_over begun) before after so.taken so.given
      is_open
      (subst (Ends (ArePagesAndReaders new.store) (opened_over begun) before after so.taken
      so.given)
      is so.ends) in
      let given : keys ≡ so.given = ap (λ (k : Keys). k.keys) (end.all.all bytes may) in
      let instead : PagesAndReaders = record one { pages = pages } in
      let same : opened_over begun one keys ≡ opened_over begun instead keys =
      ap (λ (stepped : Stepped). stepped.step)
      (denied_stores one.call among contents others one.pages pages differ one.push
      (Open begun.url ∷ keys) (record { world = world_of begun; pushes = [] }) none) in
      subst (λ (step : Step). Appends old.sink.taken new.sink.taken (bytes_of step))
      (ap (opened_over begun one) (sym given) ∙ same)
      (end.all.played.played one (contents, agrees, differ.are, reads)).wrote

  -- browsing over units is browsing over sources
  pub browses_over : BrowsesSeen (opened begun) (fresh capacity old) (fresh capacity new) status
      → BrowsesOver begun capacity old new status
  browses_over so =
      let browses : Browses (ArePagesAndReaders new.store) (opened_over begun) before after status =
      browses_unjudged (AreSeen (fresh capacity new).pages) (opened begun)
      (ArePagesAndReaders new.store) (opened_over begun)
      (opened_same new.store (record { names = []; capacity = capacity }) begun)
      (fresh capacity old) (fresh capacity new) status so in
      record { browses = browses; denied = writes_over browses }
