-- Over devices in memory what is said of all that may have been is said of exactly what they hold.
use Rattle.std.proofs.Common.{◌≡◌, ℕ, List, [], ◌∷◌, ◌++◌, refl, sym, ap, subst, ◌∙◌}
use Rattle.std.proofs.lemmas.List.{append_cancel_left}
use Rattle.wap_base.specs.Contents.{Contents}
use Rattle.wap_devices.specs.Stores.{Known, Fits, Agrees, Grew}
use Rattle.wap_devices.specs.Sources.{Coming, Left, Unknown, MayCome}
use Rattle.wap_devices.proofs.Telling.{held_still}
use Rattle.wap_keys.proofs.GivingLaws.{may_split, held_gives}
use Rattle.wap_world.specs.Sessions.{Begun}
use Rattle.wap_site_laws.specs.pages.SourcePages.{ArePages}
use Rattle.wap_cli.specs.declared.status.Status.{Status}
use Rattle.wap_cli.specs.Devices.{Devices}
use Rattle.wap_cli.specs.Browsing.{BrowsesOver}
use Rattle.wap_cli.specs.InMemory.{HoldAll, AreBrowsed}

-- what is to come of a source that held these bytes is what follows those that it gave
left_of : (taken bytes rest : List ℕ) (coming : Coming)
    → ((others : List ℕ) → MayCome coming others → bytes ≡ taken ++ others)
    → bytes ≡ taken ++ rest → coming ≡ Left rest
left_of taken bytes rest (Left left) came split =
    ap Left (append_cancel_left taken left rest (sym (came left refl) ∙ split))
left_of taken bytes rest Unknown came split =
    let none_is_one =
    append_cancel_left taken [] (0 ∷ []) (sym (came [] tt) ∙ came (0 ∷ []) tt) in
    absurd cc

-- so exactly these bytes are read, and these contents browsed
pub held_are_browsed : (begun : Begun) (capacity : ℕ) (contents : Contents) (bytes : List ℕ)
    (old new : Devices) (status : Status) → HoldAll contents bytes old
    → BrowsesOver begun capacity old new status → AreBrowsed contents bytes old new
held_are_browsed begun capacity contents bytes old new status holds so =
    let reads = so.browses.reads in
    let taken = so.browses.taken in
    let held = held_still contents new.store.known
    (subst (λ (known : Known). Grew known new.store.known) holds.held so.browses.stays.known) in
    let agrees : Agrees new.store.known contents =
    subst (λ (known : Known). Agrees known contents) (sym held)
    (record { distinct = holds.distinct; fits = refl }) in
    let may = held_gives taken bytes old.source new.source reads.takes holds.left in
    let split = may_split old.source new.source taken bytes reads.takes may in
    let left = left_of taken bytes may.rest new.source.coming
    (λ others came. subst (λ (coming : Coming). MayCome coming (taken ++ others)) holds.left
    (reads.takes.coming others came)) split in
    record {
      held = held;
      pages = λ one (are, calls). (contents, agrees, are, calls);
      no_others = λ one (others, agree, are, calls). (
        subst (λ (c : Contents). ArePages c one.pages)
            (sym (subst (λ (known : Known). Fits known others) held agree.fits)) are,
        calls,
      );
      may = may;
      left = left;
      only = λ others gives.
          may_split old.source new.source taken others reads.takes gives
          ∙ ap (λ (l : List ℕ). taken ++ l)
          (sym (subst (λ (coming : Coming). MayCome coming gives.rest) left gives.coming))
          ∙ sym split;
    }
