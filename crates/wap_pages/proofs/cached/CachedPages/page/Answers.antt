use Rattle.std.proofs.Common.{◌≡◌, false, Bool, Option, Ok, Err, Result, sym, ap, subst, ◌∙◌}
use Rattle.std.specs.Prelude.{IfOk, IfSome, OnOk, OnErr, IsErrOf}
use Rattle.std.proofs.lemmas.Result.{err_from_is_err_and}
use Rattle.wap_base.specs.declared.fault.NoMemory.{NoMemory}
use Rattle.wap_base.specs.declared.fault.RunErr.{RunErr}
use Rattle.wap_base.specs.declared.fault.RunErr.TheVariants.{Store}
use Rattle.wap_world.specs.site.Misses.{Asked, after_asking, is_miss}
use Rattle.wap_world.specs.declared.site.page.Page.{Page}
use Rattle.wap_pages.specs.Caches.{KeepsNoMore}
use Rattle.wap_pages.specs.inside.Keeping.{Kept, names_in, IsRight}
use Rattle.wap_pages.proofs.Keeping.{sound_later}
use Rattle.wap_pages.proofs.Seeing.{right_seen, site_seen, hit_stays, hit_asks}
use Rattle.wap_pages.proofs.Seeing.{miss_stays, miss_asks, miss_fails}
use Rattle.wap_pages.proofs.Looking.{on_fault}
use Rattle.wap_pages.proofs.cached.CachedPages.page.Goals as goal

-- ---- out of memory at the look-up

pub invariant_of-self : goal.invariant_of-self
invariant_of-self g c =
    (c.look_up.ensures (g.S.Store.seen c.self.inside.store).known c.self.invariant).sound

pub returns-in_err-page-clause-site : goal.returns-in_err-page-clause-site
returns-in_err-page-clause-site g c =
    site_seen (g.S.Store.seen c.self.inside.store) (names_in c.look_up.new.kept)

pub returns-in_err-page-clause-stays : goal.returns-in_err-page-clause-stays
returns-in_err-page-clause-stays g c =
    let looked = c.look_up.ensures (g.S.Store.seen c.self.inside.store).known c.self.invariant in
    rw (← c.self.view_is)
    (hit_stays (g.S.Store.seen c.self.inside.store) (names_in c.self.inside.kept)
    (names_in c.look_up.new.kept) looked.capacity)

pub returns-in_err-page-clause-no_more : goal.returns-in_err-page-clause-no_more
returns-in_err-page-clause-no_more g c =
    let looked = c.look_up.ensures (g.S.Store.seen c.self.inside.store).known c.self.invariant in
    rw (← c.self.view_is)
    (on_fault (KeepsNoMore (names_in c.self.inside.kept) (names_in c.look_up.new.kept))
    c.from_residual.result looked.no_more)

-- ---- a page that is kept

pub invariant_of-self-in-Some : goal.invariant_of-self-in-Some
invariant_of-self-in-Some g c =
    (c.look_up.ensures (g.S.Store.seen c.self.inside.store).known c.self.invariant).sound

pub returns-in-Some-clause-found : goal.returns-in-Some-clause-found
returns-in-Some-clause-found g c =
    let known = (g.S.Store.seen c.self.inside.store).known in
    let looked = c.look_up.ensures known c.self.invariant in
    let is = c.in_ok-page.was ∙ ap (λ (found : Option Page). Ok found) c.in-Some.is in
    λ pages may.
    right_seen (g.S.Store.seen c.self.inside.store) (names_in c.look_up.new.kept) pages may
    c.args.name.now c.in-Some.page
    (subst (λ (r : Result (Option Page) NoMemory).
    IfOk r (λ found. IfSome found (IsRight known c.args.name.now))) is looked.right)

pub returns-in-Some-clause-site : goal.returns-in-Some-clause-site
returns-in-Some-clause-site g c =
    site_seen (g.S.Store.seen c.self.inside.store) (names_in c.look_up.new.kept)

pub returns-in-Some-clause-asks : goal.returns-in-Some-clause-asks
returns-in-Some-clause-asks g c =
    let looked = c.look_up.ensures (g.S.Store.seen c.self.inside.store).known c.self.invariant in
    let asked : Asked = (c.args.name.now, c.args.fresh) in
    let before = names_in c.self.inside.kept in
    let after = names_in c.look_up.new.kept in
    let is = c.in_ok-page.was ∙ ap (λ (found : Option Page). Ok found) c.in-Some.is in
    rw (← c.self.view_is)
    (hit_asks (g.S.Store.seen c.self.inside.store) before after asked
    (subst (λ (r : Result (Option Page) NoMemory).
    IfOk r (λ found. IfSome found (λ _. is_miss asked before ≡ false))) is looked.hit)
    (subst (λ (r : Result (Option Page) NoMemory).
    IfOk r (λ found. IfSome found (λ _. after ≡ after_asking asked before))) is looked.first))

pub returns-in-Some-clause-stays : goal.returns-in-Some-clause-stays
returns-in-Some-clause-stays g c =
    let looked = c.look_up.ensures (g.S.Store.seen c.self.inside.store).known c.self.invariant in
    rw (← c.self.view_is)
    (hit_stays (g.S.Store.seen c.self.inside.store) (names_in c.self.inside.kept)
    (names_in c.look_up.new.kept) looked.capacity)

-- ---- a page that couldn't be fetched

pub invariant_of-self-in_err-page-2 : goal.invariant_of-self-in_err-page-2
invariant_of-self-in_err-page-2 g c =
    let before = (g.S.Store.seen c.self.inside.store).known in
    sound_later before (g.S.Store.seen c.fetch.new.store).known c.fetch.ensures.asks.kept
    c.look_up.new.kept (c.look_up.ensures before c.self.invariant).sound

pub returns-in_err-page-2-clause-site : goal.returns-in_err-page-2-clause-site
returns-in_err-page-2-clause-site g c =
    site_seen (g.S.Store.seen c.fetch.new.store) (names_in c.look_up.new.kept)

pub returns-in_err-page-2-clause-failed : goal.returns-in_err-page-2-clause-failed
returns-in_err-page-2-clause-failed g c = λ why.
    let looked = c.look_up.ensures (g.S.Store.seen c.self.inside.store).known c.self.invariant in
    let none = c.in_ok-page.was ∙ ap (λ (found : Option Page). Ok found) c.in_default.is in
    let left = err_from_is_err_and c.from_residual-in_err-page-2.result
    c.from_residual-in_err-page-2.ensures.1 in
    rw (← c.self.view_is)
    (miss_fails (g.S.Store.seen c.self.inside.store) (names_in c.self.inside.kept)
    (g.S.Store.seen c.fetch.new.store) (names_in c.look_up.new.kept)
    (c.args.name.now, c.args.fresh) (looked.miss none) c.fetch.ensures.asks.counted
    (c.in_err-page-2.ensures.asks.failed
    (subst (λ (r : Result Page RunErr). IsErrOf r Store) (left.1 ∙ ap Err left.2) why)))

pub returns-in_err-page-2-clause-stays : goal.returns-in_err-page-2-clause-stays
returns-in_err-page-2-clause-stays g c =
    let looked = c.look_up.ensures (g.S.Store.seen c.self.inside.store).known c.self.invariant in
    rw (← c.self.view_is)
    (miss_stays (g.S.Store.seen c.self.inside.store) (names_in c.self.inside.kept)
    (g.S.Store.seen c.fetch.new.store) (names_in c.look_up.new.kept)
    c.fetch.ensures.asks looked.capacity)

pub returns-in_err-page-2-clause-no_more : goal.returns-in_err-page-2-clause-no_more
returns-in_err-page-2-clause-no_more g c =
    let looked = c.look_up.ensures (g.S.Store.seen c.self.inside.store).known c.self.invariant in
    rw (← c.self.view_is)
    (on_fault (KeepsNoMore (names_in c.self.inside.kept) (names_in c.look_up.new.kept))
    c.from_residual-in_err-page-2.result looked.no_more)

-- ---- out of memory for a page that was fetched

pub invariant_of-self-in_err-keep : goal.invariant_of-self-in_err-keep
invariant_of-self-in_err-keep g c =
    let before = (g.S.Store.seen c.self.inside.store).known in
    let after = (g.S.Store.seen c.fetch.new.store).known in
    (c.keep.ensures after
    (sound_later before after c.fetch.ensures.asks.kept c.look_up.new.kept
    (c.look_up.ensures before c.self.invariant).sound) c.in_ok-page-2.ensures.found).sound

pub returns-in_err-keep-clause-site : goal.returns-in_err-keep-clause-site
returns-in_err-keep-clause-site g c =
    site_seen (g.S.Store.seen c.fetch.new.store) (names_in c.keep.new.kept)

pub returns-in_err-keep-clause-stays : goal.returns-in_err-keep-clause-stays
returns-in_err-keep-clause-stays g c =
    let before = (g.S.Store.seen c.self.inside.store).known in
    let after = (g.S.Store.seen c.fetch.new.store).known in
    let looked = c.look_up.ensures before c.self.invariant in
    let kept = c.keep.ensures after
    (sound_later before after c.fetch.ensures.asks.kept c.look_up.new.kept looked.sound)
    c.in_ok-page-2.ensures.found in
    rw (← c.self.view_is)
    (miss_stays (g.S.Store.seen c.self.inside.store) (names_in c.self.inside.kept)
    (g.S.Store.seen c.fetch.new.store) (names_in c.keep.new.kept)
    c.fetch.ensures.asks (kept.capacity ∙ looked.capacity))

pub returns-in_err-keep-clause-no_more : goal.returns-in_err-keep-clause-no_more
returns-in_err-keep-clause-no_more g c =
    let before = (g.S.Store.seen c.self.inside.store).known in
    let after = (g.S.Store.seen c.fetch.new.store).known in
    let looked = c.look_up.ensures before c.self.invariant in
    let kept = c.keep.ensures after
    (sound_later before after c.fetch.ensures.asks.kept c.look_up.new.kept looked.sound)
    c.in_ok-page-2.ensures.found in
    let same =
    subst (λ (r : Result (Unit {0}) NoMemory). OnErr r (c.keep.new.kept ≡ c.look_up.new.kept))
    c.in_err-keep.was kept.no_more in
    rw (← c.self.view_is)
    (on_fault (KeepsNoMore (names_in c.self.inside.kept) (names_in c.keep.new.kept))
    c.from_residual-in_err-keep.result
    (subst (λ (k : Kept). KeepsNoMore (names_in c.self.inside.kept) (names_in k))
    (sym same) looked.no_more))

-- ---- a page that was fetched

pub invariant_of-self-2 : goal.invariant_of-self-2
invariant_of-self-2 g c =
    let before = (g.S.Store.seen c.self.inside.store).known in
    let after = (g.S.Store.seen c.fetch.new.store).known in
    (c.keep.ensures after
    (sound_later before after c.fetch.ensures.asks.kept c.look_up.new.kept
    (c.look_up.ensures before c.self.invariant).sound) c.in_ok-page-2.ensures.found).sound

pub returns-clause-found : goal.returns-clause-found
returns-clause-found g c = λ pages may.
    right_seen (g.S.Store.seen c.fetch.new.store) (names_in c.keep.new.kept) pages may
    c.args.name.now c.in_ok-page-2.page c.in_ok-page-2.ensures.found

pub returns-clause-site : goal.returns-clause-site
returns-clause-site g c =
    site_seen (g.S.Store.seen c.fetch.new.store) (names_in c.keep.new.kept)

pub returns-clause-asks : goal.returns-clause-asks
returns-clause-asks g c =
    let before = (g.S.Store.seen c.self.inside.store).known in
    let after = (g.S.Store.seen c.fetch.new.store).known in
    let looked = c.look_up.ensures before c.self.invariant in
    let kept = c.keep.ensures after
    (sound_later before after c.fetch.ensures.asks.kept c.look_up.new.kept looked.sound)
    c.in_ok-page-2.ensures.found in
    let none = c.in_ok-page.was ∙ ap (λ (found : Option Page). Ok found) c.in_default.is in
    let asked : Asked = (c.args.name.now, c.args.fresh) in
    let first =
    subst (λ (r : Result (Unit {0}) NoMemory).
    OnOk r ((fresh : Bool)
    → names_in c.keep.new.kept
    ≡ after_asking (c.args.name.now, fresh) (names_in c.look_up.new.kept)))
    c.in_ok-keep.was kept.first in
    rw (← c.self.view_is)
    (miss_asks (g.S.Store.seen c.self.inside.store) (names_in c.self.inside.kept)
    (g.S.Store.seen c.fetch.new.store) (names_in c.keep.new.kept)
    asked (looked.miss none)
    (first c.args.fresh ∙ ap (λ (k : Kept). after_asking asked (names_in k)) (looked.same none))
    c.fetch.ensures.asks.counted c.in_ok-page-2.ensures.asks.steady)

pub returns-clause-stays : goal.returns-clause-stays
returns-clause-stays g c =
    let before = (g.S.Store.seen c.self.inside.store).known in
    let after = (g.S.Store.seen c.fetch.new.store).known in
    let looked = c.look_up.ensures before c.self.invariant in
    let kept = c.keep.ensures after
    (sound_later before after c.fetch.ensures.asks.kept c.look_up.new.kept looked.sound)
    c.in_ok-page-2.ensures.found in
    rw (← c.self.view_is)
    (miss_stays (g.S.Store.seen c.self.inside.store) (names_in c.self.inside.kept)
    (g.S.Store.seen c.fetch.new.store) (names_in c.keep.new.kept)
    c.fetch.ensures.asks (kept.capacity ∙ looked.capacity))
