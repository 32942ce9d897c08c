-- Pages that are ready to be shared are those of a site, and stay.
use Rattle.std.proofs.Common.{[], refl, ap, subst, sym}
use Rattle.std.specs.List.{IsDistinct}
use Rattle.std.specs.Map.{keys_of}
use Rattle.wap_base.specs.Contents.{Contents}
use Rattle.wap_base.proofs.Orders.{distinct_from_ascending}
use Rattle.wap_world.specs.site.Pages.{Pages, AreSitePages}
use Rattle.wap_world.specs.site.Asking.{MayBe, Stays, in_memory}
use Rattle.wap_cli.specs.prepared.Prepared.{ArePrepared}

-- none of their names stands twice
pub fit : (pages : Pages) → ArePrepared pages → AreSitePages pages
fit pages prepared = record {
  distinct = distinct_from_ascending (keys_of pages) prepared.ascending;
  there = prepared.there;
}

-- whatever pages these may be are those of a site
pub fit_all : (seen : Pages) → ArePrepared seen → (pages : Pages) → MayBe (in_memory seen) pages
    → AreSitePages pages
fit_all seen prepared pages may = subst AreSitePages (sym may.are) (fit seen prepared)

-- after any calls they may be what they were
pub still : (before after : Pages) → Stays (in_memory before) (in_memory after)
    → MayBe (in_memory after) before
unfolding IsDistinct
still before after stays = record {
  contents = [];
  agrees = record { distinct = tt; fits = refl };
  are = ap (λ (judge : Contents → Pages). judge []) (sym stays.judge);
}
