-- A world whose current card is known, and the page of this card that is asked for. Contracts
-- inside the crate cite it. This project's own.
use Rattle.std.specs.Prelude.{◌≡◌, false, [], ◌∷◌, IfOk, OnOk, Result, Err}
use Rattle.wap_base.specs.declared.fault.RunErr.{RunErr}
use Rattle.wap_base.specs.declared.fault.RunErr.TheVariants.{Store}
use Rattle.wap_url.specs.declared.url.Url.{Url}
use Rattle.wap_url.specs.Printing.{name_for}
use Rattle.wap_world.specs.declared.site.page.Page.{Page}
use Rattle.wap_world.specs.site.Pages.{Pages as JudgedPages, page_of, AreSitePages}
use Rattle.wap_world.specs.site.Asking.{Seen, MayBe, Stays, Asks, Fails}
use Rattle.wap_world.specs.declared.history.Entry.{Entry}
use Rattle.wap_world.specs.World.{World}
use Rattle.wap_context.specs.declared.saved.Revived.{Revived}
use Rattle.wap_context.specs.Saved.{revived_on}

-- the page of a URL, which is asked for and not fresh
pub record AsksPage (url : Url) (before after : Seen) (result : Result Page RunErr) : Type 0 where
  pub answer : IfOk result (λ page. (pages : JudgedPages) → MayBe after pages
      → page ≡ page_of (name_for url) pages)
  pub site : OnOk result ((pages : JudgedPages) → MayBe after pages → AreSitePages pages)
  pub asks : OnOk result (Asks ((name_for url, false) ∷ []) before after)
  pub missed : result ≡ Err Store → Fails ((name_for url, false) ∷ []) before after
  pub stays : Stays before after

-- what is made of it by the page, which is that of any pages that these may be
pub record IsReturned (world : World) (last : Entry) (seen : Seen) (result : Revived) : Type 0 where
  pub answer : Page
  pub found : (pages : JudgedPages) → MayBe seen pages → answer ≡ page_of (name_for last.url) pages
  pub is : result ≡ revived_on world answer

-- the page is asked for
pub record Returns (world : World) (last : Entry) (before after : Seen)
    (result : Result Revived RunErr) : Type 0 where
  pub returned : IfOk result (IsReturned world last after)
  pub site : OnOk result ((pages : JudgedPages) → MayBe after pages → AreSitePages pages)
  pub asks : OnOk result (Asks ((name_for last.url, false) ∷ []) before after)
  pub missed : result ≡ Err Store → Fails ((name_for last.url, false) ∷ []) before after
  pub stays : Stays before after
