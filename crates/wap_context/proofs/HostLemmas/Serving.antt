-- Calls that ask for a page, and calls that don't, as calls of a host.
use Rattle.std.proofs.Common.{◌≡◌, ◌∙◌, ◌+◌, ℕ, List, [], ◌∷◌, ◌++◌, Option}
use Rattle.std.proofs.Common.{Some, None, Ok, Err, refl, sym, ap, subst, append-nil, arith}
use Rattle.std.specs.Prelude.{Result, IfSome, IsErr, IsErrAnd}
use Rattle.std.proofs.lemmas.Bool.{false≢true}
use Rattle.std.proofs.Math.Path.{fun_ext}
use Rattle.std.specs.Option.{option_map}
use Rattle.wap_base.specs.declared.fault.RunErr.{RunErr}
use Rattle.wap_base.specs.declared.fault.RunErr.TheVariants.{NoMemory}
use Rattle.wap_url.specs.declared.url.Url.{Url}
use Rattle.wap_url.specs.Printing.{name_for}
use Rattle.wap_tokens.specs.declared.markup.deck.Deck.{Deck}
use Rattle.wap_execution.specs.declared.library.HostOut.{HostOut}
use Rattle.wap_execution.specs.declared.library.HostOut.TheVariants as out
use Rattle.wap_value.specs.declared.value.Value.TheVariants.{Invalid}
use Rattle.wap_world.specs.scripting.Browsing.{gives}
use Rattle.wap_world.specs.scripting.Hosting.{within}
use Rattle.wap_machine.specs.Hosts.{Gives}
use Rattle.wap_world.specs.declared.site.page.Page.{Page}
use Rattle.wap_world.specs.site.Pages.{Pages as JudgedPages, page_of, AreSitePages}
use Rattle.wap_world.specs.site.Misses.{Cache, Asked as Question, after_asking, after_all}
use Rattle.wap_world.specs.site.Misses.{misses}
use Rattle.wap_world.specs.site.Asking.{Seen}
use Rattle.wap_world.proofs.SiteLemmas.Asking.{Stays-same}
use Rattle.wap_world.specs.Requests.{plain_get, request_line}
use Rattle.wap_world.specs.Shelves.{Shelf}
use Rattle.wap_world.specs.World.{World}
use Rattle.wap_world.specs.Steps.{Step}
use Rattle.wap_world.specs.scripting.UnitSites.{Pages, shelf_of, unit_pages}
use Rattle.wap_world.specs.scripting.Views.{Counted, View, counted_all, added}
use Rattle.wap_context.specs.host.Stages.{Sight, counted_in, view_in}
use Rattle.wap_context.specs.host.Serving.{begun, Gave, done_by, Serves, question, AsksFor}

-- ---- views

-- a view of these pages
abbrev pub view_with : Sight → Pages → Option Counted → View
view_with sight pages counted = record {
  world = sight.world;
  deck = sight.deck;
  lines = sight.lines;
  pages = pages;
  counted = counted;
}

abbrev counted_of : Option Cache → ℕ → Option Counted
counted_of cache fetches = option_map (λ one. record { cache = one; fetches = fetches }) cache

-- ---- a call that asks for no page

module _ (rule : View → HostOut × Step) (row : Step → HostOut × Step) (old new : Sight)
    (out : HostOut) (gave : Gave row old new out) where
  new_is : new ≡ record old {
    world = (row (begun old)).1.world;
    lines = old.lines ++ (row (begun old)).1.lines;
  }
  new_is =
      ap (λ (w : World). record new { world = w }) gave.world
      ∙ ap (λ (l : List (List ℕ)). record new { world = (row (begun old)).1.world; lines = l })
      gave.lines
      ∙ ap (λ (d : Option Deck). record old {
        world = (row (begun old)).1.world;
        deck = d;
        lines = old.lines ++ (row (begun old)).1.lines;
      }) gave.deck

  gives_in : (pages : Pages) (counted : Option Counted)
      → rule (view_with old pages counted) ≡ row (begun old)
      → Gives (done_by rule (view_with old pages counted)) out (view_with new pages counted)
  gives_in pages counted same =
      let view = view_with old pages counted in
      record {
        answers = gave.answers ∙ sym (ap (λ (g : HostOut × Step). g.0) same);
        stays =
            ap (λ (s : Sight). view_with s pages counted) new_is
            ∙ ap (λ (c : Option Counted). record view {
              world = (row (begun old)).1.world;
              lines = old.lines ++ (row (begun old)).1.lines;
              counted = c;
            }) (sym (ap (λ (a : List Question). counted_all a counted) gave.unasked))
            ∙ ap (λ (g : HostOut × Step). (added view g).1) (sym same);
      }

-- a row over each shelf gave it
pub each_serves : (rule : View → HostOut × Step) (row : Shelf → Step → HostOut × Step)
    (old new : Sight) (out : HostOut) → ((shelf : Shelf) → Gave (row shelf) old new out)
    → ((pages : Pages) (counted : Option Counted)
    → rule (view_with old pages counted) ≡ row (shelf_of pages) (begun old))
    → (seen : Seen) → Serves rule old new seen seen (Ok out)
each_serves rule row old new out gave is seen = record {
  told = λ judged may.
      let pages = unit_pages judged in
      gives_in rule (row (shelf_of pages)) old new out (gave (shelf_of pages)) pages
      (counted_in seen) (is pages (counted_in seen));
  steady = refl;
  failed = λ failed. absurd (cc);
  fetched = λ failed. absurd (cc);
  stays = Stays-same seen;
}

pub gave_serves : (rule : View → HostOut × Step) (row : Step → HostOut × Step) (old new : Sight)
    (out : HostOut) → Gave row old new out
    → ((pages : Pages) (counted : Option Counted)
    → rule (view_with old pages counted) ≡ row (begun old))
    → (seen : Seen) → Serves rule old new seen seen (Ok out)
gave_serves rule row old new out gave is seen =
    each_serves rule (λ shelf. row) old new out (λ shelf. gave) is seen

-- ---- what is counted where a page is asked for

module _ (one : Question) where
  abbrev all : List Question
  all = one ∷ []

  counted_after : (cache later : Option Cache) (fetches more : ℕ)
      → later ≡ option_map (after_all all) cache
      → IfSome cache (λ c. more ≡ fetches + misses all c)
      → counted_of later more ≡ counted_all all (counted_of cache fetches)
  counted_after None later fetches more is so = ap (λ (c : Option Cache). counted_of c more) is
  counted_after (Some cache) later fetches more is so =
      ap (λ (c : Option Cache). counted_of c more) is
      ∙ ap (λ (n : ℕ). counted_of (Some (after_asking one cache)) n)
      (omega (arith, so))

-- ---- a call that asks for a page

-- a row adds the request of a URL, and answers this
pub record Comes {A : Type 0} (url : Url) (world : World) (answer : A) (gave : A × Step) : Type 0
  where
    pub answers : gave.0 ≡ answer
    pub world_is : gave.1.world ≡ world
    pub lines : gave.1.lines ≡ request_line (plain_get url) ∷ []
    pub asked : gave.1.asked ≡ question url ∷ []

module _ {A : Type 0} (url : Url) (rule : View → A × Step) (answer : Page → A) (old : Sight)
    (comes : (judged : JudgedPages) (counted : Option Counted) → AreSitePages judged
    → Comes url old.world (answer (page_of (name_for url) judged))
    (rule (view_with old (unit_pages judged) counted))) where
  abbrev line : List ℕ
  line = request_line (plain_get url)

  told_in : (judged : JudgedPages) (counted later : Option Counted) → AreSitePages judged
      → later ≡ counted_all (question url ∷ []) counted
      → Gives (done_by rule (view_with old (unit_pages judged) counted))
      (answer (page_of (name_for url) judged))
      (view_with (record old { lines = old.lines ++ line ∷ [] }) (unit_pages judged) later)
  told_in judged counted later are is =
      let view = view_with old (unit_pages judged) counted in
      let come = comes judged counted are in
      record {
        answers = sym come.answers;
        stays =
            ap (λ (c : Option Counted). record view {
              lines = old.lines ++ line ∷ [];
              counted = c;
            }) (is ∙ ap (λ (a : List Question). counted_all a counted) (sym come.asked))
            ∙ ap (λ (l : List (List ℕ)). record view {
              lines = old.lines ++ l;
              counted = counted_all (rule view).1.asked counted;
            }) (sym come.lines)
            ∙ ap (λ (w : World). record view {
              world = w;
              lines = old.lines ++ (rule view).1.lines;
              counted = counted_all (rule view).1.asked counted;
            }) (sym come.world_is);
      }

  -- the page was there
  pub asked_serves : (new : Sight) (before after : Seen) (page : Page) (given : A)
      → AsksFor url old new before after (Ok page) → given ≡ answer page
      → Serves rule old new before after (Ok given)
  asked_serves new before after page given asks is = record {
    told = λ judged may.
        let done = done_by rule (view_in old before judged) in
        subst (λ (g : A). Gives done g (view_in new after judged))
        (ap answer (sym (asks.page judged may)) ∙ sym is)
        (subst (λ (s : Sight). Gives done (answer (page_of (name_for url) judged))
        (view_in s after judged)) (sym asks.line)
        (told_in judged (counted_in before) (counted_in after) (asks.site judged may)
        (counted_after (question url) before.cache after.cache before.fetches after.fetches
        asks.asks.cache asks.asks.fetches)));
    steady = asks.asks.steady;
    failed = λ failed. absurd (cc);
    fetched = λ failed. absurd (cc);
    stays = asks.stays;
  }

-- memory ran out before anything was asked
pub asks_nothing : (url : Url) (old new : Sight) (seen : Seen) (result : Result Page RunErr)
    → IsErr result → IsErrAnd result (λ err. err ≡ NoMemory) → AsksFor url old new seen seen result
asks_nothing url old new seen (Ok page) is so = absurd (false≢true is)
asks_nothing url old new seen (Err err) is so = record {
  page = tt;
  line = tt;
  site = tt;
  failed_site = λ failed. absurd (cc);
  asks = tt;
  failed = λ failed. absurd (cc);
  stays = Stays-same seen;
}

-- memory ran out before anything was asked
pub lacks_serves : {A : Type 0} (rule : View → A × Step) (old new : Sight) (seen : Seen)
    (result : Result A RunErr) → IsErr result → IsErrAnd result (λ err. err ≡ NoMemory)
    → Serves rule old new seen seen result
lacks_serves rule old new seen (Ok answer) is so = absurd (false≢true is)
lacks_serves rule old new seen (Err err) is so = record {
  told = tt;
  steady = tt;
  failed = λ failed. absurd (cc);
  fetched = λ failed. absurd (cc);
  stays = Stays-same seen;
}

-- by another rule that comes to the same
pub serves_as : {A : Type 0} (rule other : View → A × Step) (old new : Sight) (before after : Seen)
    (result : Result A RunErr) → ((view : View) → other view ≡ rule view)
    → Serves other old new before after result → Serves rule old new before after result
serves_as {A = A} rule other old new before after result is so =
    subst (λ (r : View → A × Step). Serves r old new before after result) (fun_ext is) so

-- an argument that has no conversion gives invalid
pub nothing_gave : (sight : Sight)
    → Gave (λ step. within (gives Invalid step)) sight sight (out.Value Invalid)
nothing_gave sight = record {
  answers = refl;
  world = refl;
  lines = sym (append-nil sight.lines);
  deck = refl;
  unasked = refl;
  no_budget = tt;
}
