-- Keys that go on from an image over another store.
use Rattle.std.proofs.Common.{◌≡◌, ℕ, Bool, false, List, [], ◌∷◌, ◌++◌, Option, Some, None}
use Rattle.std.proofs.Common.{refl, sym, ap, ◌∙◌}
use Rattle.std.proofs.lemmas.Bool.{or_parts}
use Rattle.std.proofs.lemmas.List.Folds.{list_any-append}
use Rattle.std.proofs.lemmas.Map.Entries.{All-lookup}
use Rattle.std.specs.Cmp.Lexicographic.{nat_list_eq_equiv}
use Rattle.std.specs.Prelude.{◌≢◌, IfSome, map, unwrap_or}
use Rattle.std.specs.Option.{option_map, option_map_or, option_and_then}
use Rattle.wap_base.specs.Controls.{shown_text}
use Rattle.wap_base.specs.Contents.{Contents}
use Rattle.wap_base.specs.Texts.{is_same_text}
use Rattle.wap_base.specs.declared.key.Key.{Key}
use Rattle.wap_base.specs.declared.key.Key.TheVariants.{Open}
use Rattle.wap_tokens.specs.declared.markup.deck.Deck.{Deck}
use Rattle.wap_push.specs.Pushes.{push_at}
use Rattle.wap_url.specs.Printing.{name_for}
use Rattle.wap_image.specs.declared.context_parts.parts.ContextParts.{ContextParts}
use Rattle.wap_world.specs.declared.site.page.Page.{Page}
use Rattle.wap_world.specs.declared.site.page.Page.TheVariants as judge
use Rattle.wap_world.specs.site.Misses.{Asked}
use Rattle.wap_world.specs.site.Pages.{IsThere, page_under as judged_under}
use Rattle.wap_pages.specs.Judged.{judged}
use Rattle.wap_pages.proofs.Judgements.{judged_there}
use Rattle.wap_world.specs.declared.history.Entry.{Entry}
use Rattle.wap_world.specs.Shelves.{Shelf}
use Rattle.wap_world.specs.World.{World, deck_in, deck_at, last_entry}
use Rattle.wap_layout.specs.buffer.Written.{lines_bytes}
use Rattle.wap_world.specs.Steps.{Step}
use Rattle.wap_world.specs.Sessions.{Begun, world_of}
use Rattle.wap_world.specs.session_laws.Standing.{HaveCards}
use Rattle.wap_world.specs.inboxes.Inboxes.{Stepped}
use Rattle.wap_world.specs.scripting.ScriptPages.{shelved}
use Rattle.wap_world.specs.scripting.UnitSites.{Pages, units, shelf_of, unit_page, unit_pages}
use Rattle.wap_site_laws.specs.unasked.Unasked.{is_asked, is_on, AgreeBeside}
use Rattle.wap_site_laws.proofs.UnaskedLemmas.Sites.{unasked as matter_not, ends_beside}
use Rattle.wap_context.proofs.HostLemmas.Shelves.{under_is}
use Rattle.wap_context.specs.Sites.{fragment_call, site_of}
use Rattle.wap_context.specs.Saved.{with_last_in}
use Rattle.wap_cli.specs.browse.Handling.{bytes_of}
use Rattle.wap_cli.specs.browse.Plays.{opened, HaveNoPush}
use Rattle.wap_cli.specs.resume.Saving.{played_in, EndsIn, IsWhole}
use Rattle.wap_cli.specs.resume.Resuming.{resumed, world_with, world_over}
use Rattle.wap_cli.proofs.ResumeLemmas.Reviving.{site_shelf}
use Rattle.wap_cli.proofs.ResumeLemmas.Lasting.{goes_on, leads_back, same_asked}
use Rattle.wap_cli.specs.resume_laws.Stores.{AgreeBut}

-- ---- pages of two stores

-- the page of a name is there
there : (name : List ℕ) (contents : Contents) → IfSome (judged_under name (judged contents)) IsThere
there name contents =
    All-lookup IsThere (λ other. is_same_text other name) (judged contents) (judged_there contents)

-- so the pages of units agree where the judged pages do
same_found : (found found' : Option Page) → IfSome found IsThere → IfSome found' IsThere
    → unwrap_or found judge.Missing ≡ unwrap_or found' judge.Missing
    → option_map unit_page found ≡ option_map unit_page found'
same_found None None is is' same = refl
same_found None (Some page) is is' same = absurd (is' (sym same))
same_found (Some page) None is is' same = absurd (is same)
same_found (Some page) (Some other) is is' same =
    ap (λ (p : Page). option_map unit_page (Some p)) same

-- texts that differ are not the same
apart_are : (name page : List ℕ) → is_same_text name page ≡ false → page ≢ name
apart_are name page apart is =
    let same = nat_list_eq_equiv.refl name in
    let not = ap (is_same_text name) (sym is) ∙ apart in
    absurd cc

-- so pages of units agree beside a name where judged pages do
pub agree_beside : (name : List ℕ) (one other : Contents) → AgreeBut name one other
    → AgreeBeside (is_same_text name) (unit_pages (judged one)) (unit_pages (judged other))
agree_beside name one other agree page off =
    under_is page (judged one)
    ∙ same_found (judged_under page (judged one)) (judged_under page (judged other))
    (there page one) (there page other) (agree page (apart_are name page off))
    ∙ sym (under_is page (judged other))

-- ---- sessions over both

module _ (among : List ℕ → Bool) (one other : Pages) (agree : AgreeBeside among one other) where
  -- a world on none of these names is over both what it is over one
  over_both : (world : World) → is_on among world ≡ false
      → world_over (shelf_of other) world ≡ world_over (shelf_of one) world
  over_both world off =
      ap (λ (deck : Option Deck). option_map_or (λ d. with_last_in d world) deck world)
      (sym (by (last_entry world) off))
    where
      by : (last : Option Entry)
          → option_map_or (λ (e : Entry). among (name_for e.url)) last false ≡ false
          → option_and_then (λ (e : Entry). deck_at (shelf_of one) e.url) last
          ≡ option_and_then (λ (e : Entry). deck_at (shelf_of other) e.url) last
      by None none = refl
      by (Some e) none = ap (λ page. deck_in (shelved units page)) (agree (name_for e.url) none)

  -- what first keys show over the one pages and then others over the other pages is what all of
  -- them show over the one
  pub goes_on_over : (begun : Begun) (first others : List Key) (parts : ContextParts)
      → EndsIn begun one first parts → IsWhole parts (opened begun one first).world
      → HaveNoPush first → HaveCards (shelf_of one)
      → is_asked among (opened begun one (first ++ others)).asked ≡ false
      → bytes_of (opened begun one (first ++ others))
      ≡ bytes_of (opened begun one first) ++ bytes_of (resumed parts begun.budget other others)
  goes_on_over begun first others parts ends whole none cards unasked =
      let step = opened begun one first in
      let more = played_in step.world one others in
      let again : World = record step.world { turns = begun.budget } in
      let saved = world_with parts begun.budget in
      let back = leads_back begun one first parts ends whole cards in
      let split = or_parts (is_asked among step.asked) (is_asked among more.asked)
      (sym (list_any-append (λ (a : Asked). among a.0) step.asked more.asked)
      ∙ ap (λ (s : Step). is_asked among s.asked) (sym (ends.on none others)) ∙ unasked) in
      let beside : is_on among again ≡ false =
      ends_beside push_at fragment_call among one (Open begun.url ∷ first)
      (record { world = world_of begun; pushes = [] }) refl split.0 in
      let over_one : world_over (site_of one).shelf saved ≡ again =
      ap (λ (s : Shelf). world_over s saved) (site_shelf one)
      ∙ ap (world_over (shelf_of one)) back.0 ∙ back.1 in
      let over_other : world_over (site_of other).shelf saved ≡ again =
      ap (λ (s : Shelf). world_over s saved) (site_shelf other)
      ∙ ap (world_over (shelf_of other)) back.0 ∙ over_both again beside ∙ back.1 in
      let same : played_in again one others ≡ played_in again other others =
      ap (λ (s : Stepped). s.step)
      (matter_not push_at fragment_call among one other agree others
      (record { world = again; pushes = [] }) beside
      (ap (is_asked among) (same_asked one others step.world begun.budget) ∙ split.1)) in
      goes_on begun one first others parts ends whole none cards
      ∙ ap (λ (lines : List (List ℕ)). bytes_of step ++ lines_bytes (map shown_text lines))
      (ap (λ (w : World). (played_in w one others).lines) over_one
      ∙ ap (λ (s : Step). s.lines) same
      ∙ sym (ap (λ (w : World). (played_in w other others).lines) over_other))
