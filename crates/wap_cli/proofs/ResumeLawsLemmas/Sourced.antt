-- Keys that go on from an image over the sources of stores.
use Rattle.std.proofs.Common.{◌≡◌, ℕ, false, List, ◌++◌, sym, subst}
use Rattle.wap_base.specs.Contents.{Contents, names_of}
use Rattle.wap_base.specs.Texts.{is_same_text, AreDistinct}
use Rattle.wap_base.specs.declared.key.Key.{Key}
use Rattle.wap_image.specs.declared.context_parts.parts.ContextParts.{ContextParts}
use Rattle.wap_pages.specs.Judged.{judged}
use Rattle.wap_world.specs.Sites.{Site}
use Rattle.wap_world.specs.Sessions.{Begun}
use Rattle.wap_world.specs.scripting.Sources.{AllPages, site_of}
use Rattle.wap_world.specs.scripting.UnitSites.{unit_pages, units_site}
use Rattle.wap_site_laws.specs.unasked.Unasked.{is_asked}
use Rattle.wap_site_laws.specs.programs.Programs.{Accepted, programs}
use Rattle.wap_site_laws.specs.pages.SourcePages.{ArePages}
use Rattle.wap_site_laws.proofs.PagesLemmas.Judging.{site_judged}
use Rattle.wap_context.specs.Sites.{fragment_call}
use Rattle.wap_cli.specs.browse.Handling.{bytes_of}
use Rattle.wap_cli.specs.browse.Plays.{HaveNoPush}
use Rattle.wap_cli.specs.Networks.{over}
use Rattle.wap_cli.specs.resume.Saving.{opened_at, EndsAt, IsWhole}
use Rattle.wap_cli.specs.resume.Resuming.{resumed_at}
use Rattle.wap_cli.proofs.ResumeLemmas.Lasting.{goes_on}
use Rattle.wap_cli.specs.resume_laws.Stores.{AgreeBut}
use Rattle.wap_cli.proofs.ResumeLawsLemmas.Cards.{judged_have_cards}
use Rattle.wap_cli.proofs.ResumeLawsLemmas.Stores.{agree_beside, goes_on_over}

-- the site of pages with sources
abbrev pub sourced : AllPages Accepted → Site
sourced pages = site_of programs fragment_call pages

-- the site of the judged pages
abbrev pub unit_site : Contents → Site
unit_site contents = units_site fragment_call (unit_pages (judged contents))

module _ (begun : Begun) (first others : List Key) (parts : ContextParts)
    (none : HaveNoPush first) (contents : Contents) (distinct : AreDistinct (names_of contents))
  where
    -- keys go on over a site from where others end over one
    abbrev GoOn : Site → Site → Type 0
    GoOn site later = bytes_of (opened_at begun (over site) (first ++ others))
        ≡ bytes_of (opened_at begun (over site) first)
        ++ bytes_of (resumed_at parts begun.budget (over later) others)

    pub sourced_go_on : (pages : AllPages Accepted) → ArePages contents pages
        → EndsAt begun (over (sourced pages)) first parts
        → IsWhole parts (opened_at begun (over (sourced pages)) first).world
        → GoOn (sourced pages) (sourced pages)
    sourced_go_on pages are =
        subst (λ (site : Site). EndsAt begun (over site) first parts
        → IsWhole parts (opened_at begun (over site) first).world → GoOn site site)
        (sym (site_judged fragment_call contents pages are))
        (λ ends whole. goes_on begun (unit_pages (judged contents)) first others parts ends whole
        none (judged_have_cards contents distinct))

    -- and over another store
    pub sourced_go_on_over : (later : Contents) (name : List ℕ) → AgreeBut name contents later
        → (pages : AllPages Accepted) → ArePages contents pages
        → (other_pages : AllPages Accepted) → ArePages later other_pages
        → EndsAt begun (over (sourced pages)) first parts
        → IsWhole parts (opened_at begun (over (sourced pages)) first).world
        → is_asked (is_same_text name)
        (opened_at begun (over (sourced pages)) (first ++ others)).asked
        ≡ false
        → GoOn (sourced pages) (sourced other_pages)
    sourced_go_on_over later name agree pages are other_pages are_other ends whole unasked =
        subst (GoOn (sourced pages)) (sym (site_judged fragment_call later other_pages are_other))
        (subst (λ (site : Site). EndsAt begun (over site) first parts
        → IsWhole parts (opened_at begun (over site) first).world
        → is_asked (is_same_text name) (opened_at begun (over site) (first ++ others)).asked ≡ false
        → GoOn site (unit_site later))
        (sym (site_judged fragment_call contents pages are))
        (λ ends whole unasked. goes_on_over (is_same_text name) (unit_pages (judged contents))
        (unit_pages (judged later)) (agree_beside name contents later agree) begun first others
        parts ends whole none (judged_have_cards contents distinct) unasked) ends whole unasked)
