-- Pages that are accepted, counted one after the other.
use Rattle.std.proofs.Common.{◌≡◌, ℕ, ◌+◌, ◌<◌, List, [], ◌∷◌, ◌++◌, Bool}
use Rattle.std.proofs.Common.{Option, Some, None, length, take, get_or, refl, sym, ap, ap₂, ◌∙◌}
use mathlib.Core.Path.{fun_ext}
use Rattle.std.specs.Prelude.{filter, unwrap_or}
use Rattle.std.specs.Option.{option_map}
use Rattle.std.proofs.lemmas.List.{take_more, length-append}
use Rattle.std.proofs.lemmas.List.Elements.{filter-append}
use Rattle.wap_unit.specs.declared.unit.Unit.{Unit}
use Rattle.wap_world.specs.site.Asking.{Seen, MayBe, Stays}
use Rattle.wap_world.specs.site.Pages.{Pages, page_of, page_under as judged_under}
use Rattle.wap_world.specs.declared.site.page.Page.{Page}
use Rattle.wap_world.specs.declared.site.page.Page.TheVariants as judge
use Rattle.wap_world.proofs.SiteLemmas.Asking.{Stays-may}
use Rattle.wap_world.specs.scripting.ScriptPages.{PageOf, shelved}
use Rattle.wap_world.specs.scripting.UnitSites.{units, unit_page, unit_pages, units_site}
use Rattle.wap_context.specs.Sites.{site_of}
use Rattle.wap_context.proofs.HostLemmas.Shelves.{under_is}
use Rattle.wap_cli.specs.made.Making.{is_accepted_there, accepted_over}
use Rattle.wap_cli.specs.made.inside.Counting.{is_accepted, accepted_in}

-- one name more
pub more_counted : (before after : Seen) (names : List (List ℕ)) (i : ℕ) (name : List ℕ)
    (count one : ℕ) → Stays before after → i < length names → name ≡ get_or names i name
    → ((pages : Pages) → MayBe before pages → count ≡ length (accepted_in pages (take i names)))
    → ((pages : Pages) → MayBe after pages → one ≡ length (accepted_in pages (name ∷ [])))
    → (pages : Pages) → MayBe after pages
    → count + one ≡ length (accepted_in pages (take (i + 1) names))
more_counted before after names i name count one stays within is so next pages may =
    let test = λ (name : List ℕ). is_accepted (page_of name pages) in
    let front = take i names in
    ap₂ (λ (a b : ℕ). a + b) (so pages (Stays-may before after stays pages may)) (next pages may)
    ∙ sym (length-append (accepted_in pages front) (accepted_in pages (name ∷ [])))
    ∙ ap length (sym (filter-append test front (name ∷ [])))
    ∙ ap (λ (l : List (List ℕ)). length (accepted_in pages l))
    (sym (take_more names i name within ∙ ap (λ (n : List ℕ). front ++ n ∷ []) (sym is)))

-- ---- as they stand on the shelf of their site

standing : (found : Option Page)
    → is_accepted_there (shelved units (option_map unit_page found))
    ≡ is_accepted (unwrap_or found judge.Missing)
standing None = refl
standing (Some (judge.Deck deck)) = refl
standing (Some (judge.Script unit)) = refl
standing (Some (judge.Words text)) = refl
standing (Some judge.Refused) = refl
standing (Some judge.Missing) = refl

pub same_accepted : (pages : Pages) (names : List (List ℕ))
    → accepted_in pages names ≡ accepted_over (site_of (unit_pages pages)) names
unfolding units_site
same_accepted pages names =
    ap (λ (test : List ℕ → Bool). filter test names) (fun_ext (λ name.
    sym (ap (λ (found : Option (PageOf Unit)). is_accepted_there (shelved units found))
    (under_is name pages) ∙ standing (judged_under name pages))))
