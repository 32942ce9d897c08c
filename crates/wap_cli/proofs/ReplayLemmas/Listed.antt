-- Pages that a store answered for names, and that are judged.
use Rattle.std.proofs.Common.{◌≡◌, ℕ, Bool, true, false, cond, List, [], ◌∷◌, map}
use Rattle.std.proofs.Common.{refl, sym, ap, ap₂, subst, ◌∙◌}
use Rattle.std.specs.Prelude.{All}
use Rattle.std.specs.List.{AllZip, AllByRecursion}
use Rattle.std.specs.Map.{keys_of}
use Rattle.std.proofs.lemmas.List.Elements.{recursion_from_All, All-from_recursion}
use Rattle.std.specs.List.Sorted.{IsStrictlySortedBy}
use Rattle.wap_base.specs.Contents.{Contents}
use Rattle.wap_base.specs.Texts.{byte_cmp, AreAscending}
use Rattle.wap_devices.specs.Stores.{Known, Agrees}
use Rattle.wap_world.specs.site.Pages.{Pages, IsThere}
use Rattle.wap_world.specs.declared.site.page.Page.{Page}
use Rattle.wap_world.specs.declared.site.page.Page.TheVariants as page
use Rattle.wap_pages.specs.Judged.{page_where}
use Rattle.wap_cli.specs.prepare.Fetching.{Job, IsAnswered}
use Rattle.wap_cli.specs.prepared.Prepared.{ArePrepared}
use Rattle.wap_cli.proofs.PrepareLemmas.Entries.{same_names}
use Rattle.wap_cli.specs.replay.inside.Jobs.{IsJudged, is_there, present, judged_name, pages_named}

module _ (known : Known) (contents : Contents) (agrees : Agrees known contents) where
  -- and are those of whatever contents the store may have
  judged_by : (jobs : List Job) (pages : Pages) → AllByRecursion (IsAnswered known) jobs
      → AllZip IsJudged jobs pages → pages ≡ map (judged_name contents) (keys_of jobs)
  judged_by [] [] answered right = refl
  judged_by [] (one ∷ pages) answered right = absurd right
  judged_by (job ∷ jobs) [] answered right = absurd right
  judged_by (job ∷ jobs) (one ∷ pages) answered right =
      ap₂ (λ (first : List ℕ × Page) (l : Pages). first ∷ l)
      (ap₂ (λ (n : List ℕ) (p : Page). pair n p) right.0.name
      (right.0.page ∙ ap (page_where job.0) (answered.0 contents agrees)))
      (judged_by jobs pages answered.1 right.1)
    where
      pair : List ℕ → Page → List ℕ × Page
      pair n p = (n, p)

pub named_pages : (known : Known) (jobs : List Job) (pages found : Pages) (names : List (List ℕ))
    → All (IsAnswered known) jobs → AllZip IsJudged jobs pages → keys_of jobs ≡ names
    → found ≡ present pages
    → (contents : Contents) → Agrees known contents → found ≡ pages_named contents names
named_pages known jobs pages found names answered right same is contents agrees =
    is ∙ ap present (judged_by known contents agrees jobs pages
    (recursion_from_All (IsAnswered known) jobs answered) right
    ∙ ap (map (judged_name contents)) same)

-- ---- those that are there

kept_before : (P : List ℕ → Type 0) (pages : Pages) → AllByRecursion P (keys_of pages)
    → AllByRecursion P (keys_of (present pages))
kept_before P [] all = tt
kept_before P (one ∷ pages) all =
    let rest = kept_before P pages all.1 in
    elim (is_there one.1) as (λ (b : Bool).
    AllByRecursion P (keys_of (cond b (one ∷ present pages) (present pages)))) [
      | true ↦ (all.0, rest)
      | false ↦ rest
    ]

-- they stand in the same order
kept_ascending : (pages : Pages) → IsStrictlySortedBy byte_cmp (keys_of pages)
    → IsStrictlySortedBy byte_cmp (keys_of (present pages))
unfolding IsStrictlySortedBy
kept_ascending [] up = tt
kept_ascending (one ∷ pages) up =
    let rest = kept_ascending pages up.1 in
    elim (is_there one.1) as (λ (b : Bool).
    IsStrictlySortedBy byte_cmp (keys_of (cond b (one ∷ present pages) (present pages)))) [
      | true ↦ (kept_before _ pages up.0, rest)
      | false ↦ rest
    ]

not_missing : (one : Page) → is_there one ≡ true → IsThere one
not_missing (page.Deck deck) is e = cc
not_missing (page.Script unit) is e = cc
not_missing (page.Words text) is e = cc
not_missing page.Refused is e = cc
not_missing page.Missing is e = cc

kept_there : (pages : Pages)
    → AllByRecursion (λ (one : List ℕ × Page). IsThere one.1) (present pages)
kept_there [] = tt
kept_there (one ∷ pages) = by (is_there one.1) refl (kept_there pages)
  where
    by : (b : Bool) → is_there one.1 ≡ b
        → AllByRecursion (λ (one : List ℕ × Page). IsThere one.1) (present pages)
        → AllByRecursion (λ (one : List ℕ × Page). IsThere one.1)
        (cond b (one ∷ present pages) (present pages))
    by true is rest = (not_missing one.1 is, rest)
    by false is rest = rest

-- so they are ready
pub are_prepared : (jobs : List Job) (pages found : Pages) (names : List (List ℕ))
    → AllZip IsJudged jobs pages → keys_of jobs ≡ names → AreAscending names
    → found ≡ present pages → ArePrepared found
are_prepared jobs pages found names right same ascending is =
    subst ArePrepared (sym is) (record {
      ascending =
          kept_ascending pages
          (subst AreAscending
          (sym (same_names IsJudged (λ job one right. right.name) jobs pages right ∙ same))
          ascending);
      there =
          All-from_recursion (λ (one : List ℕ × Page). IsThere one.1) (present pages)
          (kept_there pages);
    })
