-- Pages that all answers of a store are those of, where it answered each name one way.
use Rattle.std.proofs.Common.{inl, inr, ◌≡◌, ◌↔◌, ℕ, false, List, [], ◌∷◌}
use Rattle.std.proofs.Common.{Option, Some, None, refl, sym, ap, subst, ◌∙◌}
use Rattle.std.specs.List.{AllByRecursion, Contains, IsDistinct}
use Rattle.std.proofs.lemmas.Bool.{cases_Bool}
use Rattle.std.proofs.lemmas.List.Elements.{recursion_from_All, All-from_recursion, All-nil}
use Rattle.std.proofs.lemmas.List.Elements.{All-contains_itself}
use Rattle.std.proofs.lemmas.Map.{NonePasses, none_passes_from_lookup}
use Rattle.std.proofs.lemmas.Map.Keys.{IsDistinct-cons}
use Rattle.std.specs.List.Sorted.{IsPermutation}
use Rattle.std.specs.Cmp.Lexicographic.{nat_list_eq_equiv}
use Rattle.wap_base.specs.Contents.{Contents, names_of, page_named}
use Rattle.wap_base.specs.Texts.{is_same_text, AreDistinct}
use Rattle.wap_base.proofs.Choices.{chosen, some_same}
use Rattle.wap_devices.specs.Contents.{answer_of, answer_for}
use Rattle.wap_devices.specs.Stores.{Answers, Held, Told, Agrees}
use Rattle.wap_devices.specs.declared.store.Fetched.{Fetched}
use Rattle.wap_devices.specs.declared.store.Fetched.TheVariants.{Found, Missing}
use Rattle.wap_pages.specs.Histories.{AnswersOneWay}
use Rattle.wap_pages.proofs.Keeping.{same_text}

-- pages with one more, unless they have one of its name
abbrev with_page : List ℕ × List ℕ → Option (List ℕ) → Contents → Contents
with_page page (Some there) pages = pages
with_page page None pages = page ∷ pages

-- with the page that was found, if one was
abbrev with_answer : List ℕ → Fetched → Contents → Contents
with_answer name (Found bytes) pages = with_page (name, bytes) (page_named name pages) pages
with_answer name Missing pages = pages

-- the pages that were found, one of a name
abbrev found : Answers → Contents
found [] = []
found (one ∷ answers) = with_answer one.0 one.1 (found answers)

-- ---- no name stands twice

apart : (name : List ℕ) (pages : Contents) → NonePasses (λ other. is_same_text other name) pages
    → AllByRecursion (λ other. is_same_text name other ≡ false) (names_of pages)
apart name [] none = tt
apart name (page ∷ pages) none =
    (nat_list_eq_equiv.symm name page.0 ∙ none.0, apart name pages none.1)

distinct_page : (page : List ℕ × List ℕ) (pages : Contents) (there : Option (List ℕ))
    → page_named page.0 pages ≡ there → AreDistinct (names_of pages)
    → AreDistinct (names_of (with_page page there pages))
distinct_page page pages (Some bytes) is distinct = distinct
distinct_page page pages None is distinct =
    IsDistinct-cons is_same_text page.0 (names_of pages)
    (apart page.0 pages (none_passes_from_lookup (λ other. is_same_text other page.0) pages is))
    distinct

distinct_answer : (name : List ℕ) (answer : Fetched) (pages : Contents)
    → AreDistinct (names_of pages) → AreDistinct (names_of (with_answer name answer pages))
distinct_answer name (Found bytes) pages distinct =
    distinct_page (name, bytes) pages (page_named name pages) refl distinct
distinct_answer name Missing pages distinct = distinct

found_distinct : (answers : Answers) → AreDistinct (names_of (found answers))
unfolding IsDistinct
found_distinct [] = tt
found_distinct (one ∷ answers) =
    distinct_answer one.0 one.1 (found answers) (found_distinct answers)

-- ---- all answers are those of the pages

-- an answer is that of pages
abbrev IsOf : Contents → List ℕ × Fetched → Type 0
IsOf pages one = one.1 ≡ answer_for one.0 pages

-- the first page is that of its name
first_page : (page : List ℕ × List ℕ) (pages : Contents)
    → page_named page.0 (page ∷ pages) ≡ Some page.1
first_page page pages = rw (nat_list_eq_equiv.refl page.0) refl

-- of answers, some fact holds of which each name has one answer
module _ (P : List ℕ × Fetched → Type 0)
    (one_way : (one other : List ℕ × Fetched) → P one → P other → one.0 ≡ other.0
    → one.1 ≡ other.1) where
  -- pages of which each was found
  abbrev WereFound : Contents → Type 0
  WereFound pages = (name bytes : List ℕ) → page_named name pages ≡ Some bytes
      → P (name, Found bytes)

  found_page : (page : List ℕ × List ℕ) (pages : Contents) (there : Option (List ℕ))
      → P (page.0, Found page.1) → WereFound pages → WereFound (with_page page there pages)
  found_page page pages (Some bytes) one were = were
  found_page page pages None one were = λ name bytes is.
      elim (chosen (is_same_text page.0 name) (Some page.1) (page_named name pages)
      (Some bytes) is) [
        | inl here ↦
            subst (λ (b : List ℕ). P (name, Found b)) (some_same page.1 bytes here.1)
            (subst (λ (n : List ℕ). P (n, Found page.1)) (same_text page.0 name here.0) one)
        | inr later ↦ were name bytes later.1
      ]

  found_answer : (name : List ℕ) (answer : Fetched) (pages : Contents) → P (name, answer)
      → WereFound pages → WereFound (with_answer name answer pages)
  found_answer name (Found bytes) pages one were =
      found_page (name, bytes) pages (page_named name pages) one were
  found_answer name Missing pages one were = were

  all_found : (answers : Answers) → AllByRecursion P answers → WereFound (found answers)
  all_found [] all = λ name bytes is. absurd cc
  all_found (one ∷ answers) all =
      found_answer one.0 one.1 (found answers) all.0 (all_found answers all.1)

  -- what was answered for a name of which there is a page is that page
  there_is : (one : List ℕ × Fetched) (pages : Contents) (bytes : List ℕ) → P one
      → WereFound pages → page_named one.0 pages ≡ Some bytes → IsOf pages one
  there_is one pages bytes holds were is =
      one_way one (one.0, Found bytes) holds (were one.0 bytes is) refl ∙ sym (ap answer_of is)

  -- answers of pages are those of pages with one more that was found
  later : (page : List ℕ × List ℕ) (pages : Contents) → P (page.0, Found page.1)
      → (answers : Answers) → AllByRecursion P answers → AllByRecursion (IsOf pages) answers
      → AllByRecursion (IsOf (page ∷ pages)) answers
  later page pages first [] all are = tt
  later page pages first (one ∷ answers) all are =
      (here, later page pages first answers all.1 are.1)
    where
      here : IsOf (page ∷ pages) one
      here = elim (cases_Bool (is_same_text page.0 one.0)) [
        | inl same ↦ rw same
            (one_way one (page.0, Found page.1) all.0 first (sym (same_text page.0 one.0 same)))
        | inr other ↦ rw other are.0
      ]

  both_page : (page : List ℕ × List ℕ) (pages : Contents) (there : Option (List ℕ))
      → page_named page.0 pages ≡ there → P (page.0, Found page.1) → WereFound pages
      → (answers : Answers) → AllByRecursion P answers → AllByRecursion (IsOf pages) answers
      → AllByRecursion (IsOf (with_page page there pages)) ((page.0, Found page.1) ∷ answers)
  both_page page pages (Some bytes) is first were answers all are =
      (there_is (page.0, Found page.1) pages bytes first were is, are)
  both_page page pages None is first were answers all are = (
    sym (ap answer_of (first_page page pages)),
    later page pages first answers all are,
  )

  missing_is : (name : List ℕ) (pages : Contents) (there : Option (List ℕ))
      → page_named name pages ≡ there → P (name, Missing) → WereFound pages
      → IsOf pages (name, Missing)
  missing_is name pages (Some bytes) is one were =
      there_is (name, Missing) pages bytes one were is
  missing_is name pages None is one were = sym (ap answer_of is)

  both_answer : (name : List ℕ) (answer : Fetched) (pages : Contents) → P (name, answer)
      → WereFound pages
      → (answers : Answers) → AllByRecursion P answers → AllByRecursion (IsOf pages) answers
      → AllByRecursion (IsOf (with_answer name answer pages)) ((name, answer) ∷ answers)
  both_answer name (Found bytes) pages one were answers all are =
      both_page (name, bytes) pages (page_named name pages) refl one were answers all are
  both_answer name Missing pages one were answers all are =
      (missing_is name pages (page_named name pages) refl one were, are)

  all_are : (answers : Answers) → AllByRecursion P answers
      → AllByRecursion (IsOf (found answers)) answers
  all_are [] all = tt
  all_are (one ∷ answers) all =
      both_answer one.0 one.1 (found answers) all.0 (all_found answers all.1) answers all.1
      (all_are answers all.1)

-- ---- the laws

pub pages_of_answers : (answers : Answers) → AnswersOneWay answers
    → (contents : Contents) × Agrees (Told answers []) contents
pages_of_answers answers one_way = (
  found answers,
  record {
    distinct = found_distinct answers;
    fits = (
      All-from_recursion (IsOf (found answers)) answers
          (all_are (Contains answers) one_way answers
          (recursion_from_All (Contains answers) answers (All-contains_itself answers))),
      All-nil (IsPermutation (names_of (found answers))),
    );
  },
)

pub held_pages : (held pages : Contents)
    → Agrees (Held held) pages ↔ ((pages ≡ held) × AreDistinct (names_of pages))
held_pages held pages = (
  λ agrees. (sym agrees.fits, agrees.distinct),
  λ both. record { distinct = both.1; fits = sym both.0 },
)
