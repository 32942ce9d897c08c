-- What is seen of a store of pages, and what its calls do. This project's own.
use Rattle.std.specs.Prelude.{◌≡◌, ℕ, ◌≤◌, List, [], ◌∷◌, ◌++◌, All, ◌<◌, ◌+◌}
use Rattle.std.specs.Prelude.{Result, IfOk, OnOk, OnErr, IsErrOf}
use Rattle.std.specs.List.Sorted.{IsPermutation}
use Rattle.wap_base.specs.Texts.{AreAscending, AreDistinct}
use Rattle.wap_base.specs.Contents.{Contents, names_of}
use Rattle.wap_devices.specs.Contents.{answer_for}
use Rattle.wap_devices.specs.Pages.{IsSmall}
use Rattle.wap_devices.specs.declared.store.Fetched.{Fetched}
use Rattle.wap_devices.specs.declared.store.StoreErr.{StoreErr}
use Rattle.wap_devices.specs.declared.store.StoreErr.TheVariants.{Failed}

-- names that a store was asked for, each with its answer
abbrev pub Answers : Type 0
Answers = List (List ℕ × Fetched)

-- lists of all names that it answered
abbrev pub Listings : Type 0
Listings = List (List (List ℕ))

-- what is known of a store's pages: all of them, where it holds them, or what it told so far
pub data Known : Type 0 where
  Held : Contents → Known
  Told : Answers → Listings → Known

-- after it told so much more
abbrev pub told : Known → Answers → Listings → Known
told (Held held) answers lists = Held held
told (Told earlier before) answers lists = Told (earlier ++ answers) (before ++ lists)

-- it holds these pages, or each answer so far is that of these
abbrev pub Fits : Known → Contents → Type 0
Fits (Held held) pages = held ≡ pages
Fits (Told answers lists) pages = All (λ one. one.1 ≡ answer_for one.0 pages) answers
    × All (IsPermutation (names_of pages)) lists

-- these may be its pages, of which no name stands twice
pub record Agrees (known : Known) (pages : Contents) : Type 0 where
  pub distinct : AreDistinct (names_of pages)
  pub fits : Fits known pages

-- a store at a moment
pub record StoreSeen : Type 0 where
  pub known : Known
  -- how often it failed, was asked for a page, and was asked for its names
  pub faults : ℕ
  pub fetches : ℕ
  pub listings : ℕ

-- between two moments a store told so much more
pub record Grew (before after : Known) : Type 0 where
  pub answers : Answers
  pub lists : Listings
  pub is : after ≡ told before answers lists

-- what any call leaves as it was, and how it counts faults
pub record IsAsked {A : Type 0} (before after : StoreSeen) (result : Result A StoreErr) : Type 0
  where
    -- a call that failed tells nothing
    pub untold : OnErr result (after.known ≡ before.known)
    -- it fails only where the count of faults rose, which stays where it answers
    pub counts : before.faults ≤ after.faults
    pub failed : IsErrOf result Failed → before.faults < after.faults
    pub steady : OnOk result (after.faults ≡ before.faults)

-- a store is asked for the page of a name
pub record Fetches (name : List ℕ) (before after : StoreSeen) (result : Result Fetched StoreErr)
    : Type 0 where
  -- it told this answer, which is that of any pages that may be its own
  pub told : IfOk result (λ answer. after.known ≡ told before.known ((name, answer) ∷ []) [])
  pub found : IfOk result (λ answer.
      (pages : Contents) → Agrees after.known pages → answer ≡ answer_for name pages)
  pub small : IfOk result IsSmall
  pub fetches : after.fetches ≡ before.fetches + 1
  pub listings : after.listings ≡ before.listings
  pub asked : IsAsked before after result

-- a store is asked for the names of all pages, which its answer holds
pub record Lists {A : Type 0} (names_in : A → List (List ℕ)) (before after : StoreSeen)
    (result : Result A StoreErr) : Type 0 where
  -- it told these names, which are those of any pages that may be its own
  pub told : IfOk result (λ answer. after.known ≡ told before.known [] (names_in answer ∷ []))
  pub names : IfOk result (λ answer. (pages : Contents) → Agrees after.known pages
      → IsPermutation (names_of pages) (names_in answer))
  -- in the order of their UTF-8 bytes
  pub ascending : IfOk result (λ answer. AreAscending (names_in answer))
  pub listings : after.listings ≡ before.listings + 1
  pub fetches : after.fetches ≡ before.fetches
  pub asked : IsAsked before after result
