-- What a store that told so much may hold.
use Rattle.std.proofs.Common.{◌≡◌, ℕ, List, [], ◌∷◌, ◌++◌, map, length, All, refl, sym, ap, ◌∙◌}
use Rattle.std.proofs.Common.{subst, append_assoc}
use Rattle.std.specs.List.Sorted.{IsPermutation}
use Rattle.std.proofs.lemmas.List.{append-nil, take_at, drop_at}
use Rattle.std.proofs.lemmas.List.Elements.{All-take, All-drop, All-head}
use Rattle.wap_base.specs.Contents.{Contents, names_of}
use Rattle.wap_devices.specs.Contents.{answer_for}
use Rattle.wap_devices.specs.declared.store.Fetched.{Fetched}
use Rattle.wap_devices.specs.Stores.{Known, Answers, Listings, Held, Told, told, Fits, Agrees, Grew}

-- ---- lists

-- what holds of all of two lists holds of all of the first
All-before : {X : Type 0} (P : X → Type 0) (xs ys : List X) → All P (xs ++ ys) → All P xs
All-before P xs ys all =
    subst (All P) (take_at xs ys (length xs) refl) (All-take P (length xs) (xs ++ ys) all)

-- and of the last of a list
All-last : {X : Type 0} (P : X → Type 0) (xs : List X) (x : X) → All P (xs ++ x ∷ []) → P x
All-last P xs x all =
    All-head P x [] (subst (All P) (drop_at xs (x ∷ []) (length xs) refl)
    (All-drop P (length xs) (xs ++ x ∷ []) all))

-- a list with one more, each mapped
pub map-push : {X Y : Type 0} (f : X → Y) (xs : List X) (x : X)
    → map f (xs ++ x ∷ []) ≡ map f xs ++ f x ∷ []
map-push f [] x = refl
map-push f (y ∷ xs) x = ap (λ (l : List _). f y ∷ l) (map-push f xs x)

-- ---- one answer more

-- a page more
pub told_page : (answers : Answers) (lists : Listings) (one : List ℕ × Fetched)
    → Told (answers ++ one ∷ []) lists ≡ told (Told answers lists) (one ∷ []) []
told_page answers lists one =
    ap (λ (l : Listings). Told (answers ++ one ∷ []) l) (sym (append-nil lists))

-- a list of names more
pub told_names : (answers : Answers) (lists : Listings) (names : List (List ℕ))
    → Told answers (lists ++ names ∷ []) ≡ told (Told answers lists) [] (names ∷ [])
told_names answers lists names =
    ap (λ (l : Answers). Told l (lists ++ names ∷ [])) (sym (append-nil answers))

-- the last page is that of pages which all answers fit
pub page_right : (answers : Answers) (lists : Listings) (name : List ℕ) (answer : Fetched)
    (pages : Contents) → Agrees (Told (answers ++ (name, answer) ∷ []) lists) pages
    → answer ≡ answer_for name pages
page_right answers lists name answer pages agrees =
    All-last (λ one. one.1 ≡ answer_for one.0 pages) answers (name, answer) agrees.fits.0

-- and so are the last names
pub names_right : (answers : Answers) (lists : Listings) (names : List (List ℕ)) (pages : Contents)
    → Agrees (Told answers (lists ++ names ∷ [])) pages → IsPermutation (names_of pages) names
names_right answers lists names pages agrees =
    All-last (IsPermutation (names_of pages)) lists names agrees.fits.1

-- ---- all that was told

-- what fits all that was told fits what was told earlier
fits_earlier : (known : Known) (answers : Answers) (lists : Listings) (pages : Contents)
    → Fits (told known answers lists) pages → Fits known pages
fits_earlier (Held held) answers lists pages fits = fits
fits_earlier (Told earlier before) answers lists pages fits = (
  All-before (λ one. one.1 ≡ answer_for one.0 pages) earlier answers fits.0,
  All-before (IsPermutation (names_of pages)) before lists fits.1,
)

-- nothing more was told
told_nothing : (known : Known) → told known [] [] ≡ known
told_nothing (Held held) = refl
told_nothing (Told answers lists) =
    ap (λ (l : Answers). Told l (lists ++ [])) (append-nil answers)
    ∙ ap (λ (l : Listings). Told answers l) (append-nil lists)

-- one thing after another
told_both : (known : Known) (a b : Answers) (x y : Listings)
    → told (told known a x) b y ≡ told known (a ++ b) (x ++ y)
told_both (Held held) a b x y = refl
told_both (Told answers lists) a b x y =
    ap (λ (l : Answers). Told l ((lists ++ x) ++ y)) (append_assoc answers a b)
    ∙ ap (λ (l : Listings). Told (answers ++ (a ++ b)) l) (append_assoc lists x y)

-- what is known stayed
pub grew_nothing : (a b : Known) → b ≡ a → Grew a b
grew_nothing a b same = record { answers = []; lists = []; is = same ∙ sym (told_nothing a) }

-- it grew, and grew again
pub grew_then : (a b c : Known) → Grew a b → Grew b c → Grew a c
grew_then a b c first second = record {
  answers = first.answers ++ second.answers;
  lists = first.lists ++ second.lists;
  is = second.is ∙ ap (λ (k : Known). told k second.answers second.lists) first.is
      ∙ told_both a first.answers second.answers first.lists second.lists;
}

-- pages that may be a store's later may be its own before
pub agrees_before : (a b : Known) → Grew a b → (pages : Contents) → Agrees b pages → Agrees a pages
agrees_before a b grew pages agrees = record {
  distinct = agrees.distinct;
  fits = fits_earlier a grew.answers grew.lists pages
      (subst (λ (k : Known). Fits k pages) grew.is agrees.fits);
}

-- a store that holds its pages holds them still
pub held_still : (held : Contents) (b : Known) → Grew (Held held) b → b ≡ Held held
held_still held b grew = grew.is
