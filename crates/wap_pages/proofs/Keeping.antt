-- Pages that are kept, by the names under which they are.
use Rattle.std.proofs.Common.{inl, inr, ◌≡◌, ℕ, zero, suc, ◌-◌, ◌<◌, ◌≤◌, Bool, true}
use Rattle.std.proofs.Common.{false, not, List, [], ◌∷◌, length, take, Option, Some}
use Rattle.std.proofs.Common.{None, refl, sym, ap, subst, ◌∙◌, arith}
use Rattle.std.specs.Prelude.{◌||◌, filter}
use Rattle.std.specs.List.{list_any, AllByRecursion, IsDistinct}
use Rattle.std.specs.Map.{keys_of, lookup, lookup_entry, remove_entry}
use Rattle.std.specs.Cmp.Lexicographic.{bytes_decides, nat_list_eq_equiv}
use Rattle.std.proofs.lemmas.Bool.{cases_Bool, or_parts}
use Rattle.std.proofs.lemmas.Map.Entries.{length-keys_of}
use Rattle.lru.specs.LruCache.{lru_cache, promoted, put_entries}
use Rattle.wap_base.specs.Texts.{is_same_text, AreDistinct}
use Rattle.wap_devices.specs.Stores.{Known, Grew}
use Rattle.wap_devices.proofs.Telling.{agrees_before}
use Rattle.wap_world.specs.site.Misses.{Cache, is_kept, after_asking}
use Rattle.wap_world.specs.declared.site.page.Page.{Page}
use Rattle.wap_pages.specs.Caches.{KeepsNoMore}
use Rattle.wap_pages.specs.inside.Keeping.{Kept, names_in, IsRight, IsRightEntry, IsSound}

abbrev Entries : Type 0
Entries = List (List ℕ × Page)

-- names other than this one
abbrev others : List ℕ → List (List ℕ) → List (List ℕ)
others name names = filter (λ other. not (is_same_text other name)) names

-- texts that are found the same are one
pub same_text : (a b : List ℕ) → is_same_text a b ≡ true → a ≡ b
same_text a b = (bytes_decides a b).0

-- ---- names that are kept later

any-filter : (name : List ℕ) (p : List ℕ → Bool) (names : List (List ℕ))
    → list_any (is_same_text name) (filter p names) ≡ true
    → list_any (is_same_text name) names ≡ true
any-filter name p [] some = some
any-filter name p (first ∷ names) some = elim (cases_Bool (p first)) [
  | inl holds ↦
      either (is_same_text name first) (list_any (is_same_text name) (filter p names))
      (rw holds at some) (any-filter name p names)
  | inr fails ↦ late (is_same_text name first) (any-filter name p names (rw fails at some))
] where
  late : (b : Bool) → list_any (is_same_text name) names ≡ true
      → (b || list_any (is_same_text name) names) ≡ true
  late true is = refl
  late false is = is

  either : (b some : Bool) → (b || some) ≡ true
      → (some ≡ true → list_any (is_same_text name) names ≡ true)
      → (b || list_any (is_same_text name) names) ≡ true
  either true some is on = refl
  either false some is on = on is

any-take : (name : List ℕ) (n : ℕ) (names : List (List ℕ))
    → list_any (is_same_text name) (take n names) ≡ true → list_any (is_same_text name) names ≡ true
any-take name zero names some = absurd cc
any-take name (suc n) [] some = some
any-take name (suc n) (first ∷ names) some =
    either (is_same_text name first) (list_any (is_same_text name) (take n names)) some
    (any-take name n names)
  where
    either : (b some : Bool) → (b || some) ≡ true
        → (some ≡ true → list_any (is_same_text name) names ≡ true)
        → (b || list_any (is_same_text name) names) ≡ true
    either true some is on = refl
    either false some is on = on is

-- asking for a name that is kept keeps no other
pub no_more_asking : (name : List ℕ) (fresh : Bool) (cache : Cache) → is_kept name cache ≡ true
    → KeepsNoMore cache (after_asking (name, fresh) cache)
no_more_asking name fresh cache kept =
    λ other is. one other (is_same_text other name) refl
    (any-take other cache.capacity (name ∷ others name cache.names) is)
  where
    one : (other : List ℕ) (b : Bool) → is_same_text other name ≡ b
        → (is_same_text other name || list_any (is_same_text other) (others name cache.names))
        ≡ true
        → is_kept other cache ≡ true
    one other true same is = ap (λ (t : List ℕ). is_kept t cache) (same_text other name same) ∙ kept
    one other false differs is =
        any-filter other (λ t. not (is_same_text t name)) cache.names (rw differs at is)

-- ---- a name that is kept, or isn't

pub kept_none : (name : List ℕ) (es : Entries) → lookup (is_same_text name) es ≡ None
    → list_any (is_same_text name) (keys_of es) ≡ false
kept_none name [] is = refl
kept_none name (e ∷ es) is = elim (cases_Bool (is_same_text name e.0)) [
  | inl same ↦ absurd (some (rw same at is))
  | inr other ↦ rw other (kept_none name es (rw other at is))
] where
  some : Some e.1 ≡ None → ⊥
  some so = cc

pub kept_some : (name : List ℕ) (es : Entries) (page : Page)
    → lookup (is_same_text name) es ≡ Some page → list_any (is_same_text name) (keys_of es) ≡ true
kept_some name [] page is = absurd cc
kept_some name (e ∷ es) page is = elim (cases_Bool (is_same_text name e.0)) [
  | inl same ↦ rw same refl
  | inr other ↦ rw other (kept_some name es page (rw other at is))
]

-- the entry of a page that is found
pub entry_found : (name : List ℕ) (es : Entries) (page : Page)
    → lookup (is_same_text name) es ≡ Some page
    → lookup_entry (is_same_text name) es ≡ Some (name, page)
entry_found name [] page is = absurd cc
entry_found name (e ∷ es) page is = elim (cases_Bool (is_same_text name e.0)) [
  | inl same ↦ rw same (here (same_text name e.0 same) (rw same at is))
  | inr other ↦ rw other (entry_found name es page (rw other at is))
] where
  here : name ≡ e.0 → Some e.1 ≡ Some page → Some e ≡ Some (name, page)
  here key value =
      ap (λ (k : List ℕ). Some (k, e.1)) (sym key) ∙ ap (λ (p : Page). Some (name, p)) inner
    where
      inner : e.1 ≡ page
      inner = cc

pub no_entry : (name : List ℕ) (es : Entries) → lookup (is_same_text name) es ≡ None
    → lookup_entry (is_same_text name) es ≡ None
no_entry name [] is = refl
no_entry name (e ∷ es) is = elim (cases_Bool (is_same_text name e.0)) [
  | inl same ↦ absurd (some (rw same at is))
  | inr other ↦ rw other (no_entry name es (rw other at is))
] where
  some : Some e.1 ≡ None → ⊥
  some so = cc

-- ---- names without one

without_none : (name : List ℕ) (names : List (List ℕ)) → list_any (is_same_text name) names ≡ false
    → others name names ≡ names
without_none name [] none = refl
without_none name (first ∷ names) none =
    let parts = or_parts (is_same_text name first) (list_any (is_same_text name) names) none in
    let other : is_same_text first name ≡ false = nat_list_eq_equiv.symm first name ∙ parts.0 in
    rw other (ap (λ (l : List (List ℕ)). first ∷ l) (without_none name names parts.1))

-- none of names that differ from the first one is it
none_again : (name : List ℕ) (names : List (List ℕ))
    → AllByRecursion (λ other. is_same_text name other ≡ false) names
    → list_any (is_same_text name) names ≡ false
none_again name [] all = refl
none_again name (first ∷ names) all = rw all.0 (none_again name names all.1)

without_found : (name : List ℕ) (es : Entries) (page : Page) → AreDistinct (keys_of es)
    → lookup (is_same_text name) es ≡ Some page
    → keys_of (remove_entry (is_same_text name) es) ≡ others name (keys_of es)
unfolding IsDistinct
without_found name [] page distinct is = absurd cc
without_found name (e ∷ es) page distinct is = elim (cases_Bool (is_same_text name e.0)) [
  | inl same ↦
      let flip : is_same_text e.0 name ≡ true = nat_list_eq_equiv.symm e.0 name ∙ same in
      let apart =
      subst (λ (t : List ℕ). AllByRecursion (λ other. is_same_text t other ≡ false) (keys_of es))
      (sym (same_text name e.0 same)) distinct.0 in
      rw same (rw flip (sym (without_none name (keys_of es) (none_again name (keys_of es) apart))))
  | inr differs ↦
      let flip : is_same_text e.0 name ≡ false = nat_list_eq_equiv.symm e.0 name ∙ differs in
      rw differs (rw flip (ap (λ (l : List (List ℕ)). e.0 ∷ l)
      (without_found name es page distinct.1 (rw differs at is))))
]

length-removed : (name : List ℕ) (es : Entries) (page : Page)
    → lookup (is_same_text name) es ≡ Some page
    → suc (length (remove_entry (is_same_text name) es)) ≡ length es
length-removed name [] page is = absurd cc
length-removed name (e ∷ es) page is = elim (cases_Bool (is_same_text name e.0)) [
  | inl same ↦ rw same refl
  | inr differs ↦ rw differs (ap suc (length-removed name es page (rw differs at is)))
]

-- ---- what holds of each of some names or pages

module _ {X : Type 0} (P : X → Type 0) where
  all-filter : (p : X → Bool) (xs : List X) → AllByRecursion P xs → AllByRecursion P (filter p xs)
  all-filter p [] all = tt
  all-filter p (x ∷ xs) all = elim (cases_Bool (p x)) [
    | inl holds ↦ rw holds (all.0, all-filter p xs all.1)
    | inr fails ↦ rw fails (all-filter p xs all.1)
  ]

  all-take : (n : ℕ) (xs : List X) → AllByRecursion P xs → AllByRecursion P (take n xs)
  all-take zero xs all = tt
  all-take (suc n) [] all = tt
  all-take (suc n) (x ∷ xs) all = (all.0, all-take n xs all.1)

all-removed : (P : List ℕ × Page → Type 0) (test : List ℕ → Bool) (es : Entries)
    → AllByRecursion P es → AllByRecursion P (remove_entry test es)
all-removed P test [] all = tt
all-removed P test (e ∷ es) all = elim (cases_Bool (test e.0)) [
  | inl here ↦ rw here all.1
  | inr on ↦ rw on (all.0, all-removed P test es all.1)
]

pub right_found : (known : Known) (name : List ℕ) (es : Entries) (page : Page)
    → AllByRecursion (IsRightEntry known) es → lookup (is_same_text name) es ≡ Some page
    → IsRight known name page
right_found known name [] page all is = absurd cc
right_found known name (e ∷ es) page all is = elim (cases_Bool (is_same_text name e.0)) [
  | inl same ↦ here (same_text name e.0 same) (rw same at is)
  | inr other ↦ right_found known name es page all.1 (rw other at is)
] where
  here : name ≡ e.0 → Some e.1 ≡ Some page → IsRight known name page
  here key value =
      subst (λ (n : List ℕ). IsRight known n page) (sym key)
      (subst (IsRight known e.0) inner all.0)
    where
      inner : e.1 ≡ page
      inner = cc

-- what is kept stays right as the store tells more
module _ (before after : Known) (grew : Grew before after) where
  right_later : (es : Entries) → AllByRecursion (IsRightEntry before) es
      → AllByRecursion (IsRightEntry after) es
  right_later [] right = tt
  right_later (e ∷ es) right = (
    λ contents agrees. right.0 contents (agrees_before before after grew contents agrees),
    right_later es right.1,
  )

  pub sound_later : (kept : Kept) → IsSound before kept → IsSound after kept
  sound_later kept sound = record {
    right = right_later kept.entries sound.right;
    distinct = sound.distinct;
    few = sound.few;
    some = sound.some;
  }

-- ---- distinct names

distinct-filter : (p : List ℕ → Bool) (names : List (List ℕ)) → AreDistinct names
    → AreDistinct (filter p names)
unfolding IsDistinct
distinct-filter p [] distinct = tt
distinct-filter p (first ∷ names) distinct = elim (cases_Bool (p first)) [
  | inl holds ↦ rw holds (
    all-filter (λ other. is_same_text first other ≡ false) p names distinct.0,
    distinct-filter p names distinct.1,
  )
  | inr fails ↦ rw fails (distinct-filter p names distinct.1)
]

distinct-take : (n : ℕ) (names : List (List ℕ)) → AreDistinct names → AreDistinct (take n names)
unfolding IsDistinct
distinct-take zero names distinct = tt
distinct-take (suc n) [] distinct = tt
distinct-take (suc n) (first ∷ names) distinct = (
  all-take (λ other. is_same_text first other ≡ false) n names distinct.0,
  distinct-take n names distinct.1,
)

apart : (name : List ℕ) (names : List (List ℕ))
    → AllByRecursion (λ other. is_same_text name other ≡ false) (others name names)
apart name [] = tt
apart name (first ∷ names) = elim (cases_Bool (is_same_text first name)) [
  | inl same ↦ rw same (apart name names)
  | inr differs ↦ rw differs (nat_list_eq_equiv.symm name first ∙ differs, apart name names)
]

distinct-asking : (name : List ℕ) (names : List (List ℕ)) (n : ℕ) → AreDistinct names
    → AreDistinct (take n (name ∷ others name names))
unfolding IsDistinct
distinct-asking name names n distinct =
    distinct-take n (name ∷ others name names)
    (apart name names, distinct-filter (λ other. not (is_same_text other name)) names distinct)

-- ---- a list cut where it ends anyway

take-all : {X : Type 0} (n : ℕ) (xs : List X) → length xs ≤ n → take n xs ≡ xs
take-all zero [] few = refl
take-all zero (x ∷ xs) few = absurd (omega arith)
take-all (suc n) [] few = refl
take-all (suc n) (x ∷ xs) few = ap (λ (l : List _). x ∷ l) (take-all n xs (omega arith))

take-first : {X : Type 0} (n : ℕ) (x : X) (xs : List X) → 0 < n
    → take n (x ∷ xs) ≡ x ∷ take (n - 1) xs
take-first zero x xs some = absurd (omega arith)
take-first (suc n) x xs some = ap (λ (k : ℕ). x ∷ take k xs) (omega arith)

keys-take : (n : ℕ) (es : Entries) → keys_of (take n es) ≡ take n (keys_of es)
keys-take zero es = refl
keys-take (suc n) [] = refl
keys-take (suc n) (e ∷ es) = ap (λ (l : List (List ℕ)). e.0 ∷ l) (keys-take n es)

length-take_few : {X : Type 0} (n : ℕ) (xs : List X) → length (take n xs) ≤ n
length-take_few zero xs = omega arith
length-take_few (suc n) [] = omega arith
length-take_few (suc n) (x ∷ xs) = let rest = length-take_few n xs in omega arith

-- ---- a page that is found goes first

module _ (known : Known) (name : List ℕ) (kept : Kept)
    (sound : IsSound known kept) where
  names_first : (page other : Page) → lookup (is_same_text name) kept.entries ≡ Some page
      → keys_of ((name, other) ∷ remove_entry (is_same_text name) kept.entries)
      ≡ take kept.cap (name ∷ others name (keys_of kept.entries))
  names_first page other is =
      let names : keys_of (remove_entry (is_same_text name) kept.entries)
      ≡ others name (keys_of kept.entries) =
      without_found name kept.entries page sound.distinct is in
      let long : length (name ∷ others name (keys_of kept.entries)) ≡ length kept.entries =
      ap suc
      (ap length (sym names) ∙ length-keys_of (remove_entry (is_same_text name) kept.entries))
      ∙ length-removed name kept.entries page is in
      ap (λ (l : List (List ℕ)). name ∷ l) names
      ∙ sym (take-all kept.cap (name ∷ others name (keys_of kept.entries))
      (let few = sound.few in omega (arith, long)))

  names_new : lookup (is_same_text name) kept.entries ≡ None → (page : Page)
      → keys_of ((name, page) ∷ take (kept.cap - 1) kept.entries)
      ≡ take kept.cap (name ∷ others name (keys_of kept.entries))
  names_new none page =
      ap (λ (l : List (List ℕ)). name ∷ l) (keys-take (kept.cap - 1) kept.entries)
      ∙ sym (take-first kept.cap name (keys_of kept.entries) sound.some)
      ∙ ap (λ (l : List (List ℕ)). take kept.cap (name ∷ l))
      (sym (without_none name (keys_of kept.entries) (kept_none name kept.entries none)))

  -- entries with the names that asking leaves are sound where they are right
  sound_so : (es : Entries) → keys_of es ≡ take kept.cap (name ∷ others name (keys_of kept.entries))
      → AllByRecursion (IsRightEntry known) es → IsSound known (lru_cache es kept.cap)
  sound_so es is right = record {
    right = right;
    distinct =
        subst AreDistinct (sym is)
        (distinct-asking name (keys_of kept.entries) kept.cap sound.distinct);
    few =
        let long = sym (length-keys_of es) ∙ ap length is in
        let few = length-take_few kept.cap (name ∷ others name (keys_of kept.entries)) in
        omega (arith, long, few);
    some = sound.some;
  }

  asking_names : (es : Entries) (fresh : Bool)
      → keys_of es ≡ take kept.cap (name ∷ others name (keys_of kept.entries))
      → names_in (lru_cache es kept.cap) ≡ after_asking (name, fresh) (names_in kept)
  asking_names es fresh is =
      ap (λ (l : List (List ℕ)). record { names = l; capacity = kept.cap }) is

  promoted_is : (page : Page) → lookup (is_same_text name) kept.entries ≡ Some page
      → promoted (is_same_text name) kept.entries
      ≡ (name, page) ∷ remove_entry (is_same_text name) kept.entries
  promoted_is page is = rw (entry_found name kept.entries page is) refl

  pub promoted_none : lookup (is_same_text name) kept.entries ≡ None
      → promoted (is_same_text name) kept.entries ≡ kept.entries
  promoted_none none = rw (no_entry name kept.entries none) refl

  pub found_right : (page : Page) → lookup (is_same_text name) kept.entries ≡ Some page
      → IsRight known name page
  found_right page is = right_found known name kept.entries page sound.right is

  pub found_sound : (page : Page) → lookup (is_same_text name) kept.entries ≡ Some page
      → IsSound known (lru_cache (promoted (is_same_text name) kept.entries) kept.cap)
  found_sound page is =
      subst (λ (es : Entries). IsSound known (lru_cache es kept.cap)) (sym (promoted_is page is))
      (sound_so ((name, page) ∷ remove_entry (is_same_text name) kept.entries)
      (names_first page page is) (
        found_right page is,
        all-removed (IsRightEntry known) (is_same_text name) kept.entries sound.right,
      ))

  pub found_first : (page : Page) (fresh : Bool)
      → lookup (is_same_text name) kept.entries ≡ Some page
      → names_in (lru_cache (promoted (is_same_text name) kept.entries) kept.cap)
      ≡ after_asking (name, fresh) (names_in kept)
  found_first page fresh is =
      ap (λ (es : Entries). names_in (lru_cache es kept.cap)) (promoted_is page is)
      ∙ asking_names ((name, page) ∷ remove_entry (is_same_text name) kept.entries) fresh
      (names_first page page is)

  -- ---- a page is put

  put_found : (old page : Page) → lookup (is_same_text name) kept.entries ≡ Some old
      → put_entries is_same_text kept name page
      ≡ (name, page) ∷ remove_entry (is_same_text name) kept.entries
  put_found old page is = rw (entry_found name kept.entries old is) refl

  put_new : (page : Page) → lookup (is_same_text name) kept.entries ≡ None
      → put_entries is_same_text kept name page ≡ (name, page) ∷ take (kept.cap - 1) kept.entries
  put_new page none = rw (no_entry name kept.entries none) refl

  abbrev Put : Page → Type 0
  Put page =
      (keys_of (put_entries is_same_text kept name page)
      ≡ take kept.cap (name ∷ others name (keys_of kept.entries)))
      × AllByRecursion (IsRightEntry known) (put_entries is_same_text kept name page)

  put : (page : Page) → IsRight known name page
      → (found : Option Page) → lookup (is_same_text name) kept.entries ≡ found → Put page
  put page right (Some old) is = (
    ap keys_of (put_found old page is) ∙ names_first old page is,
    subst (AllByRecursion (IsRightEntry known)) (sym (put_found old page is))
        (right, all-removed (IsRightEntry known) (is_same_text name) kept.entries sound.right),
  )
  put page right None is = (
    ap keys_of (put_new page is) ∙ names_new is page,
    subst (AllByRecursion (IsRightEntry known)) (sym (put_new page is))
        (right, all-take (IsRightEntry known) (kept.cap - 1) kept.entries sound.right),
  )

  pub put_sound : (page : Page) → IsRight known name page
      → IsSound known (lru_cache (put_entries is_same_text kept name page) kept.cap)
  put_sound page right =
      let one = put page right (lookup (is_same_text name) kept.entries) refl in
      sound_so (put_entries is_same_text kept name page) one.0 one.1

  pub put_first : (page : Page) (fresh : Bool) → IsRight known name page
      → names_in (lru_cache (put_entries is_same_text kept name page) kept.cap)
      ≡ after_asking (name, fresh) (names_in kept)
  put_first page fresh right =
      asking_names (put_entries is_same_text kept name page) fresh
      (put page right (lookup (is_same_text name) kept.entries) refl).0
